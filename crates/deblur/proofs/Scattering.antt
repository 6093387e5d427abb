-- Laws of a line's scatter, over any element: how it begins, goes on by a place, and that its places lie in the
-- destination.
use mathlib.Core.Path.{◌≡◌, sym, ap, ◌∙◌}
use mathlib.Core.List.{List}
use Prim.Native.Nat.{ℕ, ◌+◌, ◌-◌, ◌*◌, ◌/◌, ◌≤◌, ◌<◌}
use native.Mathlib.Nat.{add-sub_cancel_left, mul-le-mul_right}
use native.Mathlib.Omega.{arith}
use lib.IntN.{ℤ}
use lib.ListN.{length, set}
use Rattle.numbers.specs.Written.{Written, comb}
use Rattle.numbers.proofs.Places.{comb_none, comb_next}
use Rattle.numbers.proofs.Written.{written_none, written_set}
use Rattle.raster.proofs.Scatter.{place_back}
use Rattle.line.specs.Kernel.{line_at}
use Rattle.deblur.specs.Scatter.{ScatterAsked}

-- the first i places of a line of n are written
abbrev pub ScatteredTo : {A : Type 0} → A → (ℤ → A) → ℕ → ℕ → List ℤ → ℕ → ℕ → List A → List A → Type 0
ScatteredTo z g i n scratch start step old new = Written z (comb start step i)
    (λ j. g (line_at n scratch ((j - start) / step))) old new

-- place i is a place of the destination
pub place_in : {dst_len start step n scratch_len : ℕ} → ScatterAsked dst_len start step n scratch_len → {i : ℕ} → i < n
    → start + i * step < dst_len
place_in {start = start} {step} {n} asked {i} below =
    let m : i * step ≤ (n - 1) * step = mul-le-mul_right step (omega arith) in
    let r = asked.laid.reached in
    omega arith

module _ {A : Type 0} {z : A} (g : ℤ → A) (n : ℕ) (scratch : List ℤ) (start step : ℕ) {old : List A} where
  pub scatter_none : ScatteredTo z g 0 n scratch start step old old
  scatter_none = written_none (λ j _. comb_none start step j)

  module _ (asked : ScatterAsked (length old) start step n (length scratch)) {i : ℕ} (below : i < n) where
    pub scatter_next : {new : List A} (v : A) → v ≡ g (line_at n scratch i)
        → ScatteredTo z g i n scratch start step old new
        → ScatteredTo z g (i + 1) n scratch start step old (set new (start + i * step) v)
    scatter_next v e W =
        let place : (start + i * step - start) / step
        ≡ i = ap (λ (m : ℕ). m / step) (add-sub_cancel_left start (i * step))
        ∙ place_back step n i asked.apart below in
        written_set (start + i * step) v W (rw W.same_length (place_in asked below))
        (e ∙ ap (λ (p : ℕ). g (line_at n scratch p)) (sym place)) (comb_next start step i)
