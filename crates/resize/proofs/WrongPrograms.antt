-- Document 02, K8: "each halving rounds". A program that takes one mean over the whole block, rounded once, does not
-- meet the contract (`block_mean_refused`); no edit of ours makes it, so it is refuted on K8's 4 by 4 picture.
use Prim.Native.Nat.{ℕ, ◌+◌, ◌*◌, ◌/◌, ◌^◌, ◌≤◌}
use native.Mathlib.Nat.{le_refl}
use native.Mathlib.Omega.{arith}
use mathlib.Core.List.{List, [], ◌∷◌}
use mathlib.Core.Path.{◌≡◌, refl}
use lib.ListN.{length}
use Rattle.numbers.specs.Sum.{count}
use Rattle.numbers.proofs.Written.{painted_get}
use Rattle.std.specs.Prelude.{Result}
use Rattle.image.specs.Call.{gray8}
use Rattle.image.specs.declared.refusal.Refusal.{Refusal}
use Rattle.image.specs.Picture.{pixel}
use Rattle.image.specs.Refusal.{layout_refusal, sized_refusal}
use Rattle.image.proofs.Call.{decided_none}
use Rattle.resize.specs.Call.{count_refusal, halving_refusal, Halved}
use Rattle.resize.specs.Halving.{mean_of_four, halved_times, side_after, starts_below2}
use Rattle.resize.proofs.Refusals.{halve_0}

-- the mean over 2^n by 2^n pixels, a half rounded up
block_mean : ℕ → (ℕ → ℕ → ℕ) → ℕ → ℕ → ℕ
block_mean n px c r =
    (count (λ j. count (λ i. px (2 ^ n * c + i) (2 ^ n * r + j)) (2 ^ n)) (2 ^ n) + 4 ^ n / 2) / 4 ^ n

four : List ℕ
four = 1 ∷ 2 ∷ 1 ∷ 1 ∷ 2 ∷ 2 ∷ 0 ∷ 0 ∷ 2 ∷ 1 ∷ 2 ∷ 2 ∷ 0 ∷ 0 ∷ 1 ∷ 1 ∷ []

-- once, the two are the same
once : block_mean 1 (pixel four 4) 1 1 ≡ halved_times 1 (pixel four 4) 1 1
unfolding block_mean four count mean_of_four halved_times
once = refl

starts : halving_refusal 16 4 4 4 1 1 1 1 2 ≡ 0
unfolding halving_refusal layout_refusal sized_refusal count_refusal starts_below2 side_after
starts = refl

block_mean_refused : {old : ℕ} {scratch scratch₁ : List ℕ} (answer : Result (Unit {0}) Refusal) → 16 ≤ length scratch
    → Halved 2 (gray8 four 4 4 4) (gray8 (old ∷ []) 1 1 1) (block_mean 2 (pixel four 4) 0 0 ∷ []) scratch scratch₁ answer
    → ⊥
unfolding block_mean four count mean_of_four halved_times side_after
block_mean_refused {scratch = scratch} answer enough call =
    let painted = call.written tt (decided_none (halve_0 16 4 4 4 1 1 1 1 2 (length scratch) starts enough) tt) in
    let get = painted_get (halved_times 2 (pixel four 4)) 1 1 1 painted 0 0 in
    let one : ◌≡◌ {A = ℕ} 1 2 = get (omega arith) (omega arith) (le_refl 1) (omega arith) in
    omega arith
