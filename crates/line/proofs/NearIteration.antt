-- The working run lies near the exact one, over any window and for every source, place and q ≤ 65,536
-- (`iteration_near`): all that is asked of the two windows is that they are near where the samples are (`window-near`).
-- One section serves both bounds: Dk with 2 Dk + g ≤ D(k+1), where g makes room for the quotient's error e. In order:
-- the mean's error, the gain with the quotient's error, the sum.
use mathlib.Core.Logic.{⊎_elim}
use mathlib.Core.Path.{◌≡◌, refl, ap, ◌∙◌}
use Prim.Native.Nat.{ℕ, zero, suc, ◌+◌, ◌*◌, ◌^◌, ◌≤◌, ◌<◌, zero-le}
use native.Mathlib.Nat.{le_of_lt, lt_of_lt_of_le, mul-le-mul_left, mul-le-mul_right}
use native.Mathlib.Nat.{one-le-pow, pow-zero, pow-succ', two-pow-succ}
use native.Mathlib.Numerals.{add-one}
use native.Mathlib.Omega.{arith}
use lib.IntN.{ℤ, pos, nat_abs, ◌+ℤ◌, ◌-ℤ◌, ◌*ℤ◌, *ℤ_comm}
use lib.Signed.{◌≤ℤ◌, ◌<ℤ◌, shr_z, quot_z}
use Rattle.numbers.proofs.Int.Ring.{z_ind, zring, ⊖-same, *ℤ-add, one-*ℤ, -ℤ-self}
use Rattle.numbers.proofs.Int.Linear.{up, dn, linear, up_add, up_sub, nat_abs_up_dn, up_or_dn}
use Rattle.numbers.proofs.Int.Divide.{shr_low, shr_high, quot_near, quot_exact}
use Rattle.numbers.proofs.Int.Size.{nat_abs_add, nat_abs_sub, nat_abs_mul}
use Rattle.floats.specs.Factor.{scale}
use Rattle.line.specs.Iteration.{Window, mean, stepped, after}
use Rattle.line.specs.Exact.{scale_of, exact, value_after}
use Rattle.line.specs.Near.{Near, bound, bound_at_one}
use Rattle.line.proofs.IterationLaws.{mean_is, stepped_is, after_zero, after_suc}

-- a distance as two linear facts
pub apart_up : (x z : ℤ) {c : ℕ} → nat_abs (x -ℤ z) < c
    → (up x + dn z < up z + dn x + c) × (up z + dn x < up x + dn z + c)
apart_up x z h = (omega (arith, up_sub x z, nat_abs_up_dn (x -ℤ z)), omega (arith, up_sub x z, nat_abs_up_dn (x -ℤ z)))

pub apart_by_up : (x z : ℤ) {c : ℕ} → up x + dn z < up z + dn x + c → up z + dn x < up x + dn z + c
    → nat_abs (x -ℤ z) < c
apart_by_up x z h k =
    ⊎_elim
    (λ (e : up (x -ℤ z) ≡ 0). omega (arith, up_sub x z, nat_abs_up_dn (x -ℤ z)))
    (λ (e : dn (x -ℤ z) ≡ 0). omega (arith, up_sub x z, nat_abs_up_dn (x -ℤ z)))
    (up_or_dn (x -ℤ z))

-- what the floor leaves
floor_near : (z : ℤ) (m : ℕ) → 0 < m → nat_abs (z -ℤ pos m *ℤ shr_z z m) < m
floor_near z m h =
    let x = pos m *ℤ shr_z z m in
    let low : x ≤ℤ z = shr_low z m h in
    let high : z <ℤ (x +ℤ pos (m * 1)) = rw (*ℤ-add (pos m) (shr_z z m) (pos 1)) at (shr_high z m h) in
    apart_by_up z x (omega (arith, linear, up_add x (pos (m * 1)))) (omega (arith, linear))

-- ---- how the differences come apart: the residual's into the floor's and the window's, the gain's into the residual's
-- and the quotient's, the sum's

residual_apart : (l s : ℕ) (b f w v : ℤ)
    → pos (l * s) *ℤ (b -ℤ f) -ℤ (pos (l * s) *ℤ b -ℤ v) ≡ pos s *ℤ (w -ℤ pos l *ℤ f) -ℤ (pos s *ℤ w -ℤ v)
residual_apart l s =
    z_ind _ λ b b'. z_ind _ λ f f'. z_ind _ λ w w'. z_ind _ λ v v'. simp zring (omega (arith, ⊖-same))

gain_apart : (t l s q : ℕ) (r g x : ℤ)
    → pos (t * l * s) *ℤ g -ℤ pos q *ℤ x ≡ pos q *ℤ (pos (l * s) *ℤ r -ℤ x) -ℤ pos (l * s) *ℤ (r *ℤ pos q -ℤ pos t *ℤ g)
gain_apart t l s q = z_ind _ λ r r'. z_ind _ λ g g'. z_ind _ λ x x'. simp zring (omega (arith, ⊖-same))

sum_apart : (t s : ℕ) (y g n x : ℤ)
    → pos (t * s) *ℤ (y +ℤ g) -ℤ (pos t *ℤ n +ℤ x) ≡ pos t *ℤ (pos s *ℤ y -ℤ n) +ℤ (pos (t * s) *ℤ g -ℤ x)
sum_apart t s = z_ind _ λ y y'. z_ind _ λ g g'. z_ind _ λ n n'. z_ind _ λ x x'. simp zring (omega (arith, ⊖-same))

-- ---- what the exact run says

module _ {P : Type 0} (E : ℕ → Window P) (taps : ℕ) (b : P → ℤ) (q : ℕ) where
  exact-zero : (p : P) → exact E taps b q 0 p ≡ b p
  unfolding exact
  exact-zero p = refl

  exact-suc : (k : ℕ) (p : P) → exact E taps b q (suc k) p
      ≡ pos (scale_of taps) *ℤ exact E taps b q k p
      +ℤ pos q *ℤ (pos (taps * scale_of taps ^ k) *ℤ b p -ℤ E (scale_of taps ^ k) (exact E taps b q k) p)
  unfolding exact
  exact-suc k p = refl

-- ---- the bounds: each leaves the step its room

bound_grows : (k : ℕ) → 2 * bound k + 2 ≤ bound (suc k)
bound_grows k = simp add-one (omega (arith, two-pow-succ k, two-pow-succ (suc k), one-le-pow k 2 (omega arith)))

bound_at_one_grows : (k : ℕ) → 2 * bound_at_one k + 1 ≤ bound_at_one (suc k)
bound_at_one_grows k = omega (arith, two-pow-succ k, one-le-pow k 2 (omega arith))

-- ---- the runs, over a window W of the working one and E of the exact one

-- working samples y are at most d from exact ones N over the power s
abbrev pub Close : {P : Type 0} → ℕ → ℕ → (P → ℤ) → (P → ℤ) → Type 0
Close s d y N = (p : _) → nat_abs (pos s *ℤ y p -ℤ N p) ≤ d * s

module _ {P : Type 0} (W : Window P) (E : ℕ → Window P) (taps : ℕ) (some : 0 < taps)
    (window-near : (y N : P → ℤ) (s d : ℕ) → Close s d y N → (p : P)
    → nat_abs (pos s *ℤ W y p -ℤ E s N p) ≤ taps * (d * s))
    (b : P → ℤ) (q : ℕ) (small : q ≤ scale) where
  -- what the quotient cuts off a residual
  abbrev lost : ℤ → ℕ
  lost r = nat_abs (r *ℤ pos q -ℤ pos scale *ℤ quot_z (r *ℤ pos q) (pos scale))

  -- one step
  module _ (y N : P → ℤ) (s d : ℕ) (close : Close s d y N) (p : P) where
    abbrev residual : ℤ
    residual = b p -ℤ mean W taps y p

    abbrev exact_residual : ℤ
    exact_residual = pos (taps * s) *ℤ b p -ℤ E s N p

    abbrev quotient : ℤ
    quotient = quot_z (residual *ℤ pos q) (pos scale)

    -- the mean's error
    residual-near : nat_abs (pos (taps * s) *ℤ residual -ℤ exact_residual) + s ≤ taps * s + taps * (d * s)
    residual-near =
        let w = W y p in
        let f = mean W taps y p in
        let v = E s N p in
        let left : nat_abs (w -ℤ pos taps *ℤ f) < taps = rw (mean_is W taps y p) (floor_near w taps some) in
        rw (residual_apart taps s (b p) f w v)
        (omega (
          arith,
          nat_abs_sub (pos s *ℤ (w -ℤ pos taps *ℤ f)) (pos s *ℤ w -ℤ v),
          nat_abs_mul (pos s) (w -ℤ pos taps *ℤ f),
          mul-le-mul_left s left,
          window-near y N s d close p,
        ))

    module _ (e : ℕ) (cuts : lost residual ≤ e) where
      -- with the quotient's error
      gain-near : nat_abs (pos (scale_of taps * s) *ℤ quotient -ℤ pos q *ℤ exact_residual) + scale * s
          ≤ scale * (taps * s + taps * (d * s)) + taps * s * e
      gain-near =
          let x = pos (taps * s) *ℤ residual -ℤ exact_residual in
          let r = residual *ℤ pos q -ℤ pos scale *ℤ quotient in
          rw (gain_apart scale taps s q residual quotient exact_residual)
          (omega (
            arith,
            nat_abs_sub (pos q *ℤ x) (pos (taps * s) *ℤ r),
            nat_abs_mul (pos q) x,
            nat_abs_mul (pos (taps * s)) r,
            mul-le-mul_right (nat_abs x) small,
            residual-near,
            mul-le-mul_left (taps * s) cuts,
          ))

      step-near : (g : ℕ) → e + scale ≤ scale * g → 0 < s
          → nat_abs (pos (scale_of taps * s) *ℤ stepped W taps b q y p
          -ℤ (pos (scale_of taps) *ℤ N p +ℤ pos q *ℤ exact_residual))
          < (2 * d + g) * (scale_of taps * s)
      step-near g room power =
          let S = scale_of taps in
          let x = pos s *ℤ y p -ℤ N p in
          let z = pos (S * s) *ℤ quotient -ℤ pos q *ℤ exact_residual in
          rw (stepped_is W taps b q y p, sum_apart S s (y p) quotient (N p) (pos q *ℤ exact_residual))
          (omega (
            arith,
            nat_abs_add (pos S *ℤ x) z,
            nat_abs_mul (pos S) x,
            mul-le-mul_left S (close p),
            gain-near,
            mul-le-mul_left (taps * s) room,
          ))

  -- k steps: how far apart the runs are, over S^k
  abbrev apart : ℕ → P → ℕ
  apart k p = nat_abs (pos (scale_of taps ^ k) *ℤ after W taps b q k p -ℤ exact E taps b q k p)

  module _ (e g : ℕ) (room : e + scale ≤ scale * g) (cuts : (r : ℤ) → lost r ≤ e)
      (D : ℕ → ℕ) (grows : (k : ℕ) → 2 * D k + g ≤ D (suc k)) where
    after-step : (k : ℕ) → ((p : P) → apart k p ≤ D k * scale_of taps ^ k) → (p : P)
        → apart (suc k) p < D (suc k) * scale_of taps ^ suc k
    after-step k h p =
        let S = scale_of taps in
        let y = after W taps b q k in
        let N = exact E taps b q k in
        let power : 0 < S ^ k = one-le-pow k S (omega arith) in
        rw (after_suc W taps b q k p, exact-suc E taps b q k p, pow-succ' S k)
        (lt_of_lt_of_le
        (step-near y N (S ^ k) (D k) h p e (cuts (b p -ℤ mean W taps y p)) g room power)
        (mul-le-mul_right (S * S ^ k) (grows k)))

    after-close : (k : ℕ) (p : P) → apart k p ≤ D k * scale_of taps ^ k
    after-close zero p =
        rw (pow-zero (scale_of taps), after_zero W taps b q p, exact-zero E taps b q p, one-*ℤ (b p), -ℤ-self (b p))
        zero-le
    after-close (suc k) p = le_of_lt (after-step k (after-close k) p)

    after-near : (k : ℕ) (p : P) → apart (suc k) p < D (suc k) * scale_of taps ^ suc k
    after-near k p = after-step k (after-close k) p

  -- less than 1, and at relaxation 1 nothing
  cut-error : (r : ℤ) → lost r ≤ 65535
  cut-error r = omega (arith, quot_near (r *ℤ pos q) {d = scale} (omega arith))

  no-error : q ≡ scale → (r : ℤ) → lost r ≤ 0
  no-error one r =
      let e : r *ℤ pos q ≡ pos scale *ℤ r = ap (λ (j : ℕ). r *ℤ pos j) one ∙ *ℤ_comm r (pos scale) in
      rw (e, quot_exact {d = scale} (omega arith) r, -ℤ-self (pos scale *ℤ r)) zero-le

  pub iteration_near : (k : ℕ) (p : P) → 1 ≤ k
      → Near q k (after W taps b q k p) (value_after taps k (exact E taps b q k p))
  iteration_near zero p h = absurd (omega arith)
  iteration_near (suc k) p h =
      record {
        near = after-near 65535 2 (omega arith) cut-error bound bound_grows k p;
        near_at_one = λ one. after-near 0 1 (omega arith) (no-error one) bound_at_one bound_at_one_grows k p;
      }
