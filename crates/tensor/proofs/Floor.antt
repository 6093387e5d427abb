-- Laws of the floor: the comparison of squares by products (`reach_by_products`), the floor's test by
-- them (`at_least_squares`) and its sizes (`scaled_small`), which way it goes (`passes_none`, `passes_over`,
-- `passes_reach`) and where it passes (`passes_iff`), at 0 (`passes_0`) and below (`passes_below`).
use mathlib.Core.Bool.{true, false, ◌||◌}
use mathlib.Core.Logic.{inl, inr, ⊎_elim, ◌↔◌}
use mathlib.Core.Path.{◌≡◌, refl, sym, ap, ap₂, ◌∙◌}
use Prim.Native.Nat.{ℕ, ◌+◌, ◌-◌, ◌*◌, ◌^◌, ◌≤◌, ◌<◌}
use native.Mathlib.Nat.{add_assoc, add_comm, add_left_comm, mul_assoc, mul_comm, mul_left_comm, mul-add, add-mul}
use native.Mathlib.Nat.{mul-le-mul, mul-le-mul_right, le_trans, one-mul, zero-mul, pow-zero, pow-suc, pow-le-pow_left}
use native.Mathlib.Omega.{arith}
use borrow.Author.Tests.{eqb-true, eqb-false, eq-eqb, ne_eqb, ltb-false, le-ltb, leb-true, leb-false, le-leb, lt-leb}
use lib.Dec.{eqb, ltb, leb}
use lib.IntN.{ℤ, pos, nat_abs, ◌+ℤ◌, ◌-ℤ◌}
use Rattle.numbers.proofs.Int.Size.{nat_abs_add, nat_abs_sub, nat_abs_zero}
use Rattle.numbers.proofs.Test.{by_test, false_not_true, or_false_intro, or_false_left, or_false_right, leb_same}
use Rattle.tensor.specs.Confidence.{max_floor, at_least, passes, Confident}
use Rattle.tensor.specs.Tensor.{no_direction, Small}

-- ---- squares

pub square : (n : ℕ) → n ^ 2 ≡ n * n
square n = pow-suc n 1 ∙ ap (◌* n) (pow-suc n 0 ∙ ap (◌* n) (pow-zero n) ∙ one-mul n)

pub square_mul : (m n : ℕ) → (m * n) ^ 2 ≡ m ^ 2 * n ^ 2
square_mul m n = rw (square (m * n), square m, square n) (simp (mul_assoc, mul_comm, mul_left_comm) refl)

square_le : {m n : ℕ} → m ≤ n → m ^ 2 ≤ n ^ 2
square_le h = pow-le-pow_left h 2

zero_reaches : {c : ℕ} → c ≡ 0 → (m n : ℕ) → c ^ 2 * m ≤ n
zero_reaches z m n = rw z (omega (arith, zero-mul m))

-- ---- x² + y² ≥ z²

module _ (x y z : ℕ) where
  -- (z − y) × (z + y) = z² − y²
  difference : y < z → (z - y) * (z + y) + y ^ 2 ≡ z ^ 2
  difference h = go (z - y) (omega arith)
    where
      go : (k : ℕ) → z ≡ k + y → k * (z + y) + y ^ 2 ≡ z ^ 2
      go k e = rw (square y, square z, e)
          (simp (mul-add, add-mul, mul_assoc, mul_comm, mul_left_comm, add_assoc, add_comm, add_left_comm) refl)

  pub reach_by_products : y < z → leb ((z - y) * (z + y)) (x * x) ≡ leb (z ^ 2) (x ^ 2 + y ^ 2)
  reach_by_products h =
      let d = difference h in
      let s = square x in
      leb_same ((z - y) * (z + y)) (x * x) (z ^ 2) (x ^ 2 + y ^ 2) (λ k. omega arith) (λ k. omega arith)

-- ---- the floor's test

-- what is squared
abbrev pub scaled : ℕ → ℤ → ℤ → ℤ → ℕ × ℕ × ℕ
scaled c A C E = ((512 - c) * nat_abs (A -ℤ E), (512 - c) * (2 * nat_abs C), c * nat_abs (A +ℤ E))

-- its sizes, with 2^42 for those of D, 2C and A + E
pub record ScaledSmall (c : ℕ) (A C E : ℤ) : Type 0 where
  pub x_most : (scaled c A C E).0 ≤ 512 * 4398046511104
  pub y_most : (scaled c A C E).1 ≤ 512 * 4398046511104
  pub z_most : (scaled c A C E).2 ≤ 256 * 4398046511104

module _ (c : ℕ) (A C E : ℤ) where
  pub at_least_squares : let s = scaled c A C E in leb (s.2 ^ 2) (s.0 ^ 2 + s.1 ^ 2) ≡ at_least c A C E
  at_least_squares =
      let k = 512 - c in
      let d = nat_abs (A -ℤ E) in
      let s = nat_abs C in
      let e : (k * (2 * s)) ^ 2 ≡ k ^ 2 * (4 * s ^ 2) =
      square_mul k (2 * s) ∙ ap (λ (n : ℕ). k ^ 2 * n) (square_mul 2 s) in
      ap₂ leb (square_mul c (nat_abs (A +ℤ E)))
      (ap₂ ◌+◌ (square_mul k d) e ∙ sym (mul-add (k ^ 2) (d ^ 2) (4 * s ^ 2)))

  module _ (small : Small A C E) where
    difference-small : nat_abs (A -ℤ E) ≤ 4398046511104
    difference-small = omega (arith, nat_abs_sub A E, small.small_a, small.small_e)

    trace-small : nat_abs (A +ℤ E) ≤ 4398046511104
    trace-small = omega (arith, nat_abs_add A E, small.small_a, small.small_e)

    pub scaled_small : c ≤ max_floor → ScaledSmall c A C E
    scaled_small h =
        record {
          x_most = mul-le-mul {n₂ = 512} (omega arith) difference-small;
          y_most = mul-le-mul {n₂ = 512} {m₂ = 4398046511104} (omega arith) (omega (arith, small.small_c));
          z_most = mul-le-mul h trace-small;
        }

  -- ---- which way it goes

  module _ (w h : ℕ) where
    pub passes_none : no_direction w h A E ≡ true → passes c w h A C E ≡ eqb c 0
    unfolding passes
    passes_none e = rw e

    pub passes_over : no_direction w h A E ≡ false → max_floor < c → passes c w h A C E ≡ false
    unfolding passes
    passes_over e over = rw (e, lt-leb c max_floor over)

    pub passes_reach : no_direction w h A E ≡ false → c ≤ max_floor → passes c w h A C E ≡ at_least c A C E
    unfolding passes
    passes_reach e most = rw (e, le-leb c max_floor most)

  -- ---- .. and where it passes

  module _ (w h : ℕ) where
    some : no_direction w h A E ≡ false → (3 ≤ w) × (3 ≤ h) × (A +ℤ E ≡ pos 0 → ⊥)
    some e =
        let sides = or_false_left (ltb w 3 || ltb h 3) (eqb (nat_abs (A +ℤ E)) 0) e in
        let sum = or_false_right (ltb w 3 || ltb h 3) (eqb (nat_abs (A +ℤ E)) 0) e in (
          ltb-false w 3 (or_false_left (ltb w 3) (ltb h 3) sides),
          ltb-false h 3 (or_false_right (ltb w 3) (ltb h 3) sides),
          λ z. eqb-false (nat_abs (A +ℤ E)) 0 sum (ap nat_abs z),
        )

    none_of : (3 ≤ w) × (3 ≤ h) × (A +ℤ E ≡ pos 0 → ⊥) → no_direction w h A E ≡ false
    none_of k =
        or_false_intro (or_false_intro (le-ltb w 3 k.0) (le-ltb h 3 k.1))
        (ne_eqb (nat_abs (A +ℤ E)) 0 (λ z. k.2 (nat_abs_zero (A +ℤ E) z)))

    confident : passes c w h A C E ≡ true → Confident c w h A C E
    confident p =
        by_test (no_direction w h A E)
        (λ e.
        let z = eqb-true c 0 (sym (passes_none w h e) ∙ p) in
        record { most = omega arith; directed = inl z; reaches = zero_reaches z _ _ })
        (λ e. by_test (leb c max_floor)
        (λ t.
        let m = leb-true c max_floor t in
        record { most = m; directed = inr (some e); reaches = leb-true _ _ (sym (passes_reach w h e m) ∙ p) })
        (λ over. absurd (false_not_true (passes_over w h e (leb-false c max_floor over)) p)))

    confident-passes : Confident c w h A C E → passes c w h A C E ≡ true
    confident-passes k =
        by_test (no_direction w h A E)
        (λ e. passes_none w h e
        ∙ eq-eqb c 0 (⊎_elim (λ z. z) (λ s. absurd (false_not_true (none_of s) e)) k.directed))
        (λ e. passes_reach w h e k.most ∙ le-leb _ _ k.reaches)

    pub passes_iff : (passes c w h A C E ≡ true) ↔ Confident c w h A C E
    passes_iff = (confident, confident-passes)

-- ---- other floors

module _ (w h : ℕ) (A C E : ℤ) where
  -- floor 0 leaves nothing out
  pub passes_0 : passes 0 w h A C E ≡ true
  passes_0 =
      (passes_iff 0 A C E w h).1 (record { most = omega arith; directed = inl refl; reaches = zero_reaches refl _ _ })

  -- a higher floor never lets more pass
  pub passes_below : {c c' : ℕ} → c ≤ c' → passes c' w h A C E ≡ true → passes c w h A C E ≡ true
  passes_below {c} {c'} le p =
      let k = (passes_iff c' A C E w h).0 p in
      (passes_iff c A C E w h).1
      (record {
        most = le_trans le k.most;
        directed = ⊎_elim (λ z. inl (omega arith)) inr k.directed;
        reaches =
            le_trans (mul-le-mul_right _ (square_le le))
            (le_trans k.reaches (mul-le-mul_right _ (square_le (omega arith))));
      })
