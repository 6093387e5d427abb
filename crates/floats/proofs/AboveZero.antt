-- Where a double is above zero: the difference of two doubles is, if the first is the larger, since it is not rounded
-- to zero. So are a product by what is at least 1 and a quotient by what is at most 1. Each may be infinite; what is
-- above zero and bounded is finite too (`positive_bounded`).
use Rattle.std.proofs.Common.{◌≡◌, ℕ, ◌+◌, ◌-◌, ◌*◌, ◌^◌, ◌<◌, ◌≤◌, Bool, true, false, T, eqb, ltb, ℤ, sym, refl, ap, subst, true≢false, le_trans, le_of_eq, mul-le-mul_right, mul_comm, mul-le-mul, lt_of_mul-lt-mul_right, mul-pos, one-mul, arith, lit<, ltb→lt, pow_pos, ltb-true, le-ltb, ne_eqb}
use lib.Ieee.{Float, nan, inf, fin, binary64, up, down, round, neg, sum, add, sub, mul, div, lt, fits}
use lib.Ieee.Fits.{up_pos, down_pos}
use lib.Ieee.Exact.{HasValue, round_exact}
use lib.Ieee.Order.{round_mono}
use lib.Ieee.Positive.{positive, above, above_of_le, positive_of_value, first_pos}
use Rattle.floats.proofs.Values.{fits_down, in_units}
use Rattle.floats.proofs.Rounded.{Bounded, AtLeastOne}

-- above zero, perhaps infinite, and a value of the format
pub record AboveZero (x : Float) : Type 0 where
  pub above : T (above x)
  pub holds : T (fits binary64 x)

pub positive_bounded : (B : ℕ) (z : Float) → T (above z) → Bounded B z → T (positive z)
positive_bounded B nan a h = a
positive_bounded B (inf s) a h = h
positive_bounded B (fin true m e) a h = a
positive_bounded B (fin false m e) a h = a

-- ---- what is not rounded to zero: a fraction of at least 2 ^ -1074

smallest : HasValue (round binary64 false 1 (2 ^ 1074)) false 1 (2 ^ 1074)
smallest = round_exact binary64 false 1 (2 ^ 1074) 1 0 (pow_pos 1074) (lit< tt) (lit< tt) refl

above_round : (k c : ℕ) → 0 < c → c ≤ k * 2 ^ 1074 → T (above (round binary64 false k c))
above_round k c C h =
    let lo = round binary64 false 1 (2 ^ 1074) in
    above_of_le lo (round binary64 false k c) (positive_of_value lo 1 (2 ^ 1074) smallest (pow_pos 0))
    (round_mono binary64 1 (2 ^ 1074) k c (pow_pos 1074) C (le_trans (le_of_eq (one-mul c)) h))

-- ---- sum and difference: in units of 2 ^ -1074 both are whole numbers, and so is what comes of them

in_smallest : (s : Bool) (m : ℕ) (e : ℤ) → T (fits binary64 (fin s m e)) → (x : ℕ) × (m * up e * 2 ^ 1074 ≡ x * down e)
in_smallest s m e t = let u = in_units binary64 e (fits_down binary64 s m e t) in
    (m * 2 ^ u.0, go (up e) (down e) (2 ^ u.0) (2 ^ 1074) u.1)
  where
    go : (a b c l : ℕ) → l * a ≡ c * b → m * a * l ≡ m * c * b
    go a b c l h = omega (arith, ap (m *◌) h)

-- M / E is x / L and N / D is y / L
module _ (M N E D x y L : ℕ) (p : M * L ≡ x * E) (q : N * L ≡ y * D) where
  at-least-unit : (k : ℕ) → 0 < L → 0 < k → k * L + y * (D * E) ≡ x * (E * D) → E * D ≤ k * L
  at-least-unit k l z e =
      let some : 0 < k * L = mul-pos z l in
      let less : y * (E * D) < x * (E * D) = omega (arith, some, e) in
      omega (arith, e, mul-le-mul_right (E * D) (lt_of_mul-lt-mul_right (E * D) less))

  difference-units : 0 < L → N * E < M * D → E * D ≤ (M * D - N * E) * L
  difference-units l h =
      let k : (M * D - N * E) + N * E ≡ M * D = omega arith in
      at-least-unit (M * D - N * E) l (omega arith) (omega (arith, ap (◌* L) k, ap (◌* D) p, ap (◌* E) q))

  sum-units : 0 < L → 0 < M * D + N * E → E * D ≤ (M * D + N * E) * L
  sum-units l h =
      let some : 0 < (M * D + N * E) * L = mul-pos h l in
      let whole : (M * D + N * E) * L ≡ (x + y) * (E * D) = omega (arith, ap (◌* D) p, ap (◌* E) q) in
      let one : 0 < x + y = first_pos (x + y) (E * D) (subst (0 <◌) whole some) in
      omega (arith, whole, mul-le-mul_right (E * D) one)

above_sub_positive : (m n : ℕ) (e d : ℤ) (s t : Bool) → T (fits binary64 (fin s m e)) → T (fits binary64 (fin t n d))
    → n * up d * down e < m * up e * down d
    → T (above (round binary64 false (m * up e * down d - n * up d * down e) (down e * down d)))
above_sub_positive m n e d s t p q l =
    let x = in_smallest s m e p in
    let y = in_smallest t n d q in
    above_round (m * up e * down d - n * up d * down e) (down e * down d) (mul-pos (down_pos e) (down_pos d))
    (difference-units (m * up e) (n * up d) (down e) (down d) x.0 y.0 (2 ^ 1074) x.1 y.1 (pow_pos 1074) l)

pub above_sub : (x y : Float) → T (fits binary64 x) → T (fits binary64 y) → lt y x ≡ true → T (above (sub binary64 x y))
unfolding sub add neg sum lt
above_sub nan nan p q l = absurd (true≢false (sym l))
above_sub nan (inf t) p q l = absurd (true≢false (sym l))
above_sub nan (fin t n d) p q l = absurd (true≢false (sym l))
above_sub (inf s) nan p q l = absurd (true≢false (sym l))
above_sub (inf true) (inf true) p q l = absurd (true≢false (sym l))
above_sub (inf true) (inf false) p q l = absurd (true≢false (sym l))
above_sub (inf false) (inf true) p q l = tt
above_sub (inf false) (inf false) p q l = absurd (true≢false (sym l))
above_sub (inf true) (fin t n d) p q l = absurd (true≢false (sym l))
above_sub (inf false) (fin t n d) p q l = tt
above_sub (fin s m e) nan p q l = absurd (true≢false (sym l))
above_sub (fin s m e) (inf true) p q l = tt
above_sub (fin s m e) (inf false) p q l = absurd (true≢false (sym l))
above_sub (fin true m e) (fin false n d) p q l = absurd (true≢false (sym l))
above_sub (fin false m e) (fin true n d) p q l =
    let x = in_smallest false m e p in
    let y = in_smallest true n d q in
    let some : 0 < n * up d * down e + m * up e * down d = ltb-true 0 (n * up d * down e + m * up e * down d) l in
    above_round (m * up e * down d + n * up d * down e) (down e * down d) (mul-pos (down_pos e) (down_pos d))
    (sum-units (m * up e) (n * up d) (down e) (down d) x.0 y.0 (2 ^ 1074) x.1 y.1 (pow_pos 1074)
    (omega (arith, some)))
above_sub (fin false m e) (fin false n d) p q l =
    let k : n * up d * down e < m * up e * down d = ltb-true (n * up d * down e) (m * up e * down d) l in
    rw (le-ltb (m * up e * down d) (n * up d * down e) (omega arith)) (above_sub_positive m n e d false false p q k)
above_sub (fin true m e) (fin true n d) p q l =
    rw l
    (subst (λ (c : ℕ). T (above (round binary64 false (n * up d * down e - m * up e * down d) c)))
    (mul_comm (down d) (down e))
    (above_sub_positive n m d e true true q p (ltb-true (m * up e * down d) (n * up d * down e) l)))

some_not_zero : (n : ℕ) → T (ltb 0 n) → eqb n 0 ≡ false
some_not_zero n p = let h = ltb→lt 0 n p in ne_eqb n 0 (λ (z : n ≡ 0). omega arith)

-- b ≤ B and c ≤ C give b * c ≤ a * B * C for an a above zero
grown : (a b c B C : ℕ) → 0 < a → b ≤ B → c ≤ C → b * c ≤ a * B * C
grown a b c B C some h k =
    le_trans (mul-le-mul h k) (mul-le-mul_right C (le_trans (le_of_eq (sym (one-mul B))) (mul-le-mul_right B some)))

-- ---- a product by what is at least 1
pub above_mul : (x y : Float) → AboveZero x → T (positive y) → AtLeastOne y → T (above (mul binary64 x y))
unfolding mul
above_mul nan y p q b = absurd p.above
above_mul (inf s) nan p q b = absurd q
above_mul (inf s) (inf t) p q b = absurd q
above_mul (inf s) (fin true n d) p q b = absurd q
above_mul (inf true) (fin false n d) p q b = absurd p.above
above_mul (inf false) (fin false n d) p q b = rw (some_not_zero n q) tt
above_mul (fin true m e) y p q b = absurd p.above
above_mul (fin false m e) nan p q b = absurd q
above_mul (fin false m e) (inf t) p q b = absurd q
above_mul (fin false m e) (fin true n d) p q b = absurd q
above_mul (fin false m e) (fin false n d) p q b =
    above_round (m * up e * (n * up d)) (down e * down d) (mul-pos (down_pos e) (down_pos d))
    (le_trans (le_of_eq (mul_comm (down e) (down d)))
    (grown (m * up e) (down d) (down e) (n * up d) (2 ^ 1074) (mul-pos (ltb→lt 0 m p.above) (up_pos e)) b
    (fits_down binary64 false m e p.holds)))

-- ---- a quotient by what is at most 1
pub above_div : (x y : Float) → AboveZero x → T (positive y) → Bounded 1 y → T (above (div binary64 x y))
unfolding div
above_div nan y p q b = absurd p.above
above_div (inf s) nan p q b = absurd q
above_div (inf s) (inf t) p q b = absurd q
above_div (inf s) (fin true n d) p q b = absurd q
above_div (inf true) (fin false n d) p q b = absurd p.above
above_div (inf false) (fin false n d) p q b = tt
above_div (fin true m e) y p q b = absurd p.above
above_div (fin false m e) nan p q b = absurd q
above_div (fin false m e) (inf t) p q b = absurd q
above_div (fin false m e) (fin true n d) p q b = absurd q
above_div (fin false m e) (fin false n d) p q b =
    rw (some_not_zero n q)
    (above_round (m * up e * down d) (n * up d * down e) (mul-pos (mul-pos (ltb→lt 0 n q) (up_pos d)) (down_pos e))
    (grown (m * up e) (n * up d) (down e) (down d) (2 ^ 1074) (mul-pos (ltb→lt 0 m p.above) (up_pos e))
    (le_trans b (le_of_eq (one-mul (down d)))) (fits_down binary64 false m e p.holds)))
