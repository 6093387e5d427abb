-- Laws on the odd length: it is the smallest odd number that is at least 3 and at least the estimate (`odd_of_odd`,
-- `odd_of_three`, `odd_of_covers`, `odd_of_smallest`), and what the code's tests say of it.
use Rattle.std.proofs.Common.{◌≡◌, ℕ, ◌+◌, ◌-◌, ◌*◌, ◌/◌, ◌%◌, ◌^◌, ◌<◌, ◌≤◌, Bool, true, false, cond, T, ltb, leb, ℤ, pos, sym, refl, ap, ◌∙◌, subst, le_trans, lt_of_lt_of_le, le_of_suc-le-suc, mul-le-mul_right, zero-lt-suc, suc-mul, div-lt_iff_lt-mul, add-mul, le_antisymm, lt_of_mul-lt-mul_right, mul-one, div-mul-le_self, le_of_mul-le-mul_right, add-one, arith, le-ltb, le-leb, leb-false, leb-true}
use native.Mathlib.Nat.{lt-div-mul-add}
use lib.Ieee.{Float, nan, inf, fin, binary64, up, down, below, lt, le, of_int}
use lib.Ieee.Fits.{down_pos}
use lib.Ieee.Exact.{HasValue}
use lib.Ieee.Positive.{num, den, den_pos}
use Rattle.std.specs.Prelude.{Some, None}
use Rattle.floats.specs.Factor.{within}
use Rattle.floats.specs.Odd.{ceiling, odd_from, odd_of, odd_length}
use Rattle.floats.proofs.Values.{Cut, cut_value, of_int_value}
use Rattle.floats.proofs.Factor.{within_le, within_sign, within_finite}
use Rattle.floats.proofs.Order.{never, lt_value, le_value, le_positive, inf_le, nan_le}

-- ---- the ceiling is the smallest whole number that is at least num / den

module _ (n d : ℕ) (D : 0 < d) where
  pub ceiling_covers : n ≤ ceiling n d * d
  ceiling_covers = omega (arith, lt-div-mul-add {a = n + (d - 1)} {b = d} D)

  pub ceiling_smallest : (k : ℕ) → n ≤ k * d → ceiling n d ≤ k
  ceiling_smallest k h = le_of_suc-le-suc ((div-lt_iff_lt-mul D).1 (omega (arith, suc-mul k d)))

  -- ---- and the odd length the smallest such number that is odd and at least 3
  pub odd_of_odd : odd_of n d % 2 ≡ 1
  unfolding odd_of
  odd_of_odd = omega arith

  pub odd_of_three : 3 ≤ odd_of n d
  unfolding odd_of
  odd_of_three = omega arith

  pub odd_of_covers : n ≤ odd_of n d * d
  unfolding odd_of
  odd_of_covers = le_trans ceiling_covers (mul-le-mul_right d (omega arith))

  pub odd_of_smallest : (k : ℕ) → k % 2 ≡ 1 → 3 ≤ k → n ≤ k * d → odd_of n d ≤ k
  unfolding odd_of
  odd_of_smallest k o t h = omega (arith, ceiling_smallest k h)

  -- ---- the whole part, raised by one where it is below num / den
  pub ceiling_next : n / d * d < n → n / d + 1 ≡ ceiling n d
  ceiling_next h =
      le_antisymm (subst (λ (w : ℕ). w ≤ ceiling n d) (sym (add-one (n / d)))
      (lt_of_mul-lt-mul_right d (lt_of_lt_of_le h ceiling_covers)))
      (ceiling_smallest (n / d + 1) (omega (arith, lt-div-mul-add {a = n} {b = d} D, add-mul (n / d) 1 d)))

  pub ceiling_same : n ≤ n / d * d → n / d ≡ ceiling n d
  ceiling_same h = le_antisymm (le_of_mul-le-mul_right (le_trans (div-mul-le_self n d) ceiling_covers) D)
      (ceiling_smallest (n / d) h)

-- ---- `raised`: an x in 0..2 ^ 53, cut to a whole number, and that number beside x

pub raised_cut : (x : Float) → T (within (2 ^ 53) x) → Cut x (num x) (den x)
raised_cut nan t = absurd (unfold within in t)
raised_cut (inf s) t = absurd (unfold within in t)
raised_cut (fin s m e) t =
    let l : m * up e ≤ 2 ^ 53 * down e = within_le (2 ^ 53) (fin s m e) t in
    let d : 0 < down e = down_pos e in
    cut_value (fin s m e) s (m * up e) (down e) d (refl, refl) (within_sign (2 ^ 53) s m e t) (omega arith)

pub raised_le : (x : Float) → T (within (2 ^ 53) x) → num x / den x ≤ 2 ^ 53
raised_le x t =
    let l : num x ≤ 2 ^ 53 * den x = within_le (2 ^ 53) x t in
    let d : 0 < den x = den_pos x in
    le_of_suc-le-suc ((div-lt_iff_lt-mul d).1 (omega arith))

below_plus : (p : ℕ) (s : Bool) (q : ℕ) → (s ≡ true → q ≡ 0) → below false p s q ≡ ltb p q
below_plus p false q z = refl
below_plus p true q z = sym (le-ltb p q (omega (arith, z refl)))

pub raised_test : (x : Float) → T (within (2 ^ 53) x)
    → lt (of_int binary64 (pos (num x / den x))) x ≡ ltb (num x / den x * den x) (num x)
raised_test nan t = absurd (unfold within in t)
raised_test (inf s) t = absurd (unfold within in t)
raised_test (fin s m e) t =
    let w = m * up e / down e in
    lt_value false w 1 s (m * up e) (down e) (zero-lt-suc 0) (down_pos e) (of_int binary64 (pos w)) (fin s m e)
    (of_int_value w (raised_le (fin s m e) t)) (refl, refl)
    ∙ ap (λ (q : ℕ). below false (w * down e) s q) (mul-one (m * up e))
    ∙ below_plus (w * down e) s (m * up e) (within_sign (2 ^ 53) s m e t)

-- ---- the tests of `odd_length`

-- an estimate beside a whole number k
le_whole : (m : ℕ) (e : ℤ) (k : ℕ) (y : Float) → HasValue y false k 1
    → le (fin false m e) y ≡ leb (m * up e) (k * down e)
le_whole m e k y v =
    le_positive (fin false m e) y (m * up e) (down e) k 1 (down_pos e) (zero-lt-suc 0) (refl, refl) v
    ∙ ap (λ (w : ℕ). leb w (k * down e)) (mul-one (m * up e))

le_negative : (m : ℕ) (e : ℤ) (k : ℕ) (y : Float) → HasValue y false k 1 → le (fin true m e) y ≡ true
le_negative m e k y v =
    le_value true (m * up e) (down e) false k 1 (down_pos e) (zero-lt-suc 0) (fin true m e) y (refl, refl) v

abbrev three : Float
three = fin false 3 (pos 0)

abbrev limit : Float
limit = fin false 1 (pos 53)

odd_of_low : (n d : ℕ) → 0 < d → n ≤ 3 * d → odd_of n d ≡ 3
unfolding odd_of
odd_of_low n d D h = omega (arith, ceiling_smallest n d D 3 h)

odd_of_high : (n d : ℕ) → 0 < d → 3 * d < n → odd_of n d ≡ odd_from (ceiling n d)
unfolding odd_of
odd_of_high n d D h = let l : 3 < ceiling n d = lt_of_mul-lt-mul_right d (lt_of_lt_of_le h (ceiling_covers n d D)) in
    omega arith

picked : (n d : ℕ) → n ≤ 2 ^ 53 * d → (k : ℕ) → odd_of n d ≡ k
    → Some k ≡ cond (leb n (2 ^ 53 * d)) (Some (odd_of n d)) None
picked n d h k e = ap Some (sym e)
    ∙ sym (ap (λ (b : Bool). cond b (Some (odd_of n d)) None) (le-leb n (2 ^ 53 * d) h))

pub test_low : (x : Float) → le x three ≡ true → Some 3 ≡ odd_length x
unfolding odd_length
test_low nan h = never (sym (nan_le three) ∙ h)
test_low (inf true) h = refl
test_low (inf false) h = never (sym (inf_le false false 3 (pos 0)) ∙ h)
test_low (fin true m e) h = refl
test_low (fin false m e) h =
    let l : m * up e ≤ 3 * down e = leb-true (m * up e) (3 * down e) (sym (le_whole m e 3 three (refl, refl)) ∙ h) in
    picked (m * up e) (down e) (omega arith) 3 (odd_of_low (m * up e) (down e) (down_pos e) l)

-- above 3 and at most 2 ^ 53
pub test_within : (x : Float) → le x three ≡ false → le x limit ≡ true → T (within (2 ^ 53) x)
test_within nan h k = never (sym (nan_le limit) ∙ k)
test_within (inf true) h k = never (sym h ∙ inf_le true false 3 (pos 0))
test_within (inf false) h k = never (sym (inf_le false false 1 (pos 53)) ∙ k)
test_within (fin true m e) h k = never (sym h ∙ le_negative m e 3 three (refl, refl))
test_within (fin false m e) h k =
    within_finite (2 ^ 53) false m e refl
    (leb-true (m * up e) (2 ^ 53 * down e) (sym (le_whole m e (2 ^ 53) limit (refl, refl)) ∙ k))

pub test_length : (x : Float) → le x three ≡ false → T (within (2 ^ 53) x)
    → Some (odd_from (ceiling (num x) (den x))) ≡ odd_length x
unfolding odd_length
test_length nan h t = absurd (unfold within in t)
test_length (inf s) h t = absurd (unfold within in t)
test_length (fin true m e) h t = never (sym h ∙ le_negative m e 3 three (refl, refl))
test_length (fin false m e) h t =
    let l : 3 * down e < m * up e = leb-false (m * up e) (3 * down e) (sym (le_whole m e 3 three (refl, refl)) ∙ h) in
    picked (m * up e) (down e) (within_le (2 ^ 53) (fin false m e) t) (odd_from (ceiling (m * up e) (down e)))
    (odd_of_high (m * up e) (down e) (down_pos e) l)

pub test_beyond : (x : Float) → le x three ≡ false → le x limit ≡ false → None ≡ odd_length x
unfolding odd_length
test_beyond nan h k = refl
test_beyond (inf true) h k = never (sym h ∙ inf_le true false 3 (pos 0))
test_beyond (inf false) h k = refl
test_beyond (fin true m e) h k = never (sym h ∙ le_negative m e 3 three (refl, refl))
test_beyond (fin false m e) h k =
    sym (ap (λ (b : Bool). cond b (Some (odd_of (m * up e) (down e))) None)
    (sym (le_whole m e (2 ^ 53) limit (refl, refl)) ∙ k))
