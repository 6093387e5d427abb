-- What value an operation gives, as a fraction (`HasValue` of lib.Ieee.Exact): a whole number as a double, a product by
-- a power of two, and a double cut to a whole number. A parameter's own value is `(refl, refl) : HasValue (fin s m e) s
-- (m * up e) (down e)`. That it fits its format is `passes (fits binary64 x) c.well_formed.0.1`, with `passes` of
-- denote.Floats.
use Rattle.std.proofs.Common.{◌≡◌, ℕ, zero, suc, ◌+◌, ◌-◌, ◌*◌, ◌/◌, ◌%◌, ◌^◌, ◌<◌, ◌≤◌, min, Bool, true, false, ◌&&◌, T, eqb, ltb, leb, ℤ, pos, negsuc, sym, refl, ap, ◌∙◌, subst, true≢false, le_trans, le_of_eq, le_of_suc-le-suc, mul-le-mul_right, zero-lt-suc, mul_assoc, mul_comm, div-lt_iff_lt-mul, lt_of_mul-lt-mul_right, mul-lt-mul_of_pos_right, one-mul, lt_of_not-le, mul-one, not-le_of_lt, mul_left_comm, arith, eqb→eq, ltb→lt, lt→ltb, leb→le, pow_pos, pow-add}
use native.Mathlib.Nat.{zero-div}
use mathlib.Core.Bool.{false≢true}
use lib.Pow.{pow-lt}
use lib.Ieee.{Float, nan, inf, fin, Format, binary64, prec, emax, low, up, down, unlike, round, mul, lt, of_int}
use lib.Ieee.{to_unsigned, fits}
use lib.Ieee.Digits.{back}
use lib.Ieee.Fits.{and_l, and_r, up_pos, down_pos}
use lib.Ieee.Exact.{HasValue, round_exact}
use lib.Ieee.Nearest.{div_same}
use lib.Ieee.Back.{round_whole}
use Rattle.floats.proofs.Order.{lt_value}

-- ---- what a value that fits its format is made of

pub fits_small : (f : Format) (s : Bool) (m : ℕ) (e : ℤ) → T (fits f (fin s m e)) → m < 2 ^ prec f
unfolding fits
fits_small f s zero e t = pow_pos (prec f)
fits_small f s (suc m) e t =
    ltb→lt (suc m) (2 ^ prec f) (and_r (eqb (suc m % 2) 1) (ltb (suc m) (2 ^ prec f))
    (and_l (eqb (suc m % 2) 1 && ltb (suc m) (2 ^ prec f)) (leb (down e) (2 ^ low f))
    (and_l (eqb (suc m % 2) 1 && ltb (suc m) (2 ^ prec f) && leb (down e) (2 ^ low f))
    (ltb (suc m * up e) (2 ^ suc (emax f) * down e)) t)))

pub fits_down : (f : Format) (s : Bool) (m : ℕ) (e : ℤ) → T (fits f (fin s m e)) → down e ≤ 2 ^ low f
unfolding fits
fits_down f s zero e t =
    le_trans (subst (λ (x : ℕ). x ≤ up e * down e) (one-mul (down e)) (mul-le-mul_right (down e) (up_pos e)))
    (le_trans (le_of_eq (eqb→eq (up e * down e) 1 t)) (pow_pos (low f)))
fits_down f s (suc m) e t =
    leb→le (down e) (2 ^ low f) (and_r (eqb (suc m % 2) 1 && ltb (suc m) (2 ^ prec f)) (leb (down e) (2 ^ low f))
    (and_l (eqb (suc m % 2) 1 && ltb (suc m) (2 ^ prec f) && leb (down e) (2 ^ low f))
    (ltb (suc m * up e) (2 ^ suc (emax f) * down e)) t))

-- ---- a whole number as a double

pub of_int_value : (n : ℕ) → n ≤ 2 ^ 53 → HasValue (of_int binary64 (pos n)) false n 1
unfolding of_int
of_int_value n h = round_whole binary64 false n h

pub of_int_negative : (n : ℕ) → suc n ≤ 2 ^ 53 → HasValue (of_int binary64 (negsuc n)) true (suc n) 1
unfolding of_int
of_int_negative n h = round_whole binary64 true (suc n) h

-- ---- a product by 2 ^ t is exact, subnormal factors included, unless it overflows

-- in units of the format's smallest value, 2 ^ e is 2 ^ j
abbrev pub InUnits : Format → ℤ → ℕ → Type 0
InUnits f e j = 2 ^ low f * up e ≡ 2 ^ j * down e

pub in_units : (f : Format) (e : ℤ) → down e ≤ 2 ^ low f → (j : ℕ) × InUnits f e j
in_units f (pos k) h = (low f + k, sym (pow-add 2 (low f) k) ∙ sym (mul-one (2 ^ (low f + k))))
in_units f (negsuc k) h =
    let more : suc (low f) ≤ suc k → ⊥ = λ g. not-le_of_lt (pow-lt g) h in
    let l : suc k ≤ low f = le_of_suc-le-suc (lt_of_not-le more) in (
      low f - suc k,
      mul-one (2 ^ low f) ∙ ap (λ (x : ℕ). 2 ^ x) (sym (back (low f) (suc k) l))
          ∙ pow-add 2 (low f - suc k) (suc k),
    )

unlike_plus : (s : Bool) → unlike s false ≡ s
unlike_plus true = refl
unlike_plus false = refl

mul_pow_is : (f : Format) (s : Bool) (m : ℕ) (e : ℤ) (t : ℕ)
    → mul f (fin s m e) (fin false 1 (pos t)) ≡ round f s (m * up e * 2 ^ t) (down e)
unfolding mul
mul_pow_is f s m e t =
    ap (λ (x : Bool). round f x (m * up e * (1 * 2 ^ t)) (down e * 1)) (unlike_plus s)
    ∙ ap (λ (x : ℕ). round f s (m * up e * x) (down e * 1)) (one-mul (2 ^ t))
    ∙ ap (λ (x : ℕ). round f s (m * up e * 2 ^ t) x) (mul-one (down e))

module _ (f : Format) (s : Bool) (m : ℕ) (e : ℤ) (t : ℕ) (fit : T (fits f (fin s m e)))
    (room : m * up e * 2 ^ t < 2 ^ suc (emax f) * down e) where
  shifted-value : HasValue (round f s (m * up e * 2 ^ t) (down e)) s (m * up e * 2 ^ t) (down e)
  shifted-value =
      let u = in_units f e (fits_down f s m e fit) in
      let j = u.0 in
      let same : m * up e * 2 ^ t * 2 ^ low f ≡ m * 2 ^ (j + t) * down e =
      simp (mul_assoc, mul_comm, mul_left_comm, pow-add)
      (simp (mul_assoc, mul_comm, mul_left_comm) at (ap (λ (x : ℕ). x * (m * 2 ^ t)) u.1)) in
      let less : m * 2 ^ (j + t) * down e < 2 ^ (low f + suc (emax f)) * down e =
      subst (λ (x : ℕ). x < 2 ^ (low f + suc (emax f)) * down e) same
      (subst (λ (x : ℕ). m * up e * 2 ^ t * 2 ^ low f < x) (simp (mul_assoc, mul_comm, mul_left_comm, pow-add))
      (mul-lt-mul_of_pos_right room (pow_pos (low f)))) in
      round_exact f s (m * up e * 2 ^ t) (down e) m (j + t) (down_pos e) (fits_small f s m e fit)
      (lt_of_mul-lt-mul_right (down e) less) same

  pub mul_pow_value : HasValue (mul f (fin s m e) (fin false 1 (pos t))) s (m * up e * 2 ^ t) (down e)
  mul_pow_value = subst (λ (x : Float). HasValue x s (m * up e * 2 ^ t) (down e)) (sym (mul_pow_is f s m e t))
      shifted-value

-- ---- a double cut to a whole number

-- what `std::num::truncating_f64_to_u64` asks of x, and what it answers for a / c
pub record Cut (x : Float) (a c : ℕ) : Type 0 where
  pub over : T (lt (fin true 1 (pos 0)) x)
  pub under : T (lt x (fin false 1 (pos 64)))
  pub whole : to_unsigned 64 x ≡ a / c

capped : (w p : ℕ) → w < p → min w (p - 1) ≡ w
capped w p h = omega arith

whole_value : (x : Float) (a c : ℕ) → 0 < c → HasValue x false a c → a < 2 ^ 64 * c → to_unsigned 64 x ≡ a / c
unfolding to_unsigned
whole_value nan a c C h l = absurd h
whole_value (inf s) a c C h l = absurd h
whole_value (fin true m e) a c C h l = absurd (true≢false h.0)
whole_value (fin false m e) a c C h l =
    ap (λ (w : ℕ). min w (2 ^ 64 - 1)) (div_same (m * up e) (down e) a c (down_pos e) C h.1)
    ∙ capped (a / c) (2 ^ 64) ((div-lt_iff_lt-mul C).1 l)

negative_whole : (x : Float) (a c : ℕ) → HasValue x true a c → to_unsigned 64 x ≡ 0
unfolding to_unsigned
negative_whole nan a c h = absurd h
negative_whole (inf s) a c h = absurd h
negative_whole (fin true m e) a c h = refl
negative_whole (fin false m e) a c h = absurd (false≢true h.0)

-- a value that is not below 0, -0 included, and below 2 ^ 64
pub cut_value : (x : Float) (s : Bool) (a c : ℕ) → 0 < c → HasValue x s a c → (s ≡ true → a ≡ 0) → a < 2 ^ 64 * c
    → Cut x a c
cut_value x false a c C h z l = record {
  over = subst T (sym (lt_value true 1 1 false a c (zero-lt-suc 0) C (fin true 1 (pos 0)) x (refl, refl) h))
      (lt→ltb 0 (1 * c + a * 1) (omega arith));
  under = subst T (sym (lt_value false a c false (2 ^ 64) 1 C (zero-lt-suc 0) x (fin false 1 (pos 64)) h (refl, refl)))
      (lt→ltb (a * 1) (2 ^ 64 * c) (omega arith));
  whole = whole_value x a c C h l;
}
cut_value x true a c C h z l = record {
  over = subst T (sym (lt_value true 1 1 true a c (zero-lt-suc 0) C (fin true 1 (pos 0)) x (refl, refl) h))
      (lt→ltb (a * 1) (1 * c) (omega (arith, z refl)));
  under = subst T (sym (lt_value true a c false (2 ^ 64) 1 C (zero-lt-suc 0) x (fin false 1 (pos 64)) h (refl, refl)))
      (lt→ltb 0 (a * 1 + 2 ^ 64 * c) (omega arith));
  whole = negative_whole x a c h ∙ sym (ap (λ (w : ℕ). w / c) (z refl) ∙ zero-div c);
}
