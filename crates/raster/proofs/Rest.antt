-- The rest of degrees by a half turn, without `%` on doubles: the rest of the whole part, found by halving, and what
-- stands after the whole part.
use denote.Floats.{passes}
use Rattle.std.proofs.Common.{◌≡◌, ◌||◌, ℕ, zero, suc, ◌+◌, ◌-◌, ◌*◌, ◌/◌, ◌%◌, ◌^◌, ◌<◌, ◌≤◌, Bool, true, false, T, eqb, ltb, ℤ, pos, negsuc, sym, refl, ap, ◌∙◌, subst, le_trans, le_of_eq, lt_of_le_of_lt, mul-le-mul_right, zero-lt-suc, mul_assoc, mul_comm, mul-one, mul-pos, div-lt_iff_lt-mul, arith, lit<, eqb→eq, lt→ltb, pow_pos, ltb-true, ltb-false, le-ltb}
use Rattle.std.proofs.lemmas.Nat.{mod-mul-add}
use mathlib.Core.Bool.{beq, false≢true, true≢false}
use native.Mathlib.Nat.{div-add-mod', mod-lt, mod-le, le_of_lt}
use lib.Ieee.{Float, nan, inf, fin, binary64, up, down, round, sum, neg, add, sub, mul, div, rem, lt, eq, of_int, of_bits, fits}
use lib.Ieee.Fits.{and_l, up_pos, down_pos}
use lib.Ieee.Exact.{HasValue, round_exact}
use lib.Ieee.Back.{round_whole}
use lib.Ieee.Positive.{num, den, den_pos, positive, own_value, positive_of_value, value→cross}
use lib.Ieee.Scale.{finite, round_same}
use Rattle.floats.proofs.Order.{never, lt_value, eq_value}
use Rattle.floats.proofs.Values.{Cut, cut_value, fits_small, fits_down, in_units, of_int_value}
use Rattle.raster.specs.Direction.{signed_rest}
use Rattle.raster.proofs.RestFloats.{half_exact, half_fits, neg_round, zero_rest, den_one}

-- ---- natural numbers

-- n by 180 * d: the rest of the whole part by 180, and what stands after the whole part
split : (n d w r h t q : ℕ) → w * d + h ≡ n → h < d → q * 180 + r ≡ w → r < 180 → r * d + h ≡ n % (180 * d)
split n d w r h t q e l f k =
    let m : (q * (180 * d) + (r * d + h)) % (180 * d) ≡ r * d + h = mod-mul-add q (180 * d) (r * d + h) (omega (arith, mul-le-mul_right d k)) in
    sym m ∙ ap (λ (x : ℕ). x % (180 * d)) (omega (arith, ap (◌* d) f))

pub rest_split : (n d : ℕ) → 0 < d → n / d % 180 * d + n % d ≡ n % (180 * d)
rest_split n d D = split n d (n / d) (n / d % 180) (n % d) 0 (n / d / 180) (div-add-mod' n d) (mod-lt n D) (div-add-mod' (n / d) 180) (mod-lt (n / d) (zero-lt-suc 179))

-- ---- the rest as a rounded fraction

pub rest_is : (s : Bool) (m : ℕ) (e : ℤ) → signed_rest (fin s m e) ≡ round binary64 s (m * up e % (180 * down e)) (down e)
unfolding signed_rest rem of_bits
rest_is s m e =
    ap (λ (x : ℕ). round binary64 s (x % (180 * down e)) (down e * 1)) (mul-one (m * up e))
    ∙ ap (λ (x : ℕ). round binary64 s (m * up e % (180 * down e)) x) (mul-one (down e))

pub rest_of_positive : (x : Float) → T (positive x) → signed_rest x ≡ round binary64 false (num x % (180 * den x)) (den x)
rest_of_positive nan p = absurd p
rest_of_positive (inf s) p = absurd p
rest_of_positive (fin true m e) p = absurd p
rest_of_positive (fin false m e) p = rest_is false m e

-- ---- the tests

abbrev limit : Float
limit = fin false 1 (pos 53)

module _ (x : Float) (p : T (positive x)) where
  limit_is : lt x limit ≡ ltb (num x) (2 ^ 53 * den x)
  limit_is =
      lt_value false (num x) (den x) false (2 ^ 53) 1 (den_pos x) (zero-lt-suc 0) x limit (own_value x p) (refl, refl)
      ∙ ap (λ (w : ℕ). ltb w (2 ^ 53 * den x)) (mul-one (num x))

  pub below_limit : lt x limit ≡ true → num x < 2 ^ 53 * den x
  below_limit h = ltb-true (num x) (2 ^ 53 * den x) (sym limit_is ∙ h)

  pub from_limit : lt x limit ≡ false → 2 ^ 53 * den x ≤ num x
  from_limit h = ltb-false (num x) (2 ^ 53 * den x) (sym limit_is ∙ h)

  pub small_cut : num x < 2 ^ 53 * den x → Cut x (num x) (den x)
  small_cut h = cut_value x false (num x) (den x) (den_pos x) (own_value x p) (λ e. absurd (false≢true e)) (omega arith)

  pub small_whole : num x < 2 ^ 53 * den x → num x / den x < 2 ^ 53
  small_whole h = (div-lt_iff_lt-mul (den_pos x)).1 h

-- ---- from 2 ^ 53 on

abbrev half : Float → Float
half x = mul binary64 x (of_bits binary64 0x3fe0_0000_0000_0000)

pub den_is_one : (x : Float) → T (fits binary64 x) → T (positive x) → 2 ^ 52 * den x ≤ num x → den x ≡ 1
den_is_one nan f p h = absurd p
den_is_one (inf s) f p h = absurd p
den_is_one (fin true m e) f p h = absurd p
den_is_one (fin false m e) f p h = den_one m e f h

half_value : (x : Float) → T (fits binary64 x) → T (positive x) → 2 ^ 53 * den x ≤ num x → HasValue (half x) false (num x) (2 * den x)
half_value nan f p h = absurd p
half_value (inf s) f p h = absurd p
half_value (fin true m e) f p h = absurd p
half_value (fin false m e) f p h = half_exact m e f h

module _ (x : Float) (f : T (fits binary64 x)) (p : T (positive x)) (h : 2 ^ 53 * den x ≤ num x) where
  pub large_den : den x ≡ 1
  large_den = den_is_one x f p (omega arith)

  some : 0 < num x
  some = omega (arith, den_pos x)

  pub half_positive : T (positive (half x))
  half_positive = positive_of_value (half x) (num x) (2 * den x) (half_value x f p h) some

  half_cross : num (half x) * 2 ≡ num x * den (half x)
  half_cross =
      ap (λ (w : ℕ). num (half x) * (2 * w)) (sym large_den)
      ∙ value→cross (half x) (num x) (2 * den x) (half_value x f p h)

  half_den : den (half x) ≡ 1
  half_den = den_is_one (half x) (half_fits x) half_positive
      (omega (arith, half_cross, mul-le-mul_right (den (half x)) (subst (λ (w : ℕ). 2 ^ 53 * w ≤ num x) large_den h)))

  pub half_twice : num (half x) * 2 ≡ num x
  half_twice = half_cross ∙ ap (λ (w : ℕ). num x * w) half_den ∙ mul-one (num x)

  pub half_smaller : num (half x) < num x
  half_smaller = omega (arith, half_twice, some)

  pub half_rest : (r : ℕ) → r ≡ num (half x) / den (half x) % 180 → r * 2 % 180 ≡ num x / den x % 180
  half_rest r e =
      let e' : r ≡ num (half x) % 180 = e ∙ ap (λ (w : ℕ). num (half x) / w % 180) half_den ∙ ap (λ (w : ℕ). w % 180) (omega arith) in
      let g : num x / den x ≡ num x = ap (λ (w : ℕ). num x / w) large_den ∙ omega arith in
      omega (arith, e', g, half_twice)

  pub large_rest : (r : ℕ) → r ≡ num x / den x % 180 → of_int binary64 (pos r) ≡ signed_rest x
  unfolding of_int
  large_rest r e =
      let g : num x / den x % 180 ≡ num x % 180 = ap (λ (w : ℕ). num x / w % 180) large_den ∙ ap (λ (w : ℕ). w % 180) (omega arith) in
      ap (λ (w : ℕ). round binary64 false w 1) (e ∙ g)
      ∙ sym (rest_of_positive x p ∙ ap (λ (d : ℕ). round binary64 false (num x % (180 * d)) d) large_den)

-- ---- below 2 ^ 53

-- the sum of two values that are not negative
add_values : (x y : Float) (a c b d : ℕ) → 0 < c → 0 < d → HasValue x false a c → HasValue y false b d
    → add binary64 x y ≡ round binary64 false (a * d + b * c) (c * d)
unfolding add sum
add_values nan y a c b d C D h k = absurd h
add_values (inf s) y a c b d C D h k = absurd h
add_values (fin s m e) nan a c b d C D h k = absurd k
add_values (fin s m e) (inf t) a c b d C D h k = absurd k
add_values (fin true m e) (fin t n g) a c b d C D h k = absurd (true≢false h.0)
add_values (fin false m e) (fin true n g) a c b d C D h k = absurd (true≢false k.0)
add_values (fin false m e) (fin false n g) a c b d C D h k =
    round_same binary64 false (m * up e * down g + n * up g * down e) (down e * down g) (a * d + b * c) (c * d)
    (mul-pos (down_pos e) (down_pos g)) (mul-pos C D)
    (omega (arith, ap (λ (z : ℕ). z * (down g * d)) h.1, ap (λ (z : ℕ). z * (down e * c)) k.1))

-- a whole number from what is not below it
sub_whole : (m : ℕ) (e : ℤ) (y : Float) (w h : ℕ) → HasValue y false w 1 → w * down e + h ≡ m * up e
    → sub binary64 (fin false m e) y ≡ round binary64 false h (down e)
unfolding sub add neg sum
sub_whole m e nan w h v k = absurd v
sub_whole m e (inf t) w h v k = absurd v
sub_whole m e (fin true n g) w h v k = absurd (true≢false v.0)
sub_whole m e (fin false n g) w h v k =
    let whole = ap (λ (z : ℕ). z * down e) v.1 in
    let least : n * up g * down e ≤ m * up e * down g = omega (arith, whole, ap (λ (z : ℕ). z * down g) k) in
    rw (le-ltb (m * up e * down g) (n * up g * down e) least)
    (round_same binary64 false (m * up e * down g - n * up g * down e) (down e * down g) h (down e)
    (mul-pos (down_pos e) (down_pos g)) (down_pos e)
    (ap (λ (z : ℕ). z * down e) (after (m * up e * down g) (n * up g * down e) (h * down g) (omega (arith, whole, ap (λ (z : ℕ). z * down g) k))) ∙ omega arith))
  where
    after : (a b c : ℕ) → b + c ≡ a → a - b ≡ c
    after a b c e = omega arith

-- what stands after the whole part of a double is a double
after_value : (m : ℕ) (e : ℤ) → T (fits binary64 (fin false m e))
    → HasValue (round binary64 false (m * up e % down e) (down e)) false (m * up e % down e) (down e)
after_value m (pos k) f = round_whole binary64 false (m * 2 ^ k % 1) (omega arith)
after_value m (negsuc k) f =
    let d = 2 ^ suc k in
    let q = m * 1 % d in
    let u = in_units binary64 (negsuc k) (fits_down binary64 false m (negsuc k) f) in
    let j = u.0 in
    let unit : 2 ^ 1074 * 1 ≡ 2 ^ j * d = u.1 in
    let l : q < d = mod-lt (m * 1) (pow_pos (suc k)) in
    let small : q < 2 ^ 53 = lt_of_le_of_lt (mod-le (m * 1) d) (subst (λ (x : ℕ). x < 2 ^ 53) (sym (mul-one m)) (fits_small binary64 false m (negsuc k) f)) in
    let room : q * 2 ^ j ≤ 2 ^ 1074 =
    le_trans (mul-le-mul_right (2 ^ j) (le_of_lt l)) (le_of_eq (mul_comm d (2 ^ j) ∙ sym unit)) in
    round_exact binary64 false q d q j (pow_pos (suc k)) small (lt_of_le_of_lt room (lit< tt))
    (ap (λ (x : ℕ). q * x) (sym (mul-one (2 ^ 1074)) ∙ unit) ∙ sym (mul_assoc q (2 ^ j) d))

pub small_rest : (x : Float) → T (fits binary64 x) → T (positive x) → num x < 2 ^ 53 * den x → (r w : ℕ)
    → r ≡ num x / den x % 180 → w ≡ num x / den x
    → add binary64 (of_int binary64 (pos r)) (sub binary64 x (of_int binary64 (pos w))) ≡ signed_rest x
small_rest nan f p h r w a b = absurd p
small_rest (inf s) f p h r w a b = absurd p
small_rest (fin true m e) f p h r w a b = absurd p
small_rest (fin false m e) f p h r w a b =
    let n = m * up e in
    let d = down e in
    let D = down_pos e in
    let y = of_int binary64 (pos w) in
    let w-small : w ≤ 2 ^ 53 = omega (arith, b, small_whole (fin false m e) p h) in
    let after : sub binary64 (fin false m e) y ≡ round binary64 false (n % d) d =
    sub_whole m e y w (n % d) (of_int_value w w-small) (ap (λ (z : ℕ). z * d + n % d) b ∙ div-add-mod' n d) in
    ap (add binary64 (of_int binary64 (pos r))) after
    ∙ add_values (of_int binary64 (pos r)) (round binary64 false (n % d) d) r 1 (n % d) d (zero-lt-suc 0) D
    (of_int_value r (omega (arith, a))) (after_value m e f)
    ∙ round_same binary64 false (r * d + n % d * 1) (1 * d) (n % (180 * d)) d (mul-pos (zero-lt-suc 0) D) D
    (omega (arith, ap (◌* d) (ap (λ (z : ℕ). z * d + n % d) a ∙ rest_split n d D)))
    ∙ sym (rest_is false m e)

-- ---- degrees of either sign, and those that are not finite

abbrev origin : Float
origin = of_bits binary64 0

pub infinite_rest : (x : Float) → finite x ≡ false → div binary64 origin origin ≡ signed_rest x
unfolding signed_rest rem div of_bits
infinite_rest nan h = refl
infinite_rest (inf s) h = refl
infinite_rest (fin s m e) h = absurd (true≢false h)

zero_of : (m : ℕ) (e : ℤ) → m * up e * 1 ≡ 0 → m ≡ 0
zero_of zero e h = refl
zero_of (suc m) e h = absurd (omega (arith, mul-pos (zero-lt-suc m) (up_pos e), h))

pub rest_of_zero : (x : Float) → T (fits binary64 x) → finite x ≡ true → eq x origin ≡ true → x ≡ signed_rest x
unfolding eq of_bits
rest_of_zero nan f h z = never h
rest_of_zero (inf s) f h z = never h
rest_of_zero (fin s m e) f h z =
    let a : m * up e * 1 ≡ 0 * 1 * down e =
    eqb→eq (m * up e * 1) (0 * 1 * down e) (and_l (eqb (m * up e * 1) (0 * 1 * down e)) (beq s false || eqb (m * up e * 1) 0) (passes _ z)) in
    go m (zero_of m e (omega (arith, a))) f
  where
    go : (k : ℕ) → k ≡ 0 → T (fits binary64 (fin s k e)) → fin s k e ≡ signed_rest (fin s k e)
    go zero a g = sym (zero_rest s e g)
    go (suc k) a g = absurd (omega arith)

pub negative_size : (x : Float) → finite x ≡ true → lt x origin ≡ true → T (positive (neg x))
unfolding lt neg of_bits
negative_size nan h l = never h
negative_size (inf s) h l = never h
negative_size (fin true zero e) h l = absurd (omega (arith, ltb-true 0 (0 * up e * 1 + 0 * 1 * down e) l))
negative_size (fin true (suc m) e) h l = lt→ltb 0 (suc m) (zero-lt-suc m)
negative_size (fin false m e) h l = absurd (omega (arith, ltb-true (m * up e * 1) (0 * 1 * down e) l))

zero_is : (s : Bool) (e : ℤ) → eq (fin s 0 e) origin ≡ true
unfolding of_bits
zero_is s e = eq_value s 0 1 false 0 1 (zero-lt-suc 0) (zero-lt-suc 0) (fin s 0 e) (fin false 0 (pos 0)) (refl, omega arith) (refl, refl) ∙ or_true (beq s false)
  where
    or_true : (b : Bool) → b || true ≡ true
    or_true true = refl
    or_true false = refl

pub positive_size : (x : Float) → finite x ≡ true → eq x origin ≡ false → lt x origin ≡ false → T (positive x)
unfolding eq lt of_bits
positive_size nan h n l = never h
positive_size (inf s) h n l = never h
positive_size (fin true zero e) h n l = absurd (true≢false (sym (zero_is true e) ∙ n))
positive_size (fin true (suc m) e) h n l =
    absurd (omega (arith, ltb-false 0 (suc m * up e * 1 + 0 * 1 * down e) l, mul-pos (zero-lt-suc m) (up_pos e)))
positive_size (fin false zero e) h n l = absurd (true≢false (sym (zero_is false e) ∙ n))
positive_size (fin false (suc m) e) h n l = lt→ltb 0 (suc m) (zero-lt-suc m)

pub negative_rest : (x : Float) → T (positive (neg x)) → neg (signed_rest (neg x)) ≡ signed_rest x
unfolding neg
negative_rest nan p = absurd p
negative_rest (inf s) p = absurd p
negative_rest (fin true m e) p =
    ap neg (rest_is false m e) ∙ neg_round binary64 false (m * up e % (180 * down e)) (down e) ∙ sym (rest_is true m e)
negative_rest (fin false m e) p = absurd p
