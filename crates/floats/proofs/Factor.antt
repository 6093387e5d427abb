-- Laws on q from a factor: what `within` says, by cases and by value, q by value, that q is nearest, q's bound, and
-- that the factor of a q gives q back.
use Rattle.std.proofs.Common.{◌≡◌, ℕ, zero, suc, ◌+◌, ◌*◌, ◌/◌, ◌^◌, ◌<◌, ◌≤◌, Bool, true, false, cond, not, ◌&&◌, ◌||◌, T, eqb, leb, ℤ, pos, sym, refl, ap, ◌∙◌, subst, true≢false, le_trans, lt_of_lt_of_le, le_of_suc-le-suc, le_of_lt, mul-le-mul_right, zero-lt-suc, mul_assoc, suc-mul, mul_comm, div-lt_iff_lt-mul, add-mul, mul-pos, zero-mul, mul-one, div-mul-le_self, mul_left_comm, arith, lit≤, le→leb, eqb→eq, leb→le, shl_lt, ltb-true, le-ltb, lt-ltb, le-leb}
use native.Mathlib.Nat.{mul-mul-mul_comm}
use native.Mathlib.Nat.{add-div_right}
use native.Mathlib.Nat.{lt-div-mul-add, div-div-eq-div-mul}
use mathlib.Core.Bool.{false≢true}
use lib.Dec.{eqb-suc-zero}
use lib.Ieee.{Float, nan, inf, fin, binary64, up, down, below, round, mul, div, lt, le, of_int, fits}
use lib.Ieee.Fits.{and_i, and_l, and_r, up_pos, down_pos}
use lib.Ieee.Exact.{HasValue, round_exact}
use lib.Ieee.Order.{transfer}
use lib.Ieee.Scale.{round_same}
use lib.Ieee.Nearest.{div_same}
use lib.Ieee.Positive.{num, den, den_pos}
use Rattle.std.specs.Prelude.{Some, None}
use Rattle.floats.specs.Factor.{scale, within, rounded_q16, quantized, factor_of}
use Rattle.floats.proofs.Order.{never, same_test, or_l, or_r, or_split, lt_value, le_value, inf_lt, inf_le}
use Rattle.floats.proofs.Order.{nan_le}
use Rattle.floats.proofs.Values.{Cut, cut_value, of_int_value, mul_pow_value}

-- ---- a factor that is taken: it is finite, not below 0, and at most the limit

zero_of : (m u : ℕ) → m ≡ 0 → m * u ≡ 0
zero_of m u e = ap (λ (x : ℕ). x * u) e ∙ zero-mul u

pub within_le : (limit : ℕ) (x : Float) → T (within limit x) → num x ≤ limit * den x
unfolding within
within_le limit nan t = absurd t
within_le limit (inf s) t = absurd t
within_le limit (fin s m e) t =
    or_split (eqb m 0) (not s && leb (m * up e) (limit * down e)) (λ z. omega (arith, zero_of m (up e) (eqb→eq m 0 z)))
    (λ l. leb→le (m * up e) (limit * down e) (and_r (not s) (leb (m * up e) (limit * down e)) l)) t

within_zero : (limit m : ℕ) (e : ℤ) → T (within limit (fin true m e)) → m ≡ 0
unfolding within
within_zero limit m e t = or_split (eqb m 0) false (λ z. eqb→eq m 0 z) absurd t

pub within_sign : (limit : ℕ) (s : Bool) (m : ℕ) (e : ℤ) → T (within limit (fin s m e)) → s ≡ true → m * up e ≡ 0
within_sign limit true m e t z = zero_of m (up e) (within_zero limit m e t)
within_sign limit false m e t z = absurd (false≢true z)

pub within_more : (limit more : ℕ) → limit ≤ more → (x : Float) → T (within limit x) → T (within more x)
unfolding within
within_more limit more h nan t = absurd t
within_more limit more h (inf s) t = absurd t
within_more limit more h (fin s m e) t =
    or_split (eqb m 0) (not s && leb (m * up e) (limit * down e))
    (or_l (eqb m 0) (not s && leb (m * up e) (more * down e)))
    (λ l.
    or_r (eqb m 0) (not s && leb (m * up e) (more * down e))
    (and_i (not s) (leb (m * up e) (more * down e)) (and_l (not s) (leb (m * up e) (limit * down e)) l)
    (le→leb (m * up e) (more * down e) (le_trans (within_le limit (fin s m e) t) (mul-le-mul_right (down e) h))))) t

-- ---- by value

one_pos : 0 < 1
one_pos = zero-lt-suc 0

pub within_finite : (limit : ℕ) (s : Bool) (m : ℕ) (e : ℤ) → s ≡ false → m * up e ≤ limit * down e
    → T (within limit (fin s m e))
unfolding within
within_finite limit true m e z h = absurd (true≢false z)
within_finite limit false m e z h =
    or_r (eqb m 0) (leb (m * up e) (limit * down e)) (le→leb (m * up e) (limit * down e) h)

pub within_value : (limit : ℕ) (x : Float) (a c : ℕ) → 0 < c → HasValue x false a c → within limit x ≡ leb a (limit * c)
within_value limit nan a c C h = absurd h
within_value limit (inf s) a c C h = absurd h
within_value limit (fin s m e) a c C h =
    same_test (within limit (fin s m e)) (leb a (limit * c))
    (λ t.
    le→leb a (limit * c)
    (subst (λ (x : ℕ). x ≤ limit * c) (mul-one a)
    (transfer a limit c 1 (m * up e) limit (down e) 1 (down_pos e) one_pos (sym h.1) refl
    (subst (λ (x : ℕ). x ≤ limit * down e) (sym (mul-one (m * up e))) (within_le limit (fin s m e) t)))))
    (λ t.
    within_finite limit s m e h.0
    (subst (λ (x : ℕ). x ≤ limit * down e) (mul-one (m * up e))
    (transfer (m * up e) limit (down e) 1 a limit c 1 C one_pos h.1 refl
    (subst (λ (x : ℕ). x ≤ limit * c) (sym (mul-one a)) (leb→le a (limit * c) t)))))

spread : (n d c : ℕ) → (131072 * n + d) * (2 * c) ≡ 262144 * (n * c) + 2 * (d * c)
spread n d c = add-mul (131072 * n) d (2 * c) ∙ omega (arith, mul-mul-mul_comm 131072 n 2 c, mul_left_comm d 2 c)

pub rounded_value : (x : Float) (s : Bool) (a c : ℕ) → 0 < c → HasValue x s a c
    → rounded_q16 x ≡ (131072 * a + c) / (2 * c)
unfolding rounded_q16
rounded_value nan s a c C h = absurd h
rounded_value (inf u) s a c C h = absurd h
rounded_value (fin u m e) s a c C h =
    div_same (131072 * (m * up e) + down e) (2 * down e) (131072 * a + c) (2 * c) (mul-pos (zero-lt-suc 1) (down_pos e))
    (mul-pos (zero-lt-suc 1) C)
    (spread (m * up e) (down e) c ∙ omega (arith, h.1, mul_comm (down e) c) ∙ sym (spread a c (down e)))

-- ---- q is nearest to the factor × 65,536: q - 1 / 2 ≤ num / den × 65,536 < q + 1 / 2, both sides times 2 × den

pub rounded_low : (x : Float) → rounded_q16 x * (2 * den x) ≤ 131072 * num x + den x
unfolding rounded_q16
rounded_low x = div-mul-le_self (131072 * num x + den x) (2 * den x)

pub rounded_high : (x : Float) → 131072 * num x + den x < rounded_q16 x * (2 * den x) + 2 * den x
unfolding rounded_q16
rounded_high x = lt-div-mul-add (mul-pos (zero-lt-suc 1) (den_pos x))

-- ---- q's bound

doubled : (k d : ℕ) → k * scale * (2 * d) ≡ 131072 * (k * d)
doubled k d = mul-mul-mul_comm k scale 2 d
    ∙ omega (arith, mul_assoc k 2 (scale * d), mul_left_comm k scale d, mul_left_comm k 2 (scale * d))

pub rounded_le : (limit : ℕ) (x : Float) → T (within limit x) → rounded_q16 x ≤ limit * scale
unfolding rounded_q16
rounded_le limit x t =
    let d : 0 < den x = den_pos x in
    le_of_suc-le-suc ((div-lt_iff_lt-mul (mul-pos (zero-lt-suc 1) d)).1
    (omega (arith, within_le limit x t, suc-mul (limit * scale) (2 * den x), doubled limit (den x))))

pub quantized_taken : (limit : ℕ) (x : Float) → within limit x ≡ true → quantized limit x ≡ Some (rounded_q16 x)
unfolding quantized
quantized_taken limit x h = ap (λ (b : Bool). cond b (Some (rounded_q16 x)) None) h

pub quantized_refused : (limit : ℕ) (x : Float) → within limit x ≡ false → quantized limit x ≡ None
unfolding quantized
quantized_refused limit x h = ap (λ (b : Bool). cond b (Some (rounded_q16 x)) None) h

-- ---- the code's tests: not below 0.0, and at most the limit as a double

-- ±m * 2 ^ e beside 0.0
lt_zero : (s : Bool) (m : ℕ) (e : ℤ) → lt (fin s m e) (fin false 0 (pos 0)) ≡ below s (m * up e) false 0
lt_zero s m e =
    lt_value s (m * up e) (down e) false 0 1 (down_pos e) one_pos (fin s m e) (fin false 0 (pos 0)) (refl, refl)
    (refl, refl)
    ∙ ap (λ (w : ℕ). below s w false (0 * down e)) (mul-one (m * up e))
    ∙ ap (λ (w : ℕ). below s (m * up e) false w) (zero-mul (down e))

pub test_below : (limit : ℕ) (x : Float) → lt x (fin false 0 (pos 0)) ≡ true → within limit x ≡ false
unfolding within
test_below limit nan h = refl
test_below limit (inf s) h = refl
test_below limit (fin false m e) h =
    absurd (not-lt-zero (m * up e) (ltb-true (m * up e) 0 (sym (lt_zero false m e) ∙ h)))
  where
    not-lt-zero : (w : ℕ) → w < 0 → ⊥
    not-lt-zero w l = omega arith
test_below limit (fin true zero e) h =
    never (sym (le-ltb 0 (0 * up e + 0) (omega (arith, zero-mul (up e)))) ∙ sym (lt_zero true zero e) ∙ h)
test_below limit (fin true (suc m) e) h = ap (λ (w : Bool). w || false) (eqb-suc-zero m)

infinite_le : (y : Float) (b : ℕ) → HasValue y false b 1 → le (inf false) y ≡ false
infinite_le nan b v = absurd v
infinite_le (inf t) b v = absurd v
infinite_le (fin t n d) b v = inf_le false t n d

zero_within : (limit m : ℕ) (e : ℤ) → lt (fin true m e) (fin false 0 (pos 0)) ≡ false
    → within limit (fin true m e) ≡ true
unfolding within
zero_within limit zero e h = refl
zero_within limit (suc m) e h =
    never (sym h ∙ lt_zero true (suc m) e
    ∙ lt-ltb 0 (suc m * up e + 0) (omega (arith, mul-pos (zero-lt-suc m) (up_pos e))))

pub test_within : (limit : ℕ) (x y : Float) → HasValue y false limit 1 → lt x (fin false 0 (pos 0)) ≡ false
    → le x y ≡ within limit x
test_within limit nan y v h = unfold within in nan_le y
test_within limit (inf true) y v h = never (sym h ∙ inf_lt true false 0 (pos 0))
test_within limit (inf false) y v h = unfold within in infinite_le y limit v
test_within limit (fin false m e) y v h =
    le_value false (m * up e) (down e) false limit 1 (down_pos e) one_pos (fin false m e) y (refl, refl) v
    ∙ ap (λ (w : ℕ). leb w (limit * down e)) (mul-one (m * up e))
    ∙ sym (within_value limit (fin false m e) (m * up e) (down e) (down_pos e) (refl, refl))
test_within limit (fin true m e) y v h =
    le_value true (m * up e) (down e) false limit 1 (down_pos e) one_pos (fin true m e) y (refl, refl) v
    ∙ sym (zero_within limit m e h)

-- ---- the product by 2 ^ 17 is exact, so cut to a whole number it counts the halves of 1 / 65,536

pub halves : (x : Float) → T (fits binary64 x) → T (within 255 x)
    → Cut (mul binary64 x (fin false 1 (pos 17))) (131072 * num x) (den x)
halves nan f t = absurd (unfold within in t)
halves (inf s) f t = absurd (unfold within in t)
halves (fin s m e) f t =
    let l : m * up e ≤ 255 * down e = within_le 255 (fin s m e) t in
    let d : 0 < down e = down_pos e in
    let y : Float = mul binary64 (fin s m e) (fin false 1 (pos 17)) in
    cut_value y s (131072 * (m * up e)) (down e) d
    (subst (λ (w : ℕ). HasValue y s w (down e)) (mul_comm (m * up e) 131072)
    (mul_pow_value binary64 s m e 17 f
    (lt_of_lt_of_le (small (m * up e) (down e) d l) (mul-le-mul_right (down e) (lit≤ tt)))))
    (λ z. omega (arith, within_sign 255 s m e t z)) (omega arith)
  where
    small : (a d : ℕ) → 0 < d → a ≤ 255 * d → a * 131072 < 2 ^ 64 * d
    small a d h l = omega arith

pub halves_le : (x : Float) → T (within 255 x) → 131072 * num x / den x ≤ 33423360
halves_le x t =
    let l : num x ≤ 255 * den x = within_le 255 x t in
    let d : 0 < den x = den_pos x in
    le_of_suc-le-suc ((div-lt_iff_lt-mul d).1 (omega arith))

pub halves_rounded : (x : Float) → (131072 * num x / den x + 1) / 2 ≡ rounded_q16 x
unfolding rounded_q16
halves_rounded x =
    ap (λ (w : ℕ). w / 2) (sym (add-div_right (131072 * num x) (den_pos x)))
    ∙ div-div-eq-div-mul (131072 * num x + den x) (den x) 2
    ∙ ap (λ (w : ℕ). (131072 * num x + den x) / w) (mul_comm (den x) 2)

-- ---- the factor of a q

over : (q : ℕ) (x : Float) → HasValue x false q 1 → div binary64 x (fin false 1 (pos 16)) ≡ round binary64 false q scale
unfolding div
over q nan v = absurd v
over q (inf s) v = absurd v
over q (fin true m e) v = absurd (true≢false v.0)
over q (fin false m e) v =
    round_same binary64 false (m * up e * 1) (scale * down e) q scale (mul-pos (zero-lt-suc 65535) (down_pos e))
    (zero-lt-suc 65535)
    (ap (λ (w : ℕ). w * scale) v.1 ∙ mul_assoc q (down e) scale ∙ ap (λ (w : ℕ). q * w) (mul_comm (down e) scale))

pub factor_value : (q : ℕ) → q < 2 ^ 53 → HasValue (factor_of q) false q scale
unfolding factor_of
factor_value q h =
    subst (λ (x : Float). HasValue x false q scale) (sym (over q (of_int binary64 (pos q)) (of_int_value q (le_of_lt h))))
    (round_exact binary64 false q scale q 1058 (zero-lt-suc 65535) h (lt_of_lt_of_le (shl_lt 53 1058 h) (lit≤ tt))
    (sym (mul_assoc q (2 ^ 1058) scale)))

pub quantized_factor : (limit q : ℕ) → limit ≤ 255 → q ≤ limit * scale → quantized limit (factor_of q) ≡ Some q
quantized_factor limit q l h =
    let v = factor_value q (omega arith) in
    quantized_taken limit (factor_of q)
    (within_value limit (factor_of q) q scale (zero-lt-suc 65535) v ∙ le-leb q (limit * scale) h)
    ∙ ap Some (rounded_value (factor_of q) false q scale (zero-lt-suc 65535) v ∙ omega arith)
