-- Laws of ℕ that pictures need and that `native.Mathlib.Nat`, `lib.Arith` and `lib.Pow` lack. In order: products;
-- division by a variable, also by a multiplication; a place by its row and its column, y * s + x with x < s; parity;
-- powers of two.
--
-- Not here: `digits_div`, `digits_mod`, `digits_lt` (`lib.Arith`); `div-add-mod'`, `mul-le-mul`, `div-lt_iff_lt-mul`,
-- `le-div_iff_mul-le`, `two-pow-succ` (`native.Mathlib.Nat`); `min`, `max`, and `/` and `%` by a numeral, all of which
-- `omega` reads.
use mathlib.Core.Path.{◌≡◌, sym, ap, ◌∙◌}
use mathlib.Core.Logic.{◌⊎◌, inl, inr, ⊎_elim}
use Prim.Native.Nat.{ℕ, zero, suc, ◌+◌, ◌-◌, ◌*◌, ◌/◌, ◌%◌, ◌^◌, ◌≤◌, ◌<◌}
use native.Mathlib.Nat.{le_refl, le_trans, le_of_lt, zero-lt-suc, add-mul, mul-add, one-mul, mul-one, mul_assoc}
use native.Mathlib.Nat.{mul_right_comm, mul-le-mul_left, mul-le-mul_right, lt_of_mul-lt-mul_right, le-mul_of_pos_right}
use native.Mathlib.Nat.{mul_comm, div-zero, div-mul-le_self, div-eq_of_lt-le, lt-mul-div-succ, lt-div-mul-add}
use native.Mathlib.Nat.{le-div_iff_mul-le, eq-zero-or-pos, two-pow-succ, mod-lt}
use native.Mathlib.Numerals.{add-one}
use native.Mathlib.Omega.{arith}
use lib.Arith.{digits_div, digits_mod}

-- ---- products

pub le_mul_of_pos_left : {m : ℕ} (n : ℕ) → 0 < m → n ≤ m * n
le_mul_of_pos_left {m} n h = rw (mul_comm m n) (le-mul_of_pos_right n h)

pub add_one_mul : (y s : ℕ) → (y + 1) * s ≡ y * s + s
add_one_mul y s = add-mul y 1 s ∙ ap (λ (k : ℕ). y * s + k) (one-mul s)

-- ---- division by a variable

pub div_mono : {a b : ℕ} (s : ℕ) → a ≤ b → a / s ≤ b / s
div_mono {a} {b} s h =
    ⊎_elim (λ (e : s ≡ 0). rw (e, div-zero a, div-zero b) (le_refl 0))
    (λ (p : 0 < s). (le-div_iff_mul-le p).1 (le_trans (div-mul-le_self a s) h)) (eq-zero-or-pos s)

-- the quotient and the remainder are the only ones
pub div_mod_unique : {j s x : ℕ} (y : ℕ) → j ≡ y * s + x → x < s → (j / s ≡ y) × (j % s ≡ x)
div_mod_unique {s = s} y e h = (ap (λ (k : ℕ). k / s) e ∙ digits_div y h, ap (λ (k : ℕ). k % s) e ∙ digits_mod y h)

-- Division by L as a multiplication by the reciprocal m = s / L + 1 in units of 1 / s, which exceeds s / L by 1 at
-- most: N / L ≤ N × m / s, and N × m × L ≤ N × s + N × L < (N + 1) × s.
pub div_by_mul : {s : ℕ} (n l : ℕ) → 0 < l → n * l < s → n / l ≡ n * (s / l + 1) / s
div_by_mul {s} n l p h = sym (div-eq_of_lt-le s low high)
  where
    low : n / l * s ≤ n * (s / l + 1)
    low = le_trans (mul-le-mul_left (n / l) (le_of_lt (lt-mul-div-succ s p)))
        (rw (← mul_assoc (n / l) l (s / l + 1)) (mul-le-mul_right (s / l + 1) (div-mul-le_self n l)))

    scaled : n * (s / l + 1) * l < (n / l + 1) * s * l
    scaled =
        let a : n * (s / l + 1) * l ≡ n * (s / l * l) + n * l = simp (mul-add, add-mul, mul-one, mul_assoc) in
        let b : n * (s / l * l) ≤ n * s = mul-le-mul_left n (div-mul-le_self s l) in
        let d : (n + 1) * s ≡ n * s + s = add_one_mul n s in
        let e : (n + 1) * s ≤ (n / l + 1) * l * s =
        mul-le-mul_right s (omega (arith, add_one_mul (n / l) l, lt-div-mul-add {a = n} p)) in
        let f : (n / l + 1) * l * s ≡ (n / l + 1) * s * l = mul_right_comm (n / l + 1) l s in
        omega arith

    high : n * (s / l + 1) < (n / l + 1) * s
    high = lt_of_mul-lt-mul_right l scaled

-- ---- a place by its row and its column

-- every place of a picture, w by h with stride s, lies before its end
pub place_lt : {x y w h : ℕ} (s : ℕ) → x < w → y < h → y * s + x < (h - 1) * s + w
place_lt {y = y} {h = h} s p q = let e : y * s ≤ (h - 1) * s = mul-le-mul_right s (omega arith) in omega arith

-- ---- parity

pub even_or_odd : (n : ℕ) → (n % 2 ≡ 0) ⊎ (n % 2 ≡ 1)
even_or_odd n = go (n % 2) (mod-lt n (zero-lt-suc 1))
  where
    go : (r : ℕ) → r < 2 → (r ≡ 0) ⊎ (r ≡ 1)
    go zero h = inl (omega arith)
    go (suc r) h = inr (omega arith)

-- ---- powers of two

pub two_pow_more : (k : ℕ) → 2 ^ (k + 1) ≡ 2 ^ k + 2 ^ k
two_pow_more k = ap (λ (n : ℕ). 2 ^ n) (add-one k) ∙ two-pow-succ k
