-- Doubles that are finite and above zero are ordered as their bit patterns are, read as whole numbers.
use mathlib.Core.Path.{◌≡◌, refl, sym, ap, ◌∙◌, subst}
use mathlib.Core.Bool.{Bool, true, false, not}
use mathlib.Core.List.{List, map}
use Prim.Native.Nat.{ℕ, ◌+◌, ◌-◌, ◌*◌, ◌/◌, ◌^◌, ◌≤◌, ◌<◌}
use native.Mathlib.Nat.{le_trans, lt_of_le_of_lt, le_antisymm, le_of_eq, le_of_lt, zero-add, suc-mul, mul_right_comm}
use native.Mathlib.Nat.{mul-le-mul_right, le-div_iff_mul-le}
use native.Mathlib.Omega.{arith}
use lib.Dec.{T, leb, ltb, leb→le, nleb→lt, ltb→lt, nltb→le, T_not, lit<}
use lib.Pow.{pow_pos, pow-add, shr_mono}
use lib.Ieee.{Float, nan, inf, fin, Format, binary32, binary64, prec, low, up, down, size, fits, to_bits, of_bits, le}
use lib.ListN.{get_or, get_or-map}
use borrow.Author.Tests.{le-leb, lt-leb}
use lib.Ieee.Digits.{size-lt, size-le, size_reaches}
use lib.Ieee.Fits.{kept-lt}
use lib.Ieee.Nearest.{div_mono}
use lib.Ieee.Positive.{num, den, positive, den_pos, le→cross, cross→le}
use lib.Ieee.Bits.{of_bits-to_bits}
use Rattle.blur.specs.Median.{sort}
use Rattle.std.specs.List.{AllByRecursion as Each}
use Rattle.blur.specs.Select.{Positive}
use Rattle.blur.proofs.Sorting.{map_sort}

-- ---- the pattern of a magnitude of n smallest units, at p binary digits
abbrev field : ℕ → ℕ → ℕ
field p n = size n - p

abbrev pattern : ℕ → ℕ → ℕ
pattern p n = field p n * 2 ^ (p - 1) + n / 2 ^ field p n

size_mono : (n m : ℕ) → n ≤ m → size n ≤ size m
size_mono n m h = size-le n (size m) (lt_of_le_of_lt h (size-lt m))

-- where digits are dropped, the leading one of those kept is there
leading : (p m : ℕ) → 0 < p → 0 < field p m → 2 ^ (p - 1) ≤ m / 2 ^ field p m
leading p m P h =
    (le-div_iff_mul-le (pow_pos (field p m))).1
    (subst (λ (z : ℕ). z ≤ m) (pow-add 2 (p - 1) (field p m))
    (size_reaches m (p - 1 + field p m) (omega arith)))

two_hids : (p : ℕ) → 0 < p → 2 ^ p ≡ 2 ^ (p - 1) + 2 ^ (p - 1)
two_hids p P = ap (2 ^◌) (back p P) ∙ pow-add 2 (p - 1) 1 ∙ double (2 ^ (p - 1))
  where
    back : (q : ℕ) → 0 < q → q ≡ q - 1 + 1
    back q h = omega arith

    double : (x : ℕ) → x * 2 ^ 1 ≡ x + x
    double x = omega arith

pattern_mono : (p n m : ℕ) → 0 < p → n ≤ m → pattern p n ≤ pattern p m
pattern_mono p n m P h =
    go (ltb (field p n) (field p m)) (ltb→lt (field p n) (field p m)) (nltb→le (field p n) (field p m))
  where
    go : (b : Bool) → (T b → field p n < field p m) → (T (not b) → field p m ≤ field p n) → pattern p n ≤ pattern p m
    go true f g =
        omega (
          arith,
          kept-lt p n,
          leading p m P (omega (arith, f tt)),
          two_hids p P,
          mul-le-mul_right (2 ^ (p - 1))
              (f tt),
          suc-mul (field p n) (2 ^ (p - 1)),
        )
    go false f g =
        let e : field p n ≡ field p m = omega (arith, g tt, size_mono n m h) in
        rw e (omega (arith, shr_mono (field p m) h))

-- ---- the pattern of a value
to_bits_is : (f : Format) (x : Float) → T (positive x) → to_bits f x ≡ pattern (prec f) (num x * 2 ^ low f / den x)
unfolding to_bits
to_bits_is f nan p = absurd p
to_bits_is f (inf s) p = absurd p
to_bits_is f (fin true m e) p = absurd p
to_bits_is f (fin false m e) p =
    ap (◌+ (m * up e * 2 ^ low f / down e) / 2 ^ field (prec f) (m * up e * 2 ^ low f / down e)) (zero-add _)

prec_pos : (f : Format) → 0 < prec f
prec_pos binary32 = lit< tt
prec_pos binary64 = lit< tt

pub bits_mono : (f : Format) (x y : Float) → T (positive x) → T (positive y) → T (le x y) → to_bits f x ≤ to_bits f y
bits_mono f x y p q h =
    rw (to_bits_is f x p, to_bits_is f y q)
    (pattern_mono (prec f) (num x * 2 ^ low f / den x) (num y * 2 ^ low f / den y) (prec_pos f)
    (div_mono (num x * 2 ^ low f) (den x) (num y * 2 ^ low f) (den y) (den_pos x) (den_pos y)
    (le_trans (le_of_eq (mul_right_comm (num x) (2 ^ low f) (den y)))
    (le_trans (mul-le-mul_right (2 ^ low f) (le→cross x y p q h))
    (le_of_eq (mul_right_comm (num y) (den x) (2 ^ low f)))))))

bits_injective : (f : Format) (x y : Float) → T (fits f x) → T (fits f y) → to_bits f x ≡ to_bits f y → x ≡ y
bits_injective f x y p q e = sym (of_bits-to_bits f x p) ∙ ap (of_bits f) e ∙ of_bits-to_bits f y q

total : (x y : Float) → T (positive x) → T (positive y) → T (not (le x y)) → T (le y x)
total x y p q h =
    cross→le y x q p
    (go (leb (num y * den x) (num x * den y)) (leb→le (num y * den x) (num x * den y))
    (nleb→lt (num y * den x) (num x * den y)))
  where
    go : (b : Bool) → (T b → num y * den x ≤ num x * den y) → (T (not b) → num x * den y < num y * den x)
        → num y * den x ≤ num x * den y
    go true f g = f tt
    go false f g = absurd (T_not (le x y) h (cross→le x y p q (le_of_lt (g tt))))

pub le_is_bits : (f : Format) (x y : Float) → Positive f x → Positive f y → le x y ≡ leb (to_bits f x) (to_bits f y)
le_is_bits f x y p q = go (le x y) (bits_mono f x y p.above q.above) (total x y p.above q.above) refl
  where
    go : (b : Bool) → (T b → to_bits f x ≤ to_bits f y) → (T (not b) → T (le y x)) → le x y ≡ b
        → b ≡ leb (to_bits f x) (to_bits f y)
    go true h k e = sym (le-leb _ _ (h tt))
    go false h k e = sym
        (lt-leb _ _ (strict (ltb (to_bits f y) (to_bits f x)) (ltb→lt (to_bits f y) (to_bits f x))
        (nltb→le (to_bits f y) (to_bits f x))))
      where
        strict : (c : Bool) → (T c → to_bits f y < to_bits f x) → (T (not c) → to_bits f x ≤ to_bits f y)
            → to_bits f y < to_bits f x
        strict true u v = u tt
        strict false u v =
            let s : x ≡ y = bits_injective f x y p.holds q.holds
            (le_antisymm (v tt) (bits_mono f y x q.above p.above (k tt))) in
            absurd (subst T e (subst (λ (z : Float). T (le x z)) s (rw (← s) at k tt)))

-- ---- so sorting by the order of doubles and by that of their patterns agree, at every place
pub sort_bits : (f : Format) (ws : List Float) → Each (Positive f) ws
    → map (to_bits f) (sort le ws) ≡ sort leb (map (to_bits f) ws)
sort_bits f ws e = map_sort (to_bits f) (Positive f) le leb (le_is_bits f) ws e

pub bits_at : (f : Format) (ws : List Float) (k : ℕ) (d : Float) → Each (Positive f) ws
    → get_or (sort leb (map (to_bits f) ws)) k (to_bits f d) ≡ to_bits f (get_or (sort le ws) k d)
bits_at f ws k d e = ap (λ (m : List ℕ). get_or m k (to_bits f d)) (sym (sort_bits f ws e))
    ∙ get_or-map (to_bits f) (sort le ws) k d
