-- Where the two levels of a swing between two bytes lie, rounded as they are: the lower one on the first sample's side
-- of a quarter of the way, the upper one on the last sample's side of three quarters. So a run that is past the upper
-- level does not cross the lower one any more (`rising_apart`, `falling_apart`).
use Prim.Native.Nat.{ℕ, suc, ◌+◌, ◌-◌, ◌*◌, ◌^◌, ◌≤◌, ◌<◌}
use native.Mathlib.Nat.{le_trans, zero-lt-suc, le_of_mul-le-mul_right}
use native.Mathlib.Omega.{arith}
use mathlib.Core.Path.{◌≡◌, refl, sym, ap, ◌∙◌, subst}
use mathlib.Core.Bool.{false, true}
use lib.Dec.{T, leb→le, lit≤, lit<}
use lib.IntN.{ℤ, pos, negsuc, ◌-ℤ◌}
use lib.Ieee.{Float, nan, inf, fin, binary64, of_bits, of_int, up, down, mul, le}
use lib.Ieee.Fits.{down_pos}
use lib.Ieee.Exact.{HasValue}
use Rattle.numbers.proofs.Int.Ring.{sub_ℕ-is, sub_ℕ-pos, sub_ℕ-neg}
use Rattle.floats.proofs.Order.{le_positive}
use Rattle.floats.proofs.Values.{of_int_negative}
use Rattle.floats.proofs.Rounded.{Quarters, quarters_mul, quarters_add, quarters_sub}
use Rattle.swings.specs.Rise.{level_of, low_part, high_part}
use Rattle.swings.proofs.Width.{byte_value}

-- ---- the levels
low_within : Quarters false 0 1 low_part
unfolding of_bits
low_within = (refl, lit≤ tt, lit≤ tt)

high_within : Quarters false 3 4 high_part
unfolding of_bits
high_within = (refl, lit≤ tt, lit≤ tt)

-- the change from v to w as a double
rise_value : (v w d : ℕ) → v + d ≡ w → w ≤ 255 → HasValue (of_int binary64 (pos w -ℤ pos v)) false d 1
rise_value v w d e h =
    let same : pos w -ℤ pos v ≡ pos d = sym (sub_ℕ-is w v) ∙ sub_ℕ-pos {a = w} {b = v} (omega arith)
    ∙ ap pos (omega arith) in
    subst (λ (z : ℤ). HasValue (of_int binary64 z) false d 1) (sym same) (byte_value d (omega arith))

fall_value : (v w d : ℕ) → w + suc d ≡ v → v ≤ 255 → HasValue (of_int binary64 (pos w -ℤ pos v)) true (suc d) 1
fall_value v w d e h =
    let same : pos w -ℤ pos v ≡ negsuc d = sym (sub_ℕ-is w v) ∙ sub_ℕ-neg {a = w} {b = v} (omega arith)
    ∙ ap negsuc (omega arith) in
    let small : suc d ≤ 255 = omega arith in
    subst (λ (z : ℤ). HasValue (of_int binary64 z) true (suc d) 1) (sym same)
    (of_int_negative d (le_trans small (lit≤ tt)))

module _ (part : Float) (p q : ℕ) (within : Quarters false p q part) (v w d l h : ℕ) (b : h < 2 ^ 53) where
  rising-level : v + d ≡ w → w ≤ 255 → l ≤ 4 * v + p * d → 4 * v + q * d ≤ h → Quarters false l h (level_of v w part)
  unfolding level_of
  rising-level e w≤ c k =
      quarters_add (of_int binary64 (pos v)) (mul binary64 part (of_int binary64 (pos w -ℤ pos v))) v (p * d) (q * d) l h
      b (byte_value v (omega arith))
      (quarters_mul p q part (of_int binary64 (pos w -ℤ pos v)) false d (omega arith) within (rise_value v w d e w≤)) c k

  falling-level : w + suc d ≡ v → v ≤ 255 → l + q * suc d ≤ 4 * v → 4 * v ≤ h + p * suc d
      → Quarters false l h (level_of v w part)
  unfolding level_of
  falling-level e v≤ c k =
      quarters_sub (of_int binary64 (pos v)) (mul binary64 part (of_int binary64 (pos w -ℤ pos v))) v (p * suc d)
      (q * suc d) l h b (byte_value v v≤)
      (quarters_mul p q part (of_int binary64 (pos w -ℤ pos v)) true (suc d) (omega arith) within
      (fall_value v w d e v≤)) c k

-- ---- samples on the two sides of a level
above_sample : (p q : ℕ) (z : Float) (v : ℕ) → v ≤ 255 → Quarters false p q z → T (le (of_int binary64 (pos v)) z)
    → 4 * v ≤ q
above_sample p q nan v b h t = absurd h
above_sample p q (inf s) v b h t = absurd h
above_sample p q (fin s m e) v b h t =
    let x = of_int binary64 (pos v) in
    let same = le_positive x (fin s m e) v 1 (m * up e) (down e) (zero-lt-suc 0) (down_pos e) (byte_value v b)
    (h.0, refl) in
    let c = leb→le (v * down e) (m * up e * 1) (subst T same t) in
    let scaled : 4 * v * down e ≤ q * down e = omega (arith, c, h.2) in
    le_of_mul-le-mul_right scaled (down_pos e)

below_sample : (p q : ℕ) (z : Float) (v : ℕ) → v ≤ 255 → Quarters false p q z → T (le z (of_int binary64 (pos v)))
    → p ≤ 4 * v
below_sample p q nan v b h t = absurd h
below_sample p q (inf s) v b h t = absurd h
below_sample p q (fin s m e) v b h t =
    let x = of_int binary64 (pos v) in
    let same = le_positive (fin s m e) x (m * up e) (down e) v 1 (down_pos e) (zero-lt-suc 0) (h.0, refl)
    (byte_value v b) in
    let c = leb→le (m * up e * 1) (v * down e) (subst T same t) in
    let scaled : p * down e ≤ 4 * v * down e = omega (arith, c, h.1) in
    le_of_mul-le-mul_right scaled (down_pos e)

-- ---- a run from va to vb: at v after a step across the upper level, at w before a later one across the lower
module _ (va vb v w : ℕ) (va≤ : va ≤ 255) (vb≤ : vb ≤ 255) (v≤ : v ≤ 255) (w≤ : w ≤ 255) where
  pub rising_apart : va < vb → T (le (level_of va vb high_part) (of_int binary64 (pos v)))
      → T (le (of_int binary64 (pos w)) (level_of va vb low_part)) → w < v
  rising_apart l h k =
      let high = rising-level high_part 3 4 high_within va vb (vb - va) (va + 3 * vb) 1020 (lit< tt) (omega arith) vb≤
      (omega arith) (omega arith) in
      let low = rising-level low_part 0 1 low_within va vb (vb - va) 0 (3 * va + vb) (omega arith) (omega arith) vb≤
      (omega arith) (omega arith) in
      omega (
        arith,
        below_sample (va + 3 * vb) 1020 (level_of va vb high_part) v v≤ high h,
        above_sample 0 (3 * va + vb)
            (level_of va vb low_part) w w≤ low k,
      )

  pub falling_apart : vb < va → T (le (of_int binary64 (pos v)) (level_of va vb high_part))
      → T (le (level_of va vb low_part) (of_int binary64 (pos w))) → v < w
  falling_apart l h k =
      let high = falling-level high_part 3 4 high_within va vb (va - suc vb) 0 (va + 3 * vb) (omega arith) (omega arith)
      va≤ (omega arith) (omega arith) in
      let low = falling-level low_part 0 1 low_within va vb (va - suc vb) (3 * va + vb) 1020 (lit< tt) (omega arith) va≤
      (omega arith) (omega arith) in
      omega (
        arith,
        above_sample 0 (va + 3 * vb) (level_of va vb high_part) v v≤ high h,
        below_sample (3 * va + vb) 1020
            (level_of va vb low_part) w w≤ low k,
      )
