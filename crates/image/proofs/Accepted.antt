-- When a layout is given which number, and what it is to be accepted.
use Prim.Native.Nat.{ℕ, ◌+◌, ◌*◌, ◌-◌, ◌/◌, ◌≤◌, ◌<◌, ◌^◌}
use native.Mathlib.Nat.{mul-le-mul, mul-le-mul_left, mul_comm, pos_of_ne-zero, ne_of_gt, div-lt_iff_lt-mul}
use native.Mathlib.Nat.{le-div_iff_mul-le, le_refl, mul-add, mul-one}
use native.Mathlib.Omega.{arith}
use mathlib.Core.Bool.{false, ◌||◌, or-true}
use mathlib.Core.Logic.{◌⊎◌, inl, inr}
use mathlib.Core.Path.{◌≡◌, sym, ◌∙◌}
use lib.Dec.{eqb, ltb}
use borrow.Author.Tests.{eq-eqb, ne_eqb, lt-ltb, le-ltb, eqb-false, ltb-false}
use Rattle.image.specs.Refusal.{max_side, sides_refusal, rows_refusal, layout_refusal, Laid}
use Rattle.image.proofs.Chain.{cond_zero, first_zero, first_own}
use Rattle.numbers.proofs.Test.{or_false_intro, or_false_left, or_false_right}

-- Each number in its condition: the sides, ..
module _ (width height : ℕ) where
  pub sides_1 : (width ≡ 0) ⊎ (height ≡ 0) → sides_refusal width height ≡ 1
  unfolding sides_refusal
  sides_1 (inl e) = simp (eq-eqb width 0 e)
  sides_1 (inr e) = simp (eq-eqb height 0 e, or-true)

  module _ (pw : 0 < width) (ph : 0 < height) where
    some : (eqb width 0 || eqb height 0) ≡ false
    some = or_false_intro (ne_eqb width 0 (ne_of_gt pw)) (ne_eqb height 0 (ne_of_gt ph))

    pub sides_2 : (max_side < width) ⊎ (max_side < height) → sides_refusal width height ≡ 2
    unfolding sides_refusal
    sides_2 (inl h) = simp (some, lt-ltb max_side width h)
    sides_2 (inr h) = simp (some, lt-ltb max_side height h, or-true)

    pub sides_0 : width ≤ max_side → height ≤ max_side → sides_refusal width height ≡ 0
    unfolding sides_refusal
    sides_0 mw mh = simp (some, le-ltb max_side width mw, le-ltb max_side height mh)

  -- accepted sides
  pub sides_some : sides_refusal width height ≡ 0 → (0 < width) × (0 < height)
  unfolding sides_refusal
  sides_some e =
      let a = (cond_zero (eqb width 0 || eqb height 0) 1 _ (omega arith) e).0 in (
        pos_of_ne-zero (eqb-false width 0 (or_false_left (eqb width 0) (eqb height 0) a)),
        pos_of_ne-zero (eqb-false height 0 (or_false_right (eqb width 0) (eqb height 0) a)),
      )

  pub sides_few : sides_refusal width height ≡ 0 → (width ≤ max_side) × (height ≤ max_side)
  unfolding sides_refusal
  sides_few e =
      let large = ltb max_side width || ltb max_side height in
      let a = (cond_zero large 2 0 (omega arith) (cond_zero (eqb width 0 || eqb height 0) 1 _ (omega arith) e).1).0 in (
        ltb-false max_side width (or_false_left (ltb max_side width) (ltb max_side height) a),
        ltb-false max_side height (or_false_right (ltb max_side width) (ltb max_side height) a),
      )

-- .. and the rows
module _ (len width height stride : ℕ) where
  pub layout_sides : (sides_refusal width height ≡ 0 → ⊥)
      → layout_refusal len width height stride ≡ sides_refusal width height
  unfolding layout_refusal
  layout_sides h = first_own (sides_refusal width height) _ h

  pub layout_1 : (width ≡ 0) ⊎ (height ≡ 0) → layout_refusal len width height stride ≡ 1
  layout_1 h =
      let e = sides_1 width height h in
      layout_sides (λ z. let n : ◌≡◌ {A = ℕ} 1 0 = sym e ∙ z in omega arith) ∙ e

  module _ (taken : sides_refusal width height ≡ 0) where
    pub layout_3 : stride < width → layout_refusal len width height stride ≡ 3
    unfolding layout_refusal rows_refusal
    layout_3 h = simp (taken, lt-ltb stride width h)

    pub layout_4 : width ≤ stride → len < stride * (height - 1) + width → layout_refusal len width height stride ≡ 4
    unfolding layout_refusal rows_refusal
    layout_4 s h = simp (taken, le-ltb stride width s, lt-ltb len (stride * (height - 1) + width) h)

    pub layout_0 : width ≤ stride → stride * (height - 1) + width ≤ len → layout_refusal len width height stride ≡ 0
    unfolding layout_refusal rows_refusal
    layout_0 s h = simp (taken, le-ltb stride width s, le-ltb len (stride * (height - 1) + width) h)

-- The test for 4 by a quotient, which cannot wrap.
module _ (len width k stride : ℕ) (ps : 0 < stride) (h : width ≤ len) where
  pub short_of : (len - width) / stride < k → len < stride * k + width
  short_of q = omega (arith, h, (div-lt_iff_lt-mul ps).0 q, mul_comm k stride)

  pub long_of : k ≤ (len - width) / stride → stride * k + width ≤ len
  long_of q = omega (arith, h, (le-div_iff_mul-le ps).0 q, mul_comm k stride)

module _ {len width height stride : ℕ} where
  -- an accepted layout is laid, and the other way round
  pub laid : layout_refusal len width height stride ≡ 0 → Laid len width height stride
  unfolding layout_refusal
  laid e =
      let s = first_zero (sides_refusal width height) _ e in
      let d = cond_zero (ltb stride width) 3 _ (omega arith) s.1 in
      let f = cond_zero (ltb len (stride * (height - 1) + width)) 4 0 (omega arith) d.1 in
      record {
        width_pos = (sides_some width height s.0).0;
        width_most = (sides_few width height s.0).0;
        height_pos = (sides_some width height s.0).1;
        height_most = (sides_few width height s.0).1;
        stride_least = ltb-false stride width d.0;
        len_least = ltb-false len (stride * (height - 1) + width) f.0;
      }

  pub accepted : Laid len width height stride → layout_refusal len width height stride ≡ 0
  accepted l =
      layout_0 len width height stride (sides_0 width height l.width_pos l.height_pos
      l.width_most l.height_most)
      l.stride_least l.len_least

  -- Places of an accepted picture. Row r ends within the bytes; so lies each of its pixels.
  pub row_within : Laid len width height stride → (r : ℕ) → r < height → r * stride + width ≤ len
  row_within l r h =
      omega (arith, l.len_least, mul-le-mul_left {m = r} {n = height - 1} stride (omega arith), mul_comm r stride)

  pub place_within : Laid len width height stride → (c r : ℕ) → c < width → r < height → r * stride + c < len
  place_within l c r hc hr = omega (arith, hc, row_within l r hr)

  pub place_small : Laid len width height stride → (c r : ℕ) → c < width → r < height → len < 2 ^ 63
      → r * stride + c < 2 ^ 63
  place_small l c r hc hr h = omega (arith, h, place_within l c r hc hr)

  pub area_most : Laid len width height stride → width * height ≤ 2 ^ 20
  area_most l = mul-le-mul l.width_most l.height_most

-- ---- rows without gaps

last_row : (width height : ℕ) → 0 < height → width * (height - 1) + width ≡ width * height
last_row width height p =
    let one : height - 1 + 1 ≡ height = omega arith in
    omega (arith, rw one at (mul-add width (height - 1) 1), mul-one width)

pub tight_laid : (len width height : ℕ) → 0 < width → width ≤ max_side → 0 < height → height ≤ max_side
    → width * height ≤ len → Laid len width height width
tight_laid len width height pw mw ph mh fits =
    record {
      width_pos = pw;
      width_most = mw;
      height_pos = ph;
      height_most = mh;
      stride_least = le_refl width;
      len_least = rw (last_row width height ph) fits;
    }

pub tight_area : {len width height : ℕ} → Laid len width height width → width * height ≤ len
tight_area {width = width} {height} l = rw (last_row width height l.height_pos) at l.len_least
