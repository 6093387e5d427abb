-- Document 01, Length: three equal rows 0 0 0 50 100 150 200 250 250 250, Horizontal, give 5.0 with minimum 3, and
-- nothing with 4. One record too few, or a row too few, is refused. Document 02, K7: an angle that is not a number
-- gives 7 between 4 and 10, also on 2 by 2, where a direction gives nothing.
use mathlib.Core.Path.{◌≡◌, refl}
use mathlib.Core.List.{List, [], ◌∷◌, ◌++◌}
use Prim.Native.Nat.{ℕ}
use lib.Ieee.{binary64, of_bits, of_int, add, sub, mul, div, rem, le, lt, eq}
use Rattle.std.specs.Prelude.{Option, Some, None, Float}
use Rattle.image.specs.Call.{Decision, accepts, refuses, gray8}
use Rattle.image.specs.Refusal.{layout_refusal}
use Rattle.raster.specs.Direction.{from_angle}
use Rattle.raster.specs.declared.direction.RasterDirection4.TheVariants.{Horizontal}
use Rattle.raster.specs.Lines.{start_col, start_row}
use Rattle.swings.specs.Rise.{level_of, crossed_at, place_at, crossing_of, rise_between}
use Rattle.swings.specs.Swings.{swings_from}
use Rattle.blur.specs.Length.{thresholds, defaults, length_decision, snapped_decision}

ramp : List ℕ
ramp = 0 ∷ 0 ∷ 0 ∷ 50 ∷ 100 ∷ 150 ∷ 200 ∷ 250 ∷ 250 ∷ 250 ∷ []

-- along rows 10 wide, with the default least swing
unfoldable decision : ℕ → ℕ → ℕ → Decision (Option Float)
unfolding length_decision ramp
decision rows minimum lent = length_decision (gray8 (ramp ++ (ramp ++ ramp)) 10 rows 10) Horizontal (thresholds minimum 24) lent

minimum_three : decision 3 3 30 ≡ accepts (Some (of_bits binary64 0x4014_0000_0000_0000))
unfolding decision ramp layout_refusal start_col start_row swings_from level_of crossed_at place_at crossing_of rise_between
    of_bits of_int add sub mul div le lt eq
minimum_three = refl

minimum_four : decision 3 4 30 ≡ accepts None
unfolding decision ramp layout_refusal start_col start_row swings_from level_of crossed_at place_at crossing_of rise_between
    of_bits of_int add sub mul div le lt eq
minimum_four = refl

minimum_none : decision 3 0 30 ≡ accepts None
unfolding decision ramp layout_refusal
minimum_none = refl

few_records : decision 3 3 29 ≡ refuses 10
unfolding decision ramp layout_refusal
few_records = refl

short_slice : decision 4 3 40 ≡ refuses 4
unfolding decision ramp layout_refusal
short_slice = refl

-- ---- by an angle: a picture of 2 by 2, by the bits of the angle, its bytes, and the records

unfoldable small : ℕ → List ℕ → ℕ → Decision (Option Float)
unfolding length_decision
small angle bytes lent = snapped_decision (gray8 bytes 2 2 2) (from_angle (of_bits binary64 angle)) defaults lent

four_bytes : List ℕ
four_bytes = 0 ∷ 0 ∷ 0 ∷ 0 ∷ []

along_rows : small 0 four_bytes 4 ≡ accepts None
unfolding small four_bytes from_angle of_bits mul rem lt div layout_refusal
along_rows = refl

not_a_number : small 0x7ff8_0000_0000_0000 four_bytes 4 ≡ refuses 7
unfolding small four_bytes from_angle of_bits mul layout_refusal
not_a_number = refl

seven_before_ten : small 0x7ff8_0000_0000_0000 four_bytes 0 ≡ refuses 7
unfolding small four_bytes from_angle of_bits mul layout_refusal
seven_before_ten = refl

four_before_seven : small 0x7ff8_0000_0000_0000 [] 0 ≡ refuses 4
unfolding small from_angle of_bits mul layout_refusal
four_before_seven = refl

-- the last angle with a direction, and the next double
last_angle : small 0x7f91_df46_a252_9d38 four_bytes 4 ≡ accepts None
unfolding small four_bytes from_angle of_bits mul rem lt div layout_refusal
last_angle = refl

next_angle : small 0x7f91_df46_a252_9d39 four_bytes 4 ≡ refuses 7
unfolding small four_bytes from_angle of_bits mul layout_refusal
next_angle = refl
