-- Document 01, "Direction from an angle", as it was before document 02's K7: every angle had a direction, and one that
-- is not a number anywhere was Horizontal. What K7 keeps is stated over it (`proofs/Snapped: as_before`).
use Rattle.std.specs.Prelude.{cond, Float}
use Rattle.std.specs.Float.{binary64}
use Rattle.std.specs.Float.Ieee.{of_bits, add, mul, div, rem, lt}
use Rattle.raster.specs.declared.direction.RasterDirection4.{RasterDirection4}
use Rattle.raster.specs.Direction.{nearest}

-- the angle × 57.29577951308232 % 180
unfoldable pub rest_before : Float → Float
rest_before angle =
    rem binary64 (mul binary64 angle (of_bits binary64 0x404c_a5dc_1a63_c1f8)) (of_bits binary64 0x4066_8000_0000_0000)

-- .. plus 180 if negative
unfoldable pub half_turn_before : Float → Float
unfolding rest_before
half_turn_before angle =
    cond (lt (rest_before angle) (of_bits binary64 0))
    (add binary64 (rest_before angle) (of_bits binary64 0x4066_8000_0000_0000))
    (rest_before angle)

unfoldable pub direction_before : Float → RasterDirection4
unfolding half_turn_before nearest
direction_before angle = nearest (div binary64 (half_turn_before angle) (of_bits binary64 0x4046_8000_0000_0000))
