-- `smear_direction_from_angle`: the answer of document 01 ("Direction from an angle") and document 02 (K7) as a number.
-- `smear_estimate_line_direction`: document 01's answer ("Direction from a picture") as C has it, a result and
-- out-parameters.
use Rattle.std.specs.Prelude.{ℕ, ℤ, Option, Some, None}
use Rattle.tensor.specs.declared.direction.DirectionEstimate.{DirectionEstimate}
use Rattle.raster.specs.Direction.{direction_index}
use Rattle.raster.specs.declared.direction.RasterDirection4.{RasterDirection4}

-- 0 to 3, or 4 where there is no direction
abbrev pub snapped_index : Option RasterDirection4 → ℕ
snapped_index (Some d) = direction_index d
snapped_index None = 4

-- the out-parameters
pub record DirectionOuts : Type 0 where
  pub direction : ℕ
  pub a : ℤ
  pub c : ℤ
  pub e : ℤ

-- the direction's number and the sums
abbrev pub direction_outs : DirectionEstimate → DirectionOuts
direction_outs d = record { direction = direction_index d.direction; a = d.sums.a; c = d.sums.c; e = d.sums.e }
