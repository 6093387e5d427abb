-- `smear_estimate_line_length`: document 01's answer ("Length") as C has it, a result and an out-parameter.
use Rattle.std.specs.Prelude.{List, ℕ, Float, Option, Some, None, length}
use Rattle.std.specs.Float.{binary64}
use Rattle.std.specs.Float.Ieee.{of_bits}
use Rattle.image.specs.Call.{Gray8, number_of, OutsOnly, Outcome}
use Rattle.raster.specs.declared.direction.RasterDirection4.{RasterDirection4}
use Rattle.swings.specs.declared.Swing.{Swing}
use Rattle.blur.specs.Length.{thresholds, snapped_decision}

-- the out-parameter: the length, and 0.0 for none
abbrev pub pixels_of : Option Float → Float
pixels_of (Some pixels) = pixels
pixels_of None = of_bits binary64 0

abbrev pub LengthMeasuredC : Gray8 → Option RasterDirection4 → ℕ → ℕ → Float → Float → List Swing → List Swing → ℕ
    → Type 0
LengthMeasuredC src s transitions amplitude before after swings swings' r =
    Outcome (snapped_decision src s (thresholds transitions amplitude) (length swings)) number_of
    (OutsOnly pixels_of) before after swings swings' r
