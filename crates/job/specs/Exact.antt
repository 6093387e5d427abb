-- The exact run over a picture (document 01, "Whole job and exact run"), line by line: a picture is a function px of
-- column and row, w by h.
use Rattle.std.specs.Prelude.{ℕ, ℤ}
use Rattle.raster.specs.Border.{border_map}
use Rattle.raster.specs.Lines.{line_length, line_of, place_of}
use Rattle.raster.specs.declared.border.LineBorderMode.{LineBorderMode}
use Rattle.raster.specs.declared.direction.RasterDirection4.{RasterDirection4}
use Rattle.line.specs.Exact.{Fraction, value_after}
use Rattle.line.specs.ExactLine.{exact}
use Rattle.deblur.specs.Picture.{samples}

-- Nk at the pixel (c, r): that of the line through it, at its place there
unfoldable pub exact_estimate : (ℕ → ℕ → ℕ) → RasterDirection4 → ℕ → ℕ → LineBorderMode → ℕ → ℕ → ℕ → ℕ → ℕ → ℤ
exact_estimate px d w h border L q k c r =
    exact (border_map border (line_length d w h (line_of d w c r))) (samples px d w (line_of d w c r)) q L k
    (place_of d w c r)

-- "The exact value after k is Nk / S^k."
abbrev pub exact_value : (ℕ → ℕ → ℕ) → RasterDirection4 → ℕ → ℕ → LineBorderMode → ℕ → ℕ → ℕ → ℕ → ℕ → Fraction
exact_value px d w h border L q k c r = value_after L k (exact_estimate px d w h border L q k c r)
