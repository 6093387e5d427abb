-- The estimate at a pixel: that of the line through it, at its place there (document 01, "Views and lines",
-- "Restoration and line unsharp"). A picture is a function px of column and row, w by h.
use Rattle.std.specs.Prelude.{ℕ, ℤ, pos}
use Rattle.raster.specs.declared.border.LineBorderMode.{LineBorderMode}
use Rattle.raster.specs.declared.direction.RasterDirection4.{RasterDirection4}
use Rattle.raster.specs.Border.{border_map}
use Rattle.raster.specs.Lines.{line_length, col_at, row_at, line_of, place_of}
use Rattle.line.specs.Line.{after}

-- the samples of line k
abbrev pub samples : (ℕ → ℕ → ℕ) → RasterDirection4 → ℕ → ℕ → ℕ → ℤ
samples px d w k i = pos (px (col_at d w k i) (row_at d w k i))

-- the estimate after n iterations, at place p of line k
unfoldable pub estimate_on : (ℕ → ℕ → ℕ) → RasterDirection4 → ℕ → ℕ → LineBorderMode → ℕ → ℕ → ℕ → ℕ → ℕ → ℤ
estimate_on px d w h border L q n k p = after (border_map border (line_length d w h k)) (samples px d w k) q L n p

-- the estimate after n iterations, at the pixel (c, r)
unfoldable pub estimate : (ℕ → ℕ → ℕ) → RasterDirection4 → ℕ → ℕ → LineBorderMode → ℕ → ℕ → ℕ → ℕ → ℕ → ℤ
estimate px d w h border L q n c r = estimate_on px d w h border L q n (line_of d w c r) (place_of d w c r)
