-- The lines of a picture (document 01, Views and lines). A line is a function from its places to bytes.
use Rattle.std.specs.Prelude.{ℕ, ◌+◌, ◌*◌, ◌<◌, ◌≡◌, List, length, get_or, Float}
use Rattle.std.specs.Float.{binary64}
use Rattle.std.specs.Float.Ieee.{of_bits}
use Rattle.image.specs.Call.{Gray8}
use Rattle.image.specs.Picture.{pixel}
use Rattle.image.specs.Refusal.{Laid}
use Rattle.raster.specs.declared.direction.RasterDirection4.{RasterDirection4}
use Rattle.raster.specs.declared.direction.RasterDirection4.TheVariants.{Horizontal, DownRight, Vertical, DownLeft}
use Rattle.raster.specs.Lines.{line_count, line_length, col_at, row_at, place_step}
use Rattle.swings.specs.declared.scan.ScanPlan.{ScanPlan}

-- some lines: their samples, how many samples each has, and how many lines there are
pub record Lines : Type 0 where
  pub line : ℕ → ℕ → ℕ
  pub len : ℕ → ℕ
  pub count : ℕ

-- the first lines of a direction in a picture w by h: sample i of line k is the pixel at its place i
abbrev pub first_lines : ℕ → List ℕ → RasterDirection4 → ℕ → ℕ → ℕ → Lines
first_lines count bytes d w h stride = record {
  line = λ k i. pixel bytes stride (col_at d w k i) (row_at d w k i);
  len = λ k. line_length d w h k;
  count = count;
}

-- all lines
abbrev pub lines_of : List ℕ → RasterDirection4 → ℕ → ℕ → ℕ → Lines
lines_of bytes d w h stride = first_lines (line_count d w h) bytes d w h stride

-- document 01, Length: how long a step of a line is, 1.0 or (the double) 1.4142135623730951 on diagonals
abbrev pub step_pixels : RasterDirection4 → Float
step_pixels Horizontal = of_bits binary64 0x3FF0_0000_0000_0000
step_pixels DownRight = of_bits binary64 0x3FF6_A09E_667F_3BCD
step_pixels Vertical = of_bits binary64 0x3FF0_0000_0000_0000
step_pixels DownLeft = of_bits binary64 0x3FF6_A09E_667F_3BCD

-- ---- what the scan's functions cite

-- samples that stand `step` bytes apart
abbrev pub sample : List ℕ → ℕ → ℕ → ℕ → ℕ
sample bytes start step i = get_or bytes (start + i * step) 0

-- the lines that a scan goes over
abbrev pub lines_on : Gray8 → ScanPlan → Lines
lines_on src c = first_lines c.count src.bytes c.direction src.width src.height src.stride

-- it goes over all lines of an accepted picture, or over none
pub record ValidPlan (src : Gray8) (c : ScanPlan) : Type 0 where
  pub laid : Laid (length src.bytes) src.width src.height src.stride
  pub step_is : 0 < c.count → c.step ≡ place_step c.direction src.stride
  pub count_is : 0 < c.count → c.count ≡ line_count c.direction src.width src.height
  pub pixel_is : c.pixel ≡ step_pixels c.direction
