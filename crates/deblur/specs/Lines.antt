-- The restoration of all lines of a direction, one after the other (document 01, "Views and lines", "Restoration and
-- line unsharp").
use Rattle.std.specs.Prelude.{◌≡◌, cond, List, ℕ, ◌^◌, ◌≤◌, ◌<◌, eqb, ℤ}
use Rattle.image.specs.Picture.{pixel}
use Rattle.image.specs.Refusal.{Laid}
use Rattle.raster.specs.Lines.{line_length, scan_line_at, byte_of, place_step}
use Rattle.raster.specs.declared.direction.RasterDirection4.{RasterDirection4}
use Rattle.raster.specs.declared.lines.ScanLine.{ScanLine}
use Rattle.line.specs.declared.kernel.LineKernel.{LineKernel}
use Rattle.line.specs.declared.kernel.LinePlaces.{LinePlaces}
use Rattle.line.specs.Kernel.{KernelAsked, line_at as estimate_at}
use Rattle.deblur.specs.Picture.{estimate_on, estimate}
use Rattle.deblur.specs.Refusal.{scratch_needed}

-- ---- the estimate with a kernel's settings

-- at place p of line k
abbrev pub kernel_on : List ℕ → ℕ → ℕ → ℕ → RasterDirection4 → LineKernel → ℕ → ℕ → ℤ
kernel_on src width height stride d kernel k p =
    estimate_on (pixel src stride) d width height kernel.border kernel.blur_length kernel.q
    kernel.iterations k p

-- at the pixel (c, r)
abbrev pub kernel_estimate : List ℕ → ℕ → ℕ → ℕ → RasterDirection4 → LineKernel → ℕ → ℕ → ℤ
kernel_estimate src width height stride d kernel c r =
    estimate (pixel src stride) d width height kernel.border kernel.blur_length kernel.q kernel.iterations
    c r

-- where a line lies in a picture of this stride
abbrev pub places_of : ScanLine → RasterDirection4 → ℕ → LinePlaces
places_of line d stride =
    record { start = byte_of stride line.col line.row; step = place_step d stride; len = line.len }

-- ---- what the work along a direction asks

-- a source and a kernel that the calls accept, with their scratch
pub record AlongAsked (len width height stride : ℕ) (kernel : LineKernel) (scratch_len : ℕ) : Type 0 where
  pub laid : Laid len width height stride
  pub taken : KernelAsked kernel
  pub room : scratch_needed width height ≤ scratch_len

-- A picture of one row has no next row, so that every stride from its width on is accepted and says nothing: the width
-- stands for it.
abbrev pub row_stride : ℕ → ℕ → ℕ → ℕ
row_stride width height stride = cond (eqb height 1) width stride

-- what walking the lines of a picture asks: it is accepted, and its steps from place to place are machine numbers
pub record WalkAsked (len width height stride : ℕ) : Type 0 where
  pub laid : Laid len width height stride
  pub stride_most : stride < 2 ^ 63

-- what the lines of a source ask
pub record SourceAsked (len width height stride : ℕ) (kernel : LineKernel) (scratch_len : ℕ) : Type 0 where
  pub walked : WalkAsked len width height stride
  pub taken : KernelAsked kernel
  pub room : scratch_needed width height ≤ scratch_len

-- what the lines of a source and a destination ask
pub record LinesAsked (len width height stride dst_len dst_stride : ℕ) (kernel : LineKernel) (scratch_len : ℕ) : Type 0
  where
    pub source : SourceAsked len width height stride kernel scratch_len
    pub destination : WalkAsked dst_len width height dst_stride

-- line k, with its last estimate in the second part of its scratch
pub record ScanLineRestored (src : List ℕ) (width height stride : ℕ) (d : RasterDirection4) (k : ℕ)
    (kernel : LineKernel)
    (scratch : List ℤ) (line : ScanLine) : Type 0 where
  pub line_is : line ≡ scan_line_at d width height k
  pub estimates : (p : ℕ) → p < line_length d width height k
      → estimate_at (line_length d width height k) scratch p ≡ kernel_on src width height stride d kernel k p
