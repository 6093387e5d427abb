-- The work along a direction, from what the calls accept: a kernel that is taken (`restoration_kernel`,
-- `unsharp_kernel`), what the lines ask (`source_asked`), and that what they wrote at the strides of rows is what is to
-- be written at the pictures' own (`along_painted`).
use mathlib.Core.Path.{◌≡◌, ap}
use mathlib.Core.Bool.{true}
use mathlib.Core.List.{List}
use Prim.Native.Nat.{ℕ, ◌^◌, ◌≤◌, ◌<◌}
use native.Mathlib.Omega.{arith}
use denote.Floats.{passes}
use lib.Dec.{T}
use lib.IntN.{ℤ}
use lib.Ieee.{Float}
use Rattle.numbers.specs.Written.{Painted}
use Rattle.numbers.proofs.Written.{painted_same}
use Rattle.image.specs.Picture.{pixel}
use Rattle.image.specs.Refusal.{max_side}
use Rattle.floats.specs.Factor.{max_relaxation, max_gain, within}
use Rattle.floats.proofs.Factor.{within_more, rounded_le}
use Rattle.raster.specs.declared.border.LineBorderMode.{LineBorderMode}
use Rattle.raster.specs.declared.direction.RasterDirection4.{RasterDirection4}
use Rattle.line.specs.declared.kernel.LineKernel.{LineKernel}
use Rattle.line.specs.Kernel.{KernelAsked}
use Rattle.deblur.specs.Lines.{row_stride, kernel_estimate, AlongAsked, SourceAsked}
use Rattle.deblur.specs.Refusal.{LengthTaken, IterationsTaken}
use Rattle.deblur.specs.Settings.{line_kernel}
use Rattle.deblur.proofs.RowStride.{walked, pixel_same, estimate_same}

-- ---- the kernel of accepted settings

-- a factor whose q is made
pub factor_small : (limit : ℕ) (factor : Float) → limit ≤ 255 → within limit factor ≡ true → T (within 255 factor)
factor_small limit factor few t = within_more limit 255 few factor (passes (within limit factor) t)

module _ {width height L : ℕ} (l : LengthTaken width height L) (mw : width ≤ max_side) (mh : height ≤ max_side)
    (factor : Float) (border : LineBorderMode) where
  pub restoration_kernel : {iterations : ℕ} → within max_relaxation factor ≡ true → IterationsTaken iterations
      → KernelAsked (line_kernel L factor iterations border)
  restoration_kernel t i =
      let q = rounded_le max_relaxation factor (passes (within max_relaxation factor) t) in
      let least = l.least in
      let most = l.most in
      record { long = omega arith; bounded = omega arith; iterated = i.most; gain = omega arith; relaxation = λ _. q }

  pub unsharp_kernel : within max_gain factor ≡ true → KernelAsked (line_kernel L factor 1 border)
  unsharp_kernel t =
      let q = rounded_le max_gain factor (passes (within max_gain factor) t) in
      let least = l.least in
      let most = l.most in
      record {
        long = omega arith;
        bounded = omega arith;
        iterated = omega arith;
        gain = q;
        relaxation = λ h. absurd (omega arith);
      }

-- ---- the strides of rows

module _ {len width height stride : ℕ} {kernel : LineKernel} {scratch_len : ℕ}
    (a : AlongAsked len width height stride kernel scratch_len) where
  pub source_asked : len < 2 ^ 63 → SourceAsked len width height (row_stride width height stride) kernel scratch_len
  source_asked few = record { walked = walked a.laid few; taken = a.taken; room = a.room }

pub along_painted : {A : Type 0} {z : A} {old new : List A} (g : ℤ → A) (src : List ℕ) (w h stride dst_stride : ℕ)
    (d : RasterDirection4)
    (kernel : LineKernel)
    → Painted z (λ c r. g (kernel_estimate src w h (row_stride w h stride) d kernel c r)) w h dst_stride old new
    → Painted z (λ c r. g (kernel_estimate src w h stride d kernel c r)) w h dst_stride old new
along_painted g src w h stride dst_stride d kernel P =
    painted_same (λ c r. g (kernel_estimate src w h (row_stride w h stride) d kernel c r)) w h dst_stride P
    (λ c r. g (kernel_estimate src w h stride d kernel c r)) λ c r hc hr.
    ap g
    (estimate_same (pixel src (row_stride w h stride)) (pixel src stride) d w h kernel.border kernel.blur_length
    kernel.q
    kernel.iterations c r (λ x y _ hy. pixel_same src w h stride x y hy) hc hr)
