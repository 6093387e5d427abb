-- What each public call answers and writes. `Filtered` and `EstimateWritten` are the contracts' facts: over the source,
-- the destination and what it is after, what the settings come to, the scratch before and after, and the answer.
use Rattle.std.specs.Prelude.{ℕ, List, ℤ, pos, length, Option, Some, None, Result}
use Rattle.numbers.specs.Scalar.{clamp_byte}
use Rattle.numbers.specs.Written.{Painted}
use Rattle.image.specs.Call.{Gray8, Decision, refuses, decided, told, map_found, Outcome}
use Rattle.image.specs.declared.refusal.Refusal.{Refusal}
use Rattle.raster.specs.declared.direction.RasterDirection4.{RasterDirection4}
use Rattle.line.specs.declared.kernel.LineKernel.{LineKernel}
use Rattle.deblur.specs.declared.LinePlan.{LinePlan}
use Rattle.deblur.specs.declared.RestorationMetadata.{RestorationMetadata}
use Rattle.deblur.specs.Lines.{kernel_estimate}
use Rattle.deblur.specs.Refusal.{filter_refusal, estimate_refusal}
use Rattle.deblur.specs.Settings.{LineFilter}

-- what a call answers of the direction that its lines take
abbrev pub metadata_of : RasterDirection4 → RestorationMetadata
metadata_of d = record { raster_direction = d }

-- the direction, by a refusal's number; where there is none, the number is 7 or one before it, and never 0
abbrev pub decided_along : ℕ → Option RasterDirection4 → Decision RasterDirection4
decided_along number (Some d) = decided number d
decided_along number None = refuses number

-- the direction of the lines with what is done on each, by the refusal of the settings on a picture of these sides
abbrev pub plan_of : LineFilter → ℕ → ℕ → Decision LinePlan
plan_of f width height =
    map_found (λ d. record { direction = d; kernel = f.kernel })
    (decided_along (f.refusal width height) f.direction)

-- the last estimate at the pixel (c, r)
abbrev pub last_estimate : Gray8 → LineKernel → RasterDirection4 → ℕ → ℕ → ℤ
last_estimate src kernel d c r = kernel_estimate src.bytes src.width src.height src.stride d kernel c r

-- ---- restoration and line unsharp

abbrev pub filter_number : Gray8 → Gray8 → LineFilter → ℕ → ℕ
filter_number src dst f scratch_len =
    filter_refusal (length src.bytes) src.width src.height src.stride (length dst.bytes) dst.width
    dst.height
    dst.stride (f.refusal src.width src.height) scratch_len

abbrev pub filter_decision : Gray8 → Gray8 → LineFilter → ℕ → Decision RasterDirection4
filter_decision src dst f scratch_len = decided_along (filter_number src dst f scratch_len) f.direction

-- each pixel of the destination is the last estimate there, cut to 0..255
abbrev pub FilterWrites : Gray8 → ℕ → LineKernel → RasterDirection4 → List ℕ → List ℕ → Type 0
FilterWrites src dst_stride kernel d old new =
    Painted 0 (λ c r. clamp_byte (last_estimate src kernel d c r)) src.width src.height dst_stride old new

abbrev pub Filtered : Gray8 → Gray8 → List ℕ → LineFilter → List ℤ → List ℤ → Result RestorationMetadata Refusal → Type 0
Filtered src dst new f scratch scratch' answer =
    Outcome (filter_decision src dst f (length scratch)) (map_found metadata_of)
    (FilterWrites src dst.stride f.kernel) dst.bytes new scratch scratch' (told answer)

-- ---- the estimate call

abbrev pub estimate_number : Gray8 → ℕ → LineFilter → ℕ → ℕ
estimate_number src dst_len f scratch_len =
    estimate_refusal (length src.bytes) src.width src.height src.stride dst_len
    (f.refusal src.width src.height) scratch_len

abbrev pub estimate_decision : Gray8 → ℕ → LineFilter → ℕ → Decision RasterDirection4
estimate_decision src dst_len f scratch_len = decided_along (estimate_number src dst_len f scratch_len) f.direction

-- the last estimate uncut, in the first width × height places, row by row
abbrev pub EstimateWrites : Gray8 → LineKernel → RasterDirection4 → List ℤ → List ℤ → Type 0
EstimateWrites src kernel d old new =
    Painted (pos 0) (last_estimate src kernel d) src.width src.height src.width old new

abbrev pub EstimateWritten : Gray8 → List ℤ → List ℤ → LineFilter → List ℤ → List ℤ → Result RestorationMetadata Refusal → Type 0
EstimateWritten src old new f scratch scratch' answer =
    Outcome (estimate_decision src (length old) f (length scratch)) (map_found metadata_of)
    (EstimateWrites src f.kernel) old new scratch scratch' (told answer)
