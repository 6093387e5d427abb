-- The contracts of the line filters determine the answer, every byte of the destination and every estimate.
use Prim.Native.Nat.{ℕ}
use mathlib.Core.List.{List}
use lib.IntN.{ℤ, pos}
use lib.ListN.{length}
use Rattle.numbers.specs.Scalar.{clamp_byte}
use Rattle.image.specs.Call.{Gray8, told, map_found}
use Rattle.image.proofs.Told.{told_one}
use Rattle.image.specs.Determined.{WritesOne, Determines}
use Rattle.image.proofs.Determined.{outcome_determines, painted_one}
use Rattle.line.specs.declared.kernel.LineKernel.{LineKernel}
use Rattle.deblur.specs.Settings.{LineFilter}
use Rattle.deblur.specs.Calls.{
  metadata_of,
  last_estimate,
  filter_decision,
  FilterWrites,
  Filtered,
  estimate_decision,
  EstimateWrites,
  EstimateWritten,
}

pub filter_one : (src : Gray8) (dst_stride : ℕ) (kernel : LineKernel) → WritesOne (FilterWrites src dst_stride kernel)
filter_one src dst_stride kernel =
    painted_one 0 (λ d c r. clamp_byte (last_estimate src kernel d c r)) src.width src.height dst_stride

pub estimate_one : (src : Gray8) (kernel : LineKernel) → WritesOne (EstimateWrites src kernel)
estimate_one src kernel = painted_one (pos 0) (last_estimate src kernel) src.width src.height src.width

pub filtered_determined : (src dst : Gray8) (f : LineFilter)
    → Determines length (λ scratch scratch' new answer. Filtered src dst new f scratch scratch' answer)
filtered_determined src dst f scratch scratch' other other' new new' answer answer' e o p =
    let one = outcome_determines length (filter_decision src dst f) (map_found metadata_of)
    (FilterWrites src dst.stride f.kernel) (filter_one src dst.stride f.kernel) dst.bytes scratch scratch' other other'
    new new' (told answer) (told answer') e o p
    in
    (told_one answer answer' one.0, one.1)

pub estimates_determined : (src : Gray8) (old : List ℤ) (f : LineFilter)
    → Determines length (λ scratch scratch' new answer. EstimateWritten src old new f scratch scratch' answer)
estimates_determined src old f scratch scratch' other other' new new' answer answer' e o p =
    let one = outcome_determines length (estimate_decision src (length old) f) (map_found metadata_of)
    (EstimateWrites src f.kernel) (estimate_one src f.kernel) old scratch scratch' other other'
    new new' (told answer) (told answer') e o p
    in
    (told_one answer answer' one.0, one.1)
