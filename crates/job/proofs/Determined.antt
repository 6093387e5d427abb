-- The contract of the whole job determines the answer and every byte of the destination.
use Prim.Native.Nat.{ℕ}
use mathlib.Core.List.{List}
use lib.IntN.{ℤ}
use lib.ListN.{length}
use Rattle.numbers.specs.Scalar.{clamp_byte}
use Rattle.image.specs.Call.{Gray8, told, same}
use Rattle.image.specs.Determined.{WritesOne, Determines}
use Rattle.image.proofs.Determined.{outcome_determines, painted_one}
use Rattle.image.proofs.Told.{told_one}
use Rattle.swings.specs.declared.Swing.{Swing}
use Rattle.job.specs.declared.JobConfig.{JobConfig}
use Rattle.job.specs.Job.{job_of, layout_of, plan, job_estimate, JobWrites, Restored}

pub job_one : (src : Gray8) (dst_stride : ℕ) (config : JobConfig) → WritesOne (JobWrites src dst_stride config)
job_one src dst_stride config =
    painted_one 0 (λ result c r. clamp_byte (job_estimate src config result config.iterations c r)) src.width
    src.height dst_stride

-- how much of both kinds is lent
abbrev pub lengths : List ℤ × List Swing → ℕ × ℕ
lengths lent = (length lent.0, length lent.1)

pub restored_determined : (src dst : Gray8) (config : JobConfig)
    → Determines lengths
    (λ lent lent' new answer. Restored src dst new config lent.0 lent'.0 lent.1 lent'.1 answer)
restored_determined src dst config lent lent' other other' new new' answer answer' e o p =
    let one = outcome_determines lengths (λ sizes. plan (job_of src (layout_of dst) config sizes.0 sizes.1)) same
    (JobWrites src dst.stride config) (job_one src dst.stride config) dst.bytes lent lent' other other' new new'
    (told answer) (told answer') e o p
    in
    (told_one answer answer' one.0, one.1)
