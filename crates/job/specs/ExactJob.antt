-- The exact run of the whole job (document 01, "Whole job and exact run"): "same arguments as the whole job,
-- destination layout and scratch lengths included, and same rules for refusals, direction, length and border". Document
-- 02, K6: "The exact run obeys the same floor."
use Rattle.std.specs.Prelude.{ℕ}
use Rattle.floats.specs.Factor.{rounded_q16}
use Rattle.image.specs.Call.{Decision}
use Rattle.image.specs.Picture.{pixel}
use Rattle.line.specs.Exact.{Fraction}
use Rattle.job.specs.declared.JobResult.{JobResult}
use Rattle.job.specs.Exact.{exact_value}
use Rattle.job.specs.Job.{Job, plan}

-- what it answers
abbrev pub exact_answer : Job → Decision JobResult
exact_answer j = plan j

-- "The exact value after k is Nk / S^k", at the pixel (c, r), of a run with the direction and the blur length of
-- `result`
abbrev pub exact_after : Job → JobResult → ℕ → ℕ → ℕ → Fraction
exact_after j result k c r =
    exact_value (pixel j.source.bytes j.source.stride) result.direction j.source.width j.source.height
    j.config.border result.blur_length (rounded_q16 j.config.relaxation) k c r
