-- Document 02, K5: "with the same picture as before on every input accepted before". The contract of the whole job with
-- 10 as it was, where it asked for document 01's 3 × width × height i32.
use Rattle.std.specs.Prelude.{ℕ, ◌*◌, ◌||◌, List, ltb, ℤ, length, Result}
use Rattle.image.specs.Call.{Gray8, Decision, unless, told, same, Outcome}
use Rattle.image.specs.declared.refusal.Refusal.{Refusal}
use Rattle.image.specs.Refusal.{first_refusal}
use Rattle.swings.specs.declared.Swing.{Swing}
use Rattle.deblur.specs.Before.{scratch_before}
use Rattle.deblur.specs.Refusal.{iterated_refusal, in_order}
use Rattle.job.specs.declared.JobConfig.{JobConfig}
use Rattle.job.specs.declared.JobResult.{JobResult}
use Rattle.job.specs.Job.{
  layout_of,
  Job,
  job_of,
  pictures_refusal,
  floor_refusal,
  plan_length,
  job_direction,
  job_length,
  JobWrites,
}

abbrev pub job_refusal_before : Job → ℕ
job_refusal_before j =
    in_order (pictures_refusal j.source j.destination)
    (iterated_refusal j.config.relaxation j.config.iterations)
    (ltb j.scratch_len (scratch_before j.source.width j.source.height) || ltb j.swings_len
    (j.source.width * j.source.height))

abbrev pub plan_before : Job → Decision JobResult
plan_before j =
    unless (first_refusal (job_refusal_before j) (floor_refusal j.source j.config))
    (plan_length j.source.width j.source.height (job_direction j) (job_length j))

abbrev pub RestoredBefore : Gray8 → Gray8 → List ℕ → JobConfig → List ℤ → List ℤ → List Swing
    → List Swing → Result JobResult Refusal → Type 0
RestoredBefore src dst new config scratch scratch' swings swings' answer =
    Outcome {S = List ℤ × List Swing} (plan_before (job_of src (layout_of dst) config (length scratch) (length swings)))
    same
    (JobWrites src dst.stride config) dst.bytes new (scratch, swings) (scratch', swings') (told answer)
