-- Document 02, K5: a whole job that did not answer 10 comes to what it did (`plan_as_before`), for the exact run too,
-- which goes by the same plan, and ends as it did (`restored_as_before`).
use Prim.Native.Nat.{ℕ, ◌*◌}
use mathlib.Core.Bool.{Bool, ◌||◌}
use mathlib.Core.Path.{◌≡◌, ap}
use lib.Dec.{ltb}
use lib.ListN.{length}
use Rattle.numbers.proofs.Test.{or_false_intro, or_false_left, or_false_right}
use Rattle.std.specs.Prelude.{Err}
use Rattle.image.specs.Call.{Gray8, Decision, refuses, unless, same}
use Rattle.image.specs.declared.refusal.Refusal.TheVariants.{LentTooSmall}
use Rattle.image.specs.Refusal.{first_refusal, Laid}
use Rattle.image.proofs.Pair.{laid_pair}
use Rattle.deblur.specs.Before.{scratch_before, AsBefore}
use Rattle.deblur.specs.Refusal.{scratch_needed, iterated_refusal}
use Rattle.deblur.proofs.Before.{long_enough, order_as_before, told_as_before}
use Rattle.job.specs.declared.JobConfig.{JobConfig}
use Rattle.job.specs.declared.JobResult.{JobResult}
use Rattle.job.specs.Before.{plan_before, RestoredBefore}
use Rattle.job.specs.Job.{
  layout_of,
  Job,
  job_of,
  pictures_refusal,
  job_refusal,
  floor_refusal,
  start_refusal,
  plan_length,
  job_direction,
  job_length,
  plan,
  JobWrites,
  Restored,
}
use Rattle.job.proofs.Determined.{job_one, lengths}

module _ (j : Job) where
  abbrev w : ℕ
  w = j.source.width

  abbrev h : ℕ
  h = j.source.height

  abbrev measured : Decision JobResult
  measured = plan_length w h (job_direction j) (job_length j)

  abbrev floor : ℕ
  floor = floor_refusal j.source j.config

  abbrev was : Bool
  was = ltb j.scratch_len (scratch_before w h)

  abbrev is : Bool
  is = ltb j.scratch_len (scratch_needed w h)

  abbrev few : Bool
  few = ltb j.swings_len (w * h)

  pub plan_as_before : (plan_before j ≡ refuses 10 → ⊥) → plan j ≡ plan_before j
  unfolding plan start_refusal job_refusal
  plan_as_before not-ten =
      ap (λ (k : ℕ). unless (first_refusal k floor) measured)
      (order_as_before (pictures_refusal j.source j.destination)
      (iterated_refusal j.config.relaxation j.config.iterations) (was || few) (is || few)
      (λ e short.
      let l : Laid (length j.source.bytes) w h j.source.stride = (laid_pair e).source in
      or_false_intro (long_enough l j.scratch_len (or_false_left was few short)) (or_false_right was few short))
      (λ e. not-ten (ap (λ (k : ℕ). unless (first_refusal k floor) measured) e)))

pub restored_as_before : (src dst : Gray8) (config : JobConfig)
    → AsBefore lengths (Err LentTooSmall)
    (λ lent lent' new answer. RestoredBefore src dst new config lent.0 lent'.0 lent.1 lent'.1 answer)
    (λ lent lent' new answer. Restored src dst new config lent.0 lent'.0 lent.1 lent'.1 answer)
restored_as_before src dst config =
    told_as_before lengths (λ sizes. plan_before (job_of src (layout_of dst) config sizes.0 sizes.1))
    (λ sizes. plan (job_of src (layout_of dst) config sizes.0 sizes.1)) same
    (JobWrites src dst.stride config) (job_one src dst.stride config) dst.bytes LentTooSmall
    (λ sizes. plan_as_before (job_of src (layout_of dst) config sizes.0 sizes.1))
