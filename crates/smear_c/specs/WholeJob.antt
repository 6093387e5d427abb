-- The whole job as C has it: settings one by one, a result, and out-parameters for what the job answers (document 01,
-- "Whole job and exact run").
use Rattle.std.specs.Prelude.{List, ℕ, ℤ, Float, length}
use Rattle.image.specs.Call.{Gray8, number_of, WithOuts, Outcome}
use Rattle.raster.specs.Border.{border_from}
use Rattle.raster.specs.Direction.{direction_index}
use Rattle.job.specs.declared.JobConfig.{JobConfig}
use Rattle.job.specs.declared.JobResult.{JobResult}
use Rattle.job.specs.Job.{job_of, layout_of, plan, JobWrites}
use Rattle.swings.specs.declared.Swing.{Swing}

abbrev pub job_config : ℕ → ℕ → ℕ → ℕ → Float → ℕ → ℕ → JobConfig
job_config transitions amplitude confidence iterations relaxation border value =
    record {
      minimum_transitions = transitions;
      minimum_amplitude = amplitude;
      minimum_confidence = confidence;
      iterations = iterations;
      relaxation = relaxation;
      border = border_from border value;
    }

-- the out-parameters
pub record JobOuts : Type 0 where
  pub direction : ℕ
  pub blur_length : ℕ
  pub estimate : Float

abbrev pub outs : ℕ → ℕ → Float → JobOuts
outs direction length estimate = record { direction = direction; blur_length = length; estimate = estimate }

-- the direction's number, the blur length and the estimate
abbrev pub job_outs : JobResult → JobOuts
job_outs result = outs (direction_index result.direction) result.blur_length result.estimate

abbrev pub RestoredC : Gray8 → Gray8 → List ℕ → JobConfig → List ℤ → List ℤ → List Swing
    → List Swing → JobOuts → JobOuts → ℕ
    → Type 0
RestoredC src dst new config scratch scratch' swings swings' before after r =
    Outcome {S = List ℤ × List Swing} (plan (job_of src (layout_of dst) config (length scratch) (length swings))) number_of
    (WithOuts (JobWrites src dst.stride config) job_outs) (dst.bytes, before) (new, after) (scratch, swings)
    (scratch', swings') r
