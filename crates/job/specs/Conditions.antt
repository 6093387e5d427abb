-- Document 01, "Refusals, first match wins", for the whole job, with document 02's 17: each number with its condition,
-- in the documents' order. What is accepted: before the picture is looked at `Job: JobAccepted`, and in all
-- `JobPlanned`.
use Rattle.std.specs.Prelude.{ℕ, ◌*◌, ◌<◌, List, [], ◌∷◌, ◌++◌, ◌⊎◌, ◌≡◌, length, Option, Some, None, Float}
use Rattle.floats.specs.Odd.{odd_length}
use Rattle.image.specs.Call.{Gray8}
use Rattle.image.specs.Conditions.{Refusal, given, pair_conditions}
use Rattle.tensor.specs.Confidence.{Confident, confidence_conditions}
use Rattle.tensor.specs.Tensor.{picture_sums}
use Rattle.line.specs.Kernel.{max_blur_length}
use Rattle.deblur.specs.Conditions.{iterated_conditions}
use Rattle.deblur.specs.Refusal.{scratch_needed}
use Rattle.job.specs.declared.JobConfig.{JobConfig}
use Rattle.job.specs.Job.{Job, job_length, JobAccepted}

-- a rounded length above the limit; where none is answered, it is above every limit
abbrev pub Exceeds : ℕ → Option ℕ → Type 0
Exceeds limit (Some L) = limit < L
Exceeds limit None = Unit {0}

-- "The whole job's rounded length exceeds 2 × max(width, height) + 1"
abbrev pub TooLong : ℕ → Option Float → Type 0
TooLong limit (Some estimate) = Exceeds limit (odd_length estimate)
TooLong limit None = ⊥

-- document 02, K6: "goes on only where the tensor's confidence .. is at least c / 256"
abbrev pub ConfidentJob : Gray8 → JobConfig → Type 0
ConfidentJob src config =
    let s = picture_sums src in
    Confident config.minimum_confidence src.width src.height s.a s.c s.e

abbrev pub floor_conditions : Gray8 → JobConfig → List Refusal
floor_conditions src config =
    confidence_conditions config.minimum_confidence src.width src.height (picture_sums src)

-- 11 and 12, of the length answer
abbrev pub measured_conditions : ℕ → ℕ → Option Float → List Refusal
measured_conditions width height l =
    given 11 (l ≡ None) ∷ given 12 (TooLong (max_blur_length width height) l) ∷ []

-- a length that the restoration takes: `plan_length` accepts exactly there
pub record LengthFits (width height : ℕ) (l : Option Float) : Type 0 where
  pub found : l ≡ None → ⊥
  pub fits : TooLong (max_blur_length width height) l → ⊥

abbrev pub lent_conditions : ℕ → ℕ → ℕ → ℕ → List Refusal
lent_conditions width height scratch_len swings_len =
    given 10 ((scratch_len < scratch_needed width height) ⊎ (swings_len < width * height)) ∷ []

abbrev pub job_conditions : Job → List Refusal
job_conditions j =
    let src = j.source in
    let dst = j.destination in
    pair_conditions (length src.bytes) src.width src.height src.stride dst.len dst.width dst.height
    dst.stride
    ++ (iterated_conditions j.config.relaxation j.config.iterations
    ++ (lent_conditions src.width src.height j.scratch_len j.swings_len
    ++ (floor_conditions src j.config
    ++ measured_conditions src.width src.height (job_length j))))

-- `plan` accepts exactly there.
pub record JobPlanned (j : Job) : Type 0 where
  pub accepted : JobAccepted j
  pub confident : ConfidentJob j.source j.config
  pub measured : LengthFits j.source.width j.source.height (job_length j)
