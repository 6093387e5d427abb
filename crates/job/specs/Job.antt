-- The whole job (document 01, "Whole job and exact run"): "Direction from the picture, then length along it, rounded to
-- the smallest odd whole number that is at least 3 and at least the estimate, then restoration." `plan` is what a job
-- comes to; `Restored` is the contract's fact.
use Rattle.std.specs.Prelude.{ℕ, ◌*◌, ◌≤◌, Bool, true, cond, ◌||◌, List, ◌≡◌, ltb, ℤ, Float, length, Option, Some, None, Result}
use Rattle.numbers.specs.Scalar.{clamp_byte}
use Rattle.numbers.specs.Written.{Painted}
use Rattle.floats.specs.Factor.{max_relaxation, within, rounded_q16}
use Rattle.floats.specs.Odd.{odd_length}
use Rattle.image.specs.Call.{Gray8, Decision, accepts, refuses, unless, told, same, Outcome}
use Rattle.image.specs.Picture.{pixel}
use Rattle.image.specs.declared.layout.Layout.{Layout}
use Rattle.image.specs.declared.refusal.Refusal.{Refusal}
use Rattle.image.specs.Refusal.{first_refusal, pair_refusal, LaidPair}
use Rattle.raster.specs.declared.border.LineBorderMode.TheVariants.{Replicate}
use Rattle.raster.specs.declared.direction.RasterDirection4.{RasterDirection4}
use Rattle.blur.specs.Length.{defaults, thresholds, length_along}
use Rattle.tensor.specs.Confidence.{confidence_refusal}
use Rattle.tensor.specs.Tensor.{picture_sums, estimate_of}
use Rattle.swings.specs.declared.Swing.{Swing}
use Rattle.line.specs.declared.kernel.LineKernel.{LineKernel}
use Rattle.line.specs.Kernel.{max_blur_length}
use Rattle.deblur.specs.Picture.{estimate}
use Rattle.deblur.specs.Refusal.{
  scratch_needed,
  iterated_refusal,
  scratch_short,
  in_order,
  IterationsTaken,
}
use Rattle.deblur.specs.Settings.{default_iterations, default_relaxation, line_kernel}
use Rattle.job.specs.declared.JobConfig.{JobConfig}
use Rattle.job.specs.declared.JobResult.{JobResult}

-- how a picture lies in a slice of so many bytes
abbrev pub layout : ℕ → ℕ → ℕ → ℕ → Layout
layout len width height stride = record { len = len; width = width; height = height; stride = stride }

abbrev pub layout_of : Gray8 → Layout
layout_of p = layout (length p.bytes) p.width p.height p.stride

-- the arguments: source, destination layout, settings, and how much scratch of both kinds is lent
pub record Job : Type 0 where
  pub source : Gray8
  pub destination : Layout
  pub config : JobConfig
  pub scratch_len : ℕ
  pub swings_len : ℕ

abbrev pub job_of : Gray8 → Layout → JobConfig → ℕ → ℕ → Job
job_of src dst config scratch_len swings_len =
    record { source = src; destination = dst; config = config; scratch_len = scratch_len; swings_len = swings_len }

-- "Whole-job settings are thresholds, iterations, relaxation and border." The defaults are those of the length and of
-- the restoration. Document 02, K6: a floor c too; c = 0 leaves nothing out.
unfoldable pub job_default : JobConfig
job_default =
    record {
      minimum_transitions = defaults.minimum_transitions;
      minimum_amplitude = defaults.minimum_amplitude;
      minimum_confidence = 0;
      iterations = default_iterations;
      relaxation = default_relaxation;
      border = Replicate;
    }

-- ---- "Refusals, first match wins": 1 to 6 of the pictures, 8 and 9 of the settings, 10 of what is lent. 0 is no
-- refusal.

-- 10 scratch is shorter than `scratch_needed` i32, or than width × height swing records: "both kinds for the whole job"
abbrev pub lent_short : ℕ → ℕ → ℕ → ℕ → Bool
lent_short width height scratch_len swings_len = scratch_short width height scratch_len || ltb swings_len (width * height)

-- of both pictures
abbrev pub pictures_refusal : Gray8 → Layout → ℕ
pictures_refusal src dst =
    pair_refusal (length src.bytes) src.width src.height src.stride dst.len dst.width dst.height
    dst.stride

unfoldable pub job_refusal : Job → ℕ
job_refusal j =
    in_order (pictures_refusal j.source j.destination)
    (iterated_refusal j.config.relaxation j.config.iterations)
    (lent_short j.source.width j.source.height j.scratch_len j.swings_len)

-- document 02, K6: 17 the confidence of the picture's direction is below the floor, or the floor is above 256
abbrev pub floor_refusal : Gray8 → JobConfig → ℕ
floor_refusal src config =
    confidence_refusal config.minimum_confidence src.width src.height (picture_sums src)

-- what is refused before anything is measured along lines: 17 stands "between 10 and 11"
unfoldable pub start_refusal : Job → ℕ
start_refusal j = first_refusal (job_refusal j) (floor_refusal j.source j.config)

-- ---- the plan: what a job comes to

-- "Direction from the picture"
unfoldable pub picture_direction : Gray8 → RasterDirection4
picture_direction src = (estimate_of src.width src.height (picture_sums src)).direction

-- ".. rounded to the smallest odd whole number that is at least 3 and at least the estimate"; 12 it exceeds
-- 2 × max(width, height) + 1
abbrev pub plan_odd : ℕ → ℕ → RasterDirection4 → Float → Option ℕ → Decision JobResult
plan_odd width height d estimate (Some L) =
    cond (ltb (max_blur_length width height) L) (refuses 12)
    (accepts (record { direction = d; blur_length = L; estimate = estimate }))
plan_odd width height d estimate None = refuses 12

-- 11 the length answer is Nothing, which is `None`
abbrev pub plan_length : ℕ → ℕ → RasterDirection4 → Option Float → Decision JobResult
plan_length width height d (Some estimate) = plan_odd width height d estimate (odd_length estimate)
plan_length width height d None = refuses 11

abbrev pub job_direction : Job → RasterDirection4
job_direction j = picture_direction j.source

-- "then length along it"
abbrev pub job_length : Job → Option Float
job_length j =
    length_along j.source (job_direction j) (thresholds j.config.minimum_transitions j.config.minimum_amplitude)

unfoldable pub plan : Job → Decision JobResult
plan j = unless (start_refusal j) (plan_length j.source.width j.source.height (job_direction j) (job_length j))

-- ---- the restoration

-- what is done on each line
abbrev pub job_kernel : JobConfig → JobResult → LineKernel
job_kernel config result = line_kernel result.blur_length config.relaxation config.iterations config.border

-- the estimate after k iterations, at the pixel (c, r)
abbrev pub job_estimate : Gray8 → JobConfig → JobResult → ℕ → ℕ → ℕ → ℤ
job_estimate src config result k c r =
    estimate (pixel src.bytes src.stride) result.direction src.width src.height config.border
    result.blur_length (rounded_q16 config.relaxation) k c r

-- each pixel is the last estimate there, cut to 0..255
abbrev pub JobWrites : Gray8 → ℕ → JobConfig → JobResult → List ℕ → List ℕ → Type 0
JobWrites src dst_stride config result old new =
    Painted 0 (λ c r. clamp_byte (job_estimate src config result config.iterations c r)) src.width src.height
    dst_stride old new

-- what a job answers and leaves; both kinds of scratch go together
abbrev pub Restored : Gray8 → Gray8 → List ℕ → JobConfig → List ℤ → List ℤ → List Swing
    → List Swing → Result JobResult Refusal → Type 0
Restored src dst new config scratch scratch' swings swings' answer =
    Outcome {S = List ℤ × List Swing} (plan (job_of src (layout_of dst) config (length scratch) (length swings)))
    same
    (JobWrites src dst.stride config) dst.bytes new (scratch, swings) (scratch', swings') (told answer)

-- ---- accepted jobs

-- what the restoration of an accepted job has
pub record Runnable (src : Gray8) (dst : Layout) (config : JobConfig) (scratch_len : ℕ) : Type 0 where
  pub pictures : LaidPair (length src.bytes) src.width src.height src.stride dst.len
      dst.width dst.height
      dst.stride
  pub iterations_taken : IterationsTaken config.iterations
  pub relaxation_taken : within max_relaxation config.relaxation ≡ true
  pub scratch_least : scratch_needed src.width src.height ≤ scratch_len

-- `job_refusal` is 0 exactly there.
pub record JobAccepted (j : Job) : Type 0 where
  pub runnable : Runnable j.source j.destination j.config j.scratch_len
  pub swings_least : j.source.width * j.source.height ≤ j.swings_len
