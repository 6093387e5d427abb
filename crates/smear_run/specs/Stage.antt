-- What a job's filter makes of a tight picture (document 01, "The 32-byte record"): the result's record and its pixels,
-- or a refusal.
use Rattle.std.specs.Prelude.{ℕ, ◌*◌, List, Float, length}
use Rattle.numbers.specs.Scalar.{clamp_byte}
use Rattle.image.specs.Call.{Gray8, gray8, Decision, decided, map_found}
use Rattle.image.specs.Picture.{pixel}
use Rattle.image.specs.Refusal.{max_side}
use Rattle.raster.specs.declared.direction.RasterDirection4.{RasterDirection4}
use Rattle.deblur.specs.Calls.{decided_along, last_estimate}
use Rattle.deblur.specs.Refusal.{scratch_needed, filter_refusal}
use Rattle.deblur.specs.Settings.{LineFilter, restoration_of, unsharp_of}
use Rattle.deblur.specs.declared.DirectionalUnsharpConfig.{DirectionalUnsharpConfig}
use Rattle.deblur.specs.declared.VanCittertConfig.{VanCittertConfig}
use Rattle.sharpen.specs.Binomial as binomial
use Rattle.sharpen.specs.Call.{binomial_refusal}
use Rattle.job.specs.Job.{job_default, layout, job_of, plan, job_estimate}
use Rattle.job.specs.declared.JobConfig.{JobConfig}
use Rattle.job.specs.declared.JobResult.{JobResult}
use Rattle.record.specs.Record.{used_in}
use Rattle.record.specs.declared.Record.{Record}
use Rattle.record.specs.declared.RecordFilter.{RecordFilter}
use Rattle.record.specs.declared.RecordFilter.TheVariants.{WholeJob, Restoration, Unsharp, Binomial}

-- what a filter makes of a picture: the result, and the pixel at each column and row
pub record Made : Type 0 where
  pub result : Record
  pub pixels : ℕ → ℕ → ℕ

abbrev pub made : Record → (ℕ → ℕ → ℕ) → Made
made result pixels = record { result = result; pixels = pixels }

-- a line filter adds its direction; the whole job, all that it measured
abbrev pub with_direction : Record → RasterDirection4 → Record
with_direction r d = used_in r d r.blur_length r.estimate

abbrev pub job_result : Record → JobResult → Record
job_result r result = used_in r result.direction result.blur_length result.estimate

-- ---- the filters' settings

abbrev pub record_restoration : Record → Float → VanCittertConfig
record_restoration r relaxation = record {
  theta_radians = r.angle;
  blur_length = r.blur_length;
  iterations = r.iterations;
  relaxation = relaxation;
  border = r.border;
}

abbrev pub record_unsharp : Record → Float → DirectionalUnsharpConfig
record_unsharp r gain = record {
  theta_radians = r.angle;
  blur_length = r.blur_length;
  gain = gain;
  border = r.border;
}

-- "the whole job with default thresholds"; document 02, K6: "A job record runs with floor 0."
abbrev pub record_job : Record → Float → JobConfig
record_job r relaxation = record {
  minimum_transitions = job_default.minimum_transitions;
  minimum_amplitude = job_default.minimum_amplitude;
  minimum_confidence = 0;
  iterations = r.iterations;
  relaxation = relaxation;
  border = r.border;
}

-- ---- each filter on the tight picture, into a tight destination, with scratch for the largest picture

-- "width × height above 4,096 prints `too large`"
abbrev pub most_pixels : ℕ
most_pixels = 4096

-- how many i32 a line filter has: enough for a line of any picture
abbrev pub line_scratch : ℕ
line_scratch = scratch_needed max_side max_side

-- a tight picture of the record's sides
abbrev pub tight : Record → List ℕ → Gray8
tight r bytes = gray8 bytes r.width r.height r.width

abbrev pub line_made : Record → LineFilter → List ℕ → RasterDirection4 → Made
line_made r f picture d =
    made (with_direction r d) (λ c y. clamp_byte (last_estimate (tight r picture) f.kernel d c y))

abbrev pub line_stage : Record → LineFilter → List ℕ → Decision Made
line_stage r f picture =
    map_found (line_made r f picture)
    (decided_along
    (filter_refusal (length picture) r.width r.height r.width (r.width * r.height)
    r.width r.height r.width
    (f.refusal r.width r.height) line_scratch)
    f.direction)

-- what the whole job comes to, with scratch of so many i32 and a record a pixel
abbrev pub planned : List ℕ → ℕ → ℕ → ℕ → JobConfig → ℕ → Decision JobResult
planned picture width height dst_len config scratch_len =
    plan (job_of (gray8 picture width height width) (layout dst_len width height width) config scratch_len most_pixels)

abbrev pub job_made : Record → JobConfig → List ℕ → JobResult → Made
job_made r config picture result =
    made (job_result r result) (λ c y. clamp_byte (job_estimate (tight r picture) config result config.iterations c y))

abbrev pub whole_job : Record → Float → List ℕ → Decision Made
whole_job r relaxation picture =
    let config = record_job r relaxation in
    map_found (job_made r config picture) (planned picture r.width r.height (r.width * r.height) config line_scratch)

-- the binomial's result is its job
abbrev pub binomial_made : Record → List ℕ → Unit {0} → Made
binomial_made r picture _ = made r (binomial.unsharp (pixel picture r.width) r.width r.height)

abbrev pub binomial_stage : Record → List ℕ → Decision Made
binomial_stage r picture =
    map_found (binomial_made r picture)
    (decided
    (binomial_refusal (length picture) r.width r.height r.width (r.width * r.height) r.width r.height
    r.width most_pixels)
    tt)

abbrev pub stage_of : RecordFilter → Record → List ℕ → Decision Made
stage_of (WholeJob relaxation) r picture = whole_job r relaxation picture
stage_of (Restoration relaxation) r picture = line_stage r (restoration_of (record_restoration r relaxation)) picture
stage_of (Unsharp gain) r picture = line_stage r (unsharp_of (record_unsharp r gain)) picture
stage_of Binomial r picture = binomial_stage r picture

unfoldable pub stage : Record → List ℕ → Decision Made
stage r picture = stage_of r.filter r picture
