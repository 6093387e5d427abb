-- The result of a job can be written (`result_written`), and so all of its 32 bytes are printed behind the pixels
-- (`output_result`).
use mathlib.Core.Path.{◌≡◌, refl, ◌∙◌, subst}
use mathlib.Core.Bool.{true}
use mathlib.Core.List.{List, [], ◌++◌}
use Prim.Native.Nat.{ℕ, zero, suc, ◌*◌, ◌≤◌}
use native.Mathlib.Omega.{arith}
use lib.Ieee.{Float}
use lib.ListN.{length}
use Rattle.std.specs.Prelude.{Option, Some, None}
use Rattle.raster.specs.declared.direction.RasterDirection4.{RasterDirection4}
use Rattle.deblur.specs.Calls.{decided_along}
use Rattle.deblur.specs.Refusal.{filter_refusal, LengthTaken}
use Rattle.deblur.specs.Settings.{LineFilter, restoration_of, unsharp_of}
use Rattle.deblur.proofs.Refusals.{restoration_taken, unsharp_taken, filter_accepted}
use Rattle.sharpen.specs.Call.{binomial_refusal}
use Rattle.job.specs.declared.JobResult.{JobResult}
use Rattle.job.proofs.Plans.{plan_length_holds, plan_estimate}
use Rattle.image.specs.Call.{Decision, accepts, refuses, decided, map_found}
use Rattle.image.specs.Picture.{pixels_of}
use Rattle.record.specs.Record.{filter_code, record_fields, write_number, write_bytes, read_record, is_job}
use Rattle.record.specs.declared.Record.{Record}
use Rattle.record.specs.declared.RecordFilter.{RecordFilter}
use Rattle.record.specs.declared.RecordFilter.TheVariants.{WholeJob, Restoration, Unsharp, Binomial}
use Rattle.record.proofs.Answer.{record_bytes}
use Rattle.record.proofs.Results.{length_legal_lem, estimate_legal_lem, job_estimate, used_written, binomial_written}
use Rattle.smear_run.specs.Stage.{
  Made,
  record_restoration,
  record_unsharp,
  record_job,
  line_scratch,
  line_made,
  line_stage,
  planned,
  job_made,
  whole_job,
  binomial_made,
  binomial_stage,
  stage,
}
use Rattle.smear_run.specs.Output.{output}
use Rattle.smear_run.proofs.Stages.{stage_job, stage_restoration, stage_unsharp, stage_binomial}
use Rattle.smear_run.proofs.Printed.{of_record, of_stage}

-- a decision whose result, if it has one, can be written
abbrev Written : Decision Made → Type 0
Written (accepts m) = write_number (record_fields m.result) ≡ 0
Written (refuses number) = Unit {0}

decided_written : {R : Type 0} (f : R → Made) (n : ℕ) (found : R)
    → (n ≡ 0 → write_number (record_fields (f found).result) ≡ 0)
    → Written (map_found f (decided n found))
decided_written f zero found h = h refl
decided_written f (suc n) found h = tt

-- .. along the direction that an angle snaps to
along_written : (f : RasterDirection4 → Made) (n : ℕ) (s : Option RasterDirection4)
    → ((d : RasterDirection4) → n ≡ 0 → write_number (record_fields (f d).result) ≡ 0)
    → Written (map_found f (decided_along n s))
along_written f n (Some d) h = decided_written f n d (h d)
along_written f n None h = tt

module _ (bytes : List ℕ) (r : Record) (reads : read_record bytes ≡ accepts r)
    (is_job_holds : is_job r ≡ true) (picture : List ℕ) where
  line-written : (f : LineFilter) → (f.refusal r.width r.height ≡ 0
      → LengthTaken r.width r.height r.blur_length)
      → filter_code r.filter ≤ 2 → Written (line_stage r f picture)
  line-written f taken line =
      let w = r.width in
      let h = r.height in
      let n = f.refusal w h in
      along_written (line_made r f picture) (filter_refusal (length picture) w h w (w * h) w h w n line_scratch)
      f.direction
      λ d none.
      let t = taken (filter_accepted (length picture) w h w (w * h) w h w n line_scratch none).settings_taken in
      used_written bytes r reads d r.blur_length r.estimate line
      (length_legal_lem r.width r.height r.blur_length t.least t.odd t.most) (job_estimate r is_job_holds)

  job-written : (relaxation : Float) → filter_code r.filter ≤ 2 → Written (whole_job r relaxation picture)
  job-written relaxation line =
      go (planned picture r.width r.height (r.width * r.height) (record_job r relaxation) line_scratch) refl
    where
      go : (d : Decision JobResult)
          → planned picture r.width r.height (r.width * r.height) (record_job r relaxation) line_scratch ≡ d
          → Written (map_found (job_made r (record_job r relaxation) picture) d)
      go (accepts result) e =
          let t = plan_length_holds _ e in
          let p = plan_estimate _ e in
          used_written bytes r reads result.direction result.blur_length result.estimate line
          (length_legal_lem r.width r.height result.blur_length t.least t.odd t.most)
          (estimate_legal_lem result.estimate p.holds p.above)
      go (refuses number) e = tt

  own-written : r.filter ≡ Binomial → Written (binomial_stage r picture)
  own-written e =
      decided_written (binomial_made r picture)
      (binomial_refusal (length picture) r.width r.height r.width (r.width * r.height) r.width r.height
      r.width 4096) tt
      (λ _. binomial_written bytes r reads e)

  stage-written : Written (stage r picture)
  stage-written = go r.filter refl
    where
      go : (k : RecordFilter) → r.filter ≡ k → Written (stage r picture)
      go (WholeJob x) e = rw (stage_job r picture e) (job-written x (rw e (omega arith)))
      go (Restoration x) e =
          rw (stage_restoration r picture e)
          (line-written (restoration_of (record_restoration r x))
          (λ e. (restoration_taken r.width r.height (record_restoration r x) e).length_taken) (rw e (omega arith)))
      go (Unsharp x) e =
          rw (stage_unsharp r picture e)
          (line-written (unsharp_of (record_unsharp r x))
          (λ e. (unsharp_taken r.width r.height (record_unsharp r x) e).length_taken) (rw e (omega arith)))
      go Binomial e = rw (stage_binomial r picture e) (own-written e)

  pub result_written : (m : Made) → stage r picture ≡ accepts m → write_number (record_fields m.result) ≡ 0
  result_written m e = subst Written e stage-written

  -- "pixels, then the result"
  pub output_result : (m : Made) → r.width * r.height ≤ 4096 → stage r picture ≡ accepts m
      → (output bytes picture ≡ pixels_of r.width r.height m.pixels ++ write_bytes (record_fields m.result) [])
      × (length (write_bytes (record_fields m.result) []) ≡ 32)
  output_result m small e = (
    of_record bytes picture reads ∙ of_stage r picture is_job_holds small
        ∙ rw e,
    record_bytes m.result (result_written m e),
  )
