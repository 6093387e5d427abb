-- Demands 1 and 3 hold of whatever the whole-job call answers and leaves (`demand_1`, `demand_3`): from the contract's
-- record, that of the estimate call, and the nearness of the two runs.
use mathlib.Core.Bool.{false}
use mathlib.Core.List.{List}
use mathlib.Core.Path.{◌≡◌, refl, sym, ap, ◌∙◌, subst}
use Prim.Native.Nat.{ℕ, ◌+◌, ◌*◌, ◌≤◌, ◌<◌}
use native.Mathlib.Nat.{le_refl, lt_of_lt_of_le, mul_comm}
use native.Mathlib.Omega.{arith}
use denote.Floats.{passes}
use lib.Arith.{digits_lt}
use lib.IntN.{ℤ, pos}
use lib.ListN.{length, get_or}
use Rattle.numbers.specs.Scalar.{clamp_byte}
use Rattle.numbers.specs.Written.{Painted, pixels}
use Rattle.numbers.proofs.Written.{written_kept, painted_get}
use Rattle.floats.specs.Factor.{within, rounded_q16}
use Rattle.floats.proofs.Factor.{rounded_le}
use Rattle.image.specs.Call.{Decision, accepts, refuses, map_found}
use Rattle.image.specs.Picture.{pixel}
use Rattle.image.specs.Refusal.{Laid}
use Rattle.image.proofs.Call.{accepts_not_refuses, decided_none}
use Rattle.image.proofs.Pair.{destination_laid}
use Rattle.image.proofs.Accepted.{place_within}
use Rattle.raster.specs.Direction.{from_angle, angle_of, snaps}
use Rattle.line.specs.Near.{Near, cut}
use Rattle.raster.specs.declared.direction.RasterDirection4.{RasterDirection4}
use Rattle.deblur.specs.declared.RestorationMetadata.{RestorationMetadata}
use Rattle.deblur.specs.Calls.{metadata_of, decided_along, last_estimate, estimate_decision}
use Rattle.deblur.specs.Refusal.{scratch_needed, LengthTaken}
use Rattle.deblur.proofs.Decided.{along_accepts}
use Rattle.deblur.proofs.Refusals.{estimate_accepted, accepted_estimate}
use Rattle.job.specs.declared.JobResult.{JobResult}
use Rattle.job.specs.Job.{Job, job_of, layout_of, JobAccepted, job_estimate, plan}
use Rattle.swings.specs.declared.Swing.{Swing}
use Rattle.job.specs.ExactJob.{exact_after}
use Rattle.job.specs.Demands.{estimate_filter, EstimateCall, estimate_at, Demand1, Demand_3_accepted, Demand3}
use Rattle.job.proofs.NearPicture.{pixel_near, byte_near}
use Rattle.job.proofs.Plans.{plan_accepted, plan_length_holds}
use Rattle.job.proofs.Settings.{estimate_taken}

-- ---- demand 1

-- what a destination keeps, whatever is decided
dst_keeps : (w h stride : ℕ) (px : JobResult → ℕ → ℕ → ℕ) {old new : List ℕ} (decision : Decision JobResult)
    → ((result : JobResult) → decision ≡ accepts result → Painted 0 (px result) w h stride old new)
    → ((number : ℕ) → decision ≡ refuses number → new ≡ old)
    → (length new ≡ length old) × ((i : ℕ) → pixels w h stride i ≡ false → get_or new i 0 ≡ get_or old i 0)
dst_keeps w h stride px (accepts result) painted same = let p = painted result refl in (p.same_length, written_kept p)
dst_keeps w h stride px (refuses number) painted same =
    let e = same number refl in (ap length e, λ i _. ap (λ (xs : List ℕ). get_or xs i 0) e)

pub demand_1 : Demand1
demand_1 src dst new config scratch scratch' swings swings' answer o =
    let j = job_of src (layout_of dst) config (length scratch) (length swings) in
    let px : JobResult → ℕ → ℕ → ℕ = λ result c r. clamp_byte (job_estimate src config result config.iterations c r) in
    let kept = dst_keeps src.width src.height dst.stride px (plan j) o.written o.dst_kept in
    record {
      refused_dst = λ number e. o.dst_kept number (sym o.answered ∙ e);
      refused_scratch = λ number e not_11 not_12.
          let same = o.scratch_kept number (sym o.answered ∙ e)
          (record { not_11 = not_11; not_12 = not_12 }) in
          (ap (λ (p : List ℤ × List Swing). p.0) same, ap (λ (p : List ℤ × List Swing). p.1) same);
      same_length = kept.0;
      padding_kept = kept.1;
    }

-- ---- demand 3

-- the direction that an accepted call answers
found_direction : (decision : Decision RasterDirection4) (m : RestorationMetadata)
    → map_found metadata_of decision ≡ accepts m → decision ≡ accepts m.raster_direction
found_direction (accepts d) m e = cc
found_direction (refuses number) m e = absurd (accepts_not_refuses (sym e))

-- a row-by-row destination of w × h places has one for each pixel
place_tight : (w h c r n : ℕ) → c < w → r < h → w * h ≤ n → r * w + c < n
place_tight w h c r n hc hr room = lt_of_lt_of_le (digits_lt hr hc) (rw (mul_comm h w) room)

module _ (j : Job) (result : JobResult) (done : plan j ≡ accepts result) where
  abbrev w : ℕ
  w = j.source.width

  abbrev h : ℕ
  h = j.source.height

  abbrev last : ℕ
  last = j.config.iterations

  abbrev q : ℕ
  q = rounded_q16 j.config.relaxation

  taken : JobAccepted j
  taken = plan_accepted j done

  long : LengthTaken w h result.blur_length
  long = plan_length_holds j done

  q-most : q ≤ 65536
  q-most = rounded_le 1 j.config.relaxation
      (passes (within 1 j.config.relaxation) taken.runnable.relaxation_taken)

  some : 0 < result.blur_length
  some = let h = long.least in omega arith

  -- behind no refusal, the estimate call is accepted along the direction that its angle snaps to
  snapped-accepts : {number : ℕ} → number ≡ 0
      → decided_along number (from_angle (angle_of result.direction)) ≡ accepts result.direction
  snapped-accepts {number} e = ap (decided_along number) (snaps result.direction) ∙ decided_none e result.direction

  -- it is accepted wherever enough is lent
  pub call_accepted : (k estimates_len scratch_len : ℕ) → 1 ≤ k → k ≤ last → w * h ≤ estimates_len
      → scratch_needed w h ≤ scratch_len
      → estimate_decision j.source estimates_len (estimate_filter j.config result k) scratch_len
      ≡ accepts result.direction
  call_accepted k estimates_len scratch_len least most room scratch =
      snapped-accepts (accepted_estimate _ _ _ _ _ _ _ (record {
        picture = taken.runnable.pictures.source;
        settings_taken = estimate_taken j.config result k taken.runnable long least most;
        dst_least = room;
        scratch_least = scratch;
      }))

  -- what an accepted estimate call wrote at a pixel is the working run's estimate there
  pub estimates_are : (k : ℕ) (estimates : List ℤ) → EstimateCall j result k estimates → (c r : ℕ) → c < w → r < h
      → estimate_at j estimates c r ≡ job_estimate j.source j.config result k c r
  estimates_are k estimates call c r hc hr =
      let f = estimate_filter j.config result k in
      let decision = estimate_decision j.source (length call.old) f (length call.scratch) in
      let done = found_direction decision call.metadata (sym call.outcome.answered) in
      let e = (along_accepts _ f.direction _ done).0 in
      let a = estimate_accepted _ _ _ _ _ _ _ e in
      painted_get (last_estimate j.source f.kernel result.direction) w h w
      (call.outcome.written result.direction (snapped-accepts e)) c r hc hr (le_refl w)
      (place_tight w h c r (length call.old) hc hr a.dst_least)

  abbrev px : ℕ → ℕ → ℕ
  px c r = clamp_byte (job_estimate j.source j.config result last c r)

  module _ (old new : List ℕ) (same : length old ≡ j.destination.len)
      (painted : Painted 0 px w h j.destination.stride old new) where
    pixels-are : (c r : ℕ) → c < w → r < h → pixel new j.destination.stride c r ≡ px c r
    pixels-are c r hc hr =
        let d : Laid (length old) w h j.destination.stride = rw same
        (destination_laid taken.runnable.pictures) in
        painted_get px w h j.destination.stride painted c r hc hr d.stride_least (place_within d c r hc hr)

    accepted-3 : Demand_3_accepted j new result
    accepted-3 =
        record {
          exact_result = result;
          exact_accepts = done;
          same_direction = refl;
          same_length = refl;
          estimate_accepted = call_accepted;
          estimates_near = λ k least most estimates call c r hc hr.
              subst (λ (y : ℤ). Near q k y (exact_after j result k c r)) (sym (estimates_are k estimates call c r hc hr))
              (pixel_near (pixel j.source.bytes j.source.stride) result.direction w h j.config.border
              result.blur_length q some q-most k least c r);
          pixels_cut = λ estimates call c r hc hr.
              pixels-are c r hc hr ∙ ap clamp_byte (sym (estimates_are last estimates call c r hc hr));
          pixels_near = λ c r hc hr.
              subst (λ (b : ℕ). Near q last (pos b) (cut (exact_after j result last c r))) (sym (pixels-are c r hc hr))
              (byte_near (pixel j.source.bytes j.source.stride) result.direction w h j.config.border
              result.blur_length q some q-most last taken.runnable.iterations_taken.least c r);
        }

pub demand_3 : Demand3
demand_3 src dst new config scratch scratch' swings swings' answer o =
    record {
      refuses = λ number e. sym o.answered ∙ e;
      refuses_too = λ number e. o.answered ∙ e;
      accepts = λ result e.
          let done = sym o.answered ∙ e in
          accepted-3 _ result done dst.bytes new refl (o.written result done);
    }
