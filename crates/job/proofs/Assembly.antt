-- The parts of a job put together: its start (`start_told`), what its end asks (`finish_factor`, `finish_asked`), and the
-- whole: refused at its start (`job_refused`), with its length measured (`length_told`), and then refused (`late_refused`)
-- or run (`job_runs`, `length_long`, `job_done`).
use mathlib.Core.List.{List}
use mathlib.Core.Path.{◌≡◌, refl, sym, ap, ap₂, ◌∙◌}
use Prim.Native.Nat.{ℕ, zero, suc}
use native.Mathlib.Omega.{arith}
use lib.Dec.{T}
use lib.IntN.{ℤ}
use lib.ListN.{length}
use Rattle.std.specs.Prelude.{Float, Option, Result, Ok}
use Rattle.floats.specs.Factor.{max_relaxation, within}
use Rattle.image.specs.Call.{Gray8, accepts, refuses, unless, decided, told, same, map_found}
use Rattle.image.specs.Refusal.{first_refusal}
use Rattle.image.specs.declared.layout.Layout.{Layout}
use Rattle.image.specs.declared.refusal.Refusal.{Refusal}
use Rattle.image.proofs.Accepted.{accepted}
use Rattle.image.proofs.Call.{accepts_not_refuses, decided_accepts, outcome_accepted, outcome_refused}
use Rattle.image.proofs.Pair.{destination_laid}
use Rattle.raster.specs.declared.direction.RasterDirection4.{RasterDirection4}
use Rattle.tensor.specs.Confidence.{confident_decision}
use Rattle.tensor.specs.Tensor.{estimate_of, picture_sums}
use Rattle.tensor.specs.declared.direction.DirectionEstimate.{DirectionEstimate}
use Rattle.tensor.proofs.Answer.{confident_decided}
use Rattle.swings.specs.declared.Swing.{Swing}
use Rattle.blur.specs.Length.{thresholds, length_refusal, length_along, length_decision, LengthMeasured}
use Rattle.blur.specs.declared.length.LineLengthConfig.{LineLengthConfig}
use Rattle.blur.proofs.ScanPlans.{refusal_none}
use Rattle.deblur.specs.Lines.{AlongAsked}
use Rattle.deblur.specs.Refusal.{LengthTaken}
use Rattle.deblur.proofs.Along.{factor_small, restoration_kernel}
use Rattle.job.specs.declared.JobConfig.{JobConfig}
use Rattle.job.specs.declared.JobResult.{JobResult}
use Rattle.job.specs.Job.{Job, job_of, layout, layout_of, job_refusal, floor_refusal, start_refusal, picture_direction}
use Rattle.job.specs.Job.{job_direction, job_length, plan_length, plan, job_kernel, JobWrites, Restored}
use Rattle.job.specs.Job.{Runnable, JobAccepted}
use Rattle.job.specs.Parts.{start_decision}
use Rattle.job.proofs.Plans.{plan_along, plan_early, plan_leaves}

-- ---- the start

map_decided : {R S : Type 0} (f : R → S) (n : ℕ) (found : R) → map_found f (decided n found) ≡ decided n (f found)
map_decided f zero found = refl
map_decided f (suc n) found = refl

-- behind a job that is not refused before its picture is looked at, the picture decides
pub start_told : (j : Job) → decided (job_refusal j) (tt {0}) ≡ accepts tt → JobAccepted j
    → map_found (λ (e : DirectionEstimate). e.direction) (confident_decision j.config.minimum_confidence j.source)
    ≡ start_decision j
unfolding start_refusal picture_direction
start_told j none taken =
    let s = j.source in
    let floor = floor_refusal s j.config in
    let decides : confident_decision j.config.minimum_confidence s
    ≡ decided floor (estimate_of s.width s.height (picture_sums s)) =
    confident_decided s.bytes s.width s.height s.stride j.config.minimum_confidence
    (accepted taken.runnable.pictures.source) in
    let e = (decided_accepts (job_refusal j) tt tt none).0 in
    ap (map_found (λ (e : DirectionEstimate). e.direction)) decides
    ∙ map_decided (λ (e : DirectionEstimate). e.direction) floor _
    ∙ ap (λ (n : ℕ). decided (first_refusal n floor) (job_direction j)) (sym e)

-- .. as its call answers it
pub start_found : (j : Job) (e : DirectionEstimate) → accepts tt ≡ decided (job_refusal j) (tt {0}) → JobAccepted j
    → accepts e ≡ confident_decision j.config.minimum_confidence j.source → accepts e.direction ≡ start_decision j
start_found j e none taken answered =
    ap (map_found (λ (e : DirectionEstimate). e.direction)) answered ∙ start_told j (sym none) taken

pub start_unclear : (j : Job) (number : ℕ) → accepts tt ≡ decided (job_refusal j) (tt {0}) → JobAccepted j
    → refuses number ≡ confident_decision j.config.minimum_confidence j.source → refuses number ≡ start_decision j
start_unclear j number none taken answered =
    ap (map_found (λ (e : DirectionEstimate). e.direction)) answered ∙ start_told j (sym none) taken

-- ---- the end

module _ {src : Gray8} {dst : Layout} {config : JobConfig} {scratch_len : ℕ} (runs : Runnable src dst config scratch_len) where
  -- the factor has a q
  pub finish_factor : T (within 255 config.relaxation)
  finish_factor = factor_small max_relaxation config.relaxation (omega arith) runs.relaxation_taken

  -- what the work along the plan's direction asks
  pub finish_asked : (result : JobResult) → LengthTaken src.width src.height result.blur_length
      → AlongAsked (length src.bytes) src.width src.height src.stride (job_kernel config result) scratch_len
  finish_asked result long =
      let p = runs.pictures.source in
      record {
        laid = p;
        taken = restoration_kernel long p.width_most p.height_most config.relaxation config.border
            runs.relaxation_taken runs.iterations_taken;
        room = runs.scratch_least;
      }

-- ---- the whole

refused_number : {R : Type 0} (n : ℕ) (found : R) (number : ℕ) → decided n found ≡ refuses number
    → (n ≡ number) × (n ≡ 0 → ⊥)
refused_number zero found number e = absurd (accepts_not_refuses e)
refused_number (suc n) found number e = let is : suc n ≡ number = cc in (is, λ z. omega arith)

length_taken : (src : Gray8) (d : RasterDirection4) (config : LineLengthConfig) (lent : ℕ)
    → length_refusal (length src.bytes) src.width src.height src.stride lent ≡ 0
    → length_decision src d config lent ≡ accepts (length_along src d config)
unfolding length_decision
length_taken src d config lent e = rw e

module _ (src dst : Gray8) (config : JobConfig) (scratch : List ℤ) (swings : List Swing) where
  abbrev j : Job
  j = job_of src (layout_of dst) config (length scratch) (length swings)

  abbrev limits : LineLengthConfig
  limits = thresholds config.minimum_transitions config.minimum_amplitude

  -- it is refused before anything is measured
  pub job_refused : (number : ℕ) (answer : Result JobResult Refusal) → refuses number ≡ start_decision j
      → told answer ≡ refuses number → Restored src dst dst.bytes config scratch scratch swings swings answer
  job_refused number answer e answered =
      let n = refused_number (start_refusal j) (job_direction j) number (sym e) in
      outcome_refused {S = List ℤ × List Swing} same (JobWrites src dst.stride config) dst.bytes (scratch, swings)
      number ((plan_early j n.1).0 ∙ ap refuses n.0) answered

  -- it is not, so that it has a direction
  module _ {d : RasterDirection4} (start : accepts d ≡ start_decision j) (taken : JobAccepted j) where
    starts : (start_refusal j ≡ 0) × (job_direction j ≡ d)
    starts = decided_accepts (start_refusal j) (job_direction j) d (sym start)

    -- what the end of the job asks
    pub job_runs : Runnable src (layout (length dst.bytes) src.width src.height dst.stride) config (length scratch)
    job_runs =
        let r = taken.runnable in
        let p = r.pictures in
        record {
          pictures =
              record {
                source = p.source;
                destination = destination_laid p;
                same_width = refl;
                same_height = refl;
              };
          iterations_taken = r.iterations_taken;
          relaxation_taken = r.relaxation_taken;
          scratch_least = r.scratch_least;
        }

    module _ {swings' : List Swing} where
      -- the length is not refused
      pub length_told : (answer : Result (Option Float) Refusal) → LengthMeasured src d limits swings swings' answer
          → told answer ≡ accepts (job_length j)
      length_told answer m =
          let none =
          refusal_none (length src.bytes) src.width src.height src.stride (length swings)
          (accepted taken.runnable.pictures.source) taken.swings_least in
          m.answered
          ∙ length_taken src d limits (length swings) none
          ∙ ap (λ (d : RasterDirection4). accepts (length_along src d limits)) (sym starts.1)

      module _ {measured : Option Float} (m : LengthMeasured src d limits swings swings' (Ok measured)) where
        planned-is : plan_length src.width src.height d measured ≡ plan j
        unfolding plan
        planned-is =
            let found : accepts measured ≡ accepts (job_length j) = length_told (Ok measured) m in
            let same-length : measured ≡ job_length j = cc in
            let f = λ (d : RasterDirection4) (l : Option Float). plan_length src.width src.height d l in
            ap₂ f (sym starts.1) same-length ∙ sym (ap (λ (n : ℕ). unless n (f (job_direction j) (job_length j))) starts.0)

        pub late_refused : (number : ℕ) (answer : Result JobResult Refusal)
            → refuses number ≡ plan_length src.width src.height d measured → told answer ≡ refuses number
            → Restored src dst dst.bytes config scratch scratch swings swings' answer
        late_refused number answer e answered =
            let is = sym planned-is ∙ sym e in
            record {
              answered = answered ∙ sym is;
              written = λ result z. absurd (accepts_not_refuses (sym z ∙ is));
              dst_kept = λ _ _. refl;
              scratch_kept = λ number' z leaves. absurd (plan_leaves j z leaves starts.0);
            }

        module _ {result : JobResult} (e : accepts result ≡ plan_length src.width src.height d measured) where
          pub length_long : LengthTaken src.width src.height result.blur_length
          length_long = (plan_along src.width src.height d measured result (sym e)).taken

          pub job_done : (new : List ℕ) (scratch' : List ℤ) (answer : Result JobResult Refusal)
              → JobWrites src dst.stride config result dst.bytes new → told answer ≡ accepts result
              → Restored src dst new config scratch scratch' swings swings' answer
          job_done new scratch' answer written answered =
              outcome_accepted {S = List ℤ × List Swing} same (JobWrites src dst.stride config) dst.bytes
              (scratch, swings) result new (scratch', swings') (sym planned-is ∙ sym e) answered written
