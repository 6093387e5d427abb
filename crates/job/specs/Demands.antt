-- The three demands. The definitions that they cite are those of the public calls' contracts.
--
-- Demand 1. "No layout, setting, float (NaN included) or scratch length makes a public call fail to return. Nothing but
-- the scratch and the destination's pixels, estimates or 32 record bytes is ever written, and no refusal changes a
-- destination." Document 02, K3, adds the bytes of a PGM file to what is written. None of the calls has a `requires`,
-- and each is proved to return and to write nothing but what its contract names. What is kept is `Demand1` for the
-- whole job, and for the others `dst_kept` and `scratch_kept` of image/specs/Call: Outcome, and `Painted`, or
-- image/specs/Call: FrontWrites.
-- Demand 2. "On pictures of up to 1,024 by 1,024 and at most 22 iterations, every answer and pixel is proved equal to
-- document 01's definitions." The contract of each call fixes its answer, and what it writes, by definitions:
-- docs/SPEC.md, "Contracts", lists the calls with their contracts and the theorems that these determine all.
-- Demand 3 is `Demand3`, at the end. Both are proved in proofs/Demands.antt.
use Rattle.std.specs.Prelude.{ℕ, ◌+◌, ◌*◌, ◌≤◌, ◌<◌, false, List, ◌≡◌, ℤ, pos, length, get_or, Result, Ok}
use Rattle.numbers.specs.Scalar.{clamp_byte}
use Rattle.numbers.specs.Written.{pixels}
use Rattle.floats.specs.Factor.{rounded_q16}
use Rattle.image.specs.Call as call
use Rattle.image.specs.Call.{Gray8, Decision, told}
use Rattle.image.specs.declared.refusal.Refusal.{Refusal}
use Rattle.image.specs.Picture.{pixel}
use Rattle.raster.specs.Direction.{angle_of}
use Rattle.swings.specs.declared.Swing.{Swing}
use Rattle.line.specs.Near.{Near, cut}
use Rattle.deblur.specs.Calls.{estimate_decision, EstimateWritten}
use Rattle.deblur.specs.Refusal.{scratch_needed}
use Rattle.deblur.specs.Settings.{LineFilter, restoration_of}
use Rattle.deblur.specs.declared.VanCittertConfig.{VanCittertConfig}
use Rattle.deblur.specs.declared.RestorationMetadata.{RestorationMetadata}
use Rattle.job.specs.declared.JobConfig.{JobConfig}
use Rattle.job.specs.declared.JobResult.{JobResult}
use Rattle.job.specs.Job.{Job, job_of, layout_of, Restored}
use Rattle.job.specs.ExactJob.{exact_answer, exact_after}

-- ---- demand 1, of the whole job, over the decision that its answer shows

pub record Demand_1_of (j : Job) (old new : List ℕ) (scratch scratch' : List ℤ) (swings swings' : List Swing)
    (answer : Decision JobResult) : Type 0 where
  -- "no refusal changes a destination"
  pub refused_dst : (number : ℕ) → answer ≡ call.refuses number → new ≡ old
  -- document 01: "A refusal .. changes neither destination nor scratch, except that 11 and 12 leave scratch free."
  pub refused_scratch : (number : ℕ) → answer ≡ call.refuses number → (number ≡ 11 → ⊥) → (number ≡ 12 → ⊥)
      → (scratch' ≡ scratch) × (swings' ≡ swings)
  -- "Nothing but the scratch and the destination's pixels .. is ever written"
  pub same_length : length new ≡ length old
  pub padding_kept : (i : ℕ) → pixels j.source.width j.source.height j.destination.stride i ≡ false
      → get_or new i 0 ≡ get_or old i 0

abbrev pub Demand1 : Type 0
Demand1 =
    (src dst : Gray8) (new : List ℕ) (config : JobConfig) (scratch scratch' : List ℤ) (swings swings' : List Swing)
    (answer : Result JobResult Refusal) → Restored src dst new config scratch scratch' swings swings' answer
    → Demand_1_of (job_of src (layout_of dst) config (length scratch) (length swings)) dst.bytes new scratch scratch'
    swings swings' (told answer)

-- ---- "Demand 3's estimate after k is Yk for the same source, relaxation and border: what an accepted estimate call
-- for k iterations writes at that length and an angle that snaps to that direction (0, 0.75, 1.5 or 2.25)."

abbrev pub estimate_config : JobConfig → JobResult → ℕ → VanCittertConfig
estimate_config config result k =
    record {
      theta_radians = angle_of result.direction;
      blur_length = result.blur_length;
      iterations = k;
      relaxation = config.relaxation;
      border = config.border;
    }

abbrev pub estimate_filter : JobConfig → JobResult → ℕ → LineFilter
estimate_filter config result k = restoration_of (estimate_config config result k)

-- such a call wrote `estimates`
pub record EstimateCall (j : Job) (result : JobResult) (k : ℕ) (estimates : List ℤ) : Type 0 where
  pub old : List ℤ
  pub scratch : List ℤ
  pub scratch' : List ℤ
  pub metadata : RestorationMetadata
  pub outcome :
      EstimateWritten j.source old estimates (estimate_filter j.config result k) scratch scratch'
      (Ok metadata)

-- the estimate at the pixel (c, r), row by row
abbrev pub estimate_at : Job → List ℤ → ℕ → ℕ → ℤ
estimate_at j estimates c r = get_or estimates (r * j.source.width + c) (pos 0)

-- ---- demand 3, clause by clause, of an accepted job with this result. q is that of the relaxation.

pub record Demand_3_accepted (j : Job) (new : List ℕ) (result : JobResult) : Type 0 where
  -- "When accepted, both have the same direction and the same blur length."
  pub exact_result : JobResult
  pub exact_accepts : exact_answer j ≡ call.accepts exact_result
  pub same_direction : exact_result.direction ≡ result.direction
  pub same_length : exact_result.blur_length ≡ result.blur_length
  -- for every k from 1 to the stated iterations there is such an estimate call: it is accepted, along that direction,
  -- wherever enough is lent
  pub estimate_accepted : (k estimates_len scratch_len : ℕ) → 1 ≤ k → k ≤ j.config.iterations
      → j.source.width * j.source.height ≤ estimates_len
      → scratch_needed j.source.width j.source.height ≤ scratch_len
      → estimate_decision j.source estimates_len (estimate_filter j.config result k) scratch_len
      ≡ call.accepts result.direction
  -- "Then, for every k from 1 to the stated iterations, the estimate after k is at every pixel less than 2^(k+1) − 2
  -- grey levels from the exact value after k, and less than 2^k − 1 at relaxation 1."
  pub estimates_near : (k : ℕ) → 1 ≤ k → k ≤ j.config.iterations → (estimates : List ℤ)
      → EstimateCall j result k estimates
      → (c r : ℕ) → c < j.source.width → r < j.source.height
      → Near (rounded_q16 j.config.relaxation) k (estimate_at j estimates c r) (exact_after j exact_result k c r)
  -- "Every destination pixel then holds the last estimate cut to 0..255, ..
  pub pixels_cut : (estimates : List ℤ) → EstimateCall j result j.config.iterations estimates → (c r : ℕ)
      → c < j.source.width → r < j.source.height
      → pixel new j.destination.stride c r ≡ clamp_byte (estimate_at j estimates c r)
  -- .. and that byte differs by less than the last iteration's bound from the last exact value cut to 0..255."
  pub pixels_near : (c r : ℕ) → c < j.source.width → r < j.source.height
      → Near (rounded_q16 j.config.relaxation) j.config.iterations (pos (pixel new j.destination.stride c r))
      (cut (exact_after j exact_result j.config.iterations c r))

pub record Demand_3_of (j : Job) (new : List ℕ) (answer : Decision JobResult) : Type 0 where
  -- ".. the whole-job call refuses exactly when the exact run in fractions does, and with the same number."
  pub refuses : (number : ℕ) → answer ≡ call.refuses number → exact_answer j ≡ call.refuses number
  pub refuses_too : (number : ℕ) → exact_answer j ≡ call.refuses number → answer ≡ call.refuses number
  pub accepts : (result : JobResult) → answer ≡ call.accepts result → Demand_3_accepted j new result

-- "For every picture and its layout, settings, destination layout and scratch lengths": of whatever the whole-job call
-- answers and leaves, by its contract.
abbrev pub Demand3 : Type 0
Demand3 =
    (src dst : Gray8) (new : List ℕ) (config : JobConfig) (scratch scratch' : List ℤ) (swings swings' : List Swing)
    (answer : Result JobResult Refusal) → Restored src dst new config scratch scratch' swings swings' answer
    → Demand_3_of (job_of src (layout_of dst) config (length scratch) (length swings)) new (told answer)
