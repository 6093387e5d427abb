-- Document 01, "Conditions of acceptance": "These programs have to be rejected", each by the demand that it names. A
-- theorem takes what such a program answers and leaves, and shows that it does not meet the demand: on the job
-- `columns`, which the exact run accepts, on its inverse, and on document 01's ramp. The edits of `must-fail` are the
-- same programs as code.
use mathlib.Core.List.{List}
use mathlib.Core.Path.{◌≡◌, refl, sym, ap, ◌∙◌}
use Prim.Native.Nat.{ℕ, zero, suc, ◌*◌, ◌≤◌, ◌<◌}
use native.Mathlib.Omega.{arith}
use lib.Ieee.{Float, of_bits, of_int, add, sub, mul, div, le, lt, eq}
use lib.IntN.{ℤ, pos, negsuc, nat_abs}
use lib.ListN.{length}
use Rattle.numbers.specs.Sum.{total}
use Rattle.floats.specs.Factor.{rounded_q16}
use Rattle.image.specs.Call.{Gray8, Decision, accepts, refuses, decided}
use Rattle.image.specs.declared.refusal.Refusal.{Refusal}
use Rattle.image.specs.Picture.{pixel}
use Rattle.image.proofs.Call.{accepts_not_refuses}
use Rattle.raster.specs.Border.{border_map}
use Rattle.raster.specs.Lines.{start_col, start_row, line_of}
use Rattle.raster.specs.declared.direction.RasterDirection4.{RasterDirection4}
use Rattle.raster.specs.declared.direction.RasterDirection4.TheVariants.{Horizontal}
use Rattle.swings.specs.Rise.{level_of, crossed_at, place_at, crossing_of, rise_between, rise_of}
use Rattle.swings.specs.Runs.{runs_from, runs_after}
use Rattle.swings.specs.Swings.{swings_of, line_swings, swings_from}
use Rattle.swings.specs.declared.Swing.{Swing}
use Rattle.blur.specs.Length.{thresholds, length_along, length_decision, length_refusal, LengthMeasured}
use Rattle.blur.specs.declared.length.LineLengthConfig.{LineLengthConfig}
use Rattle.std.specs.Prelude.{Option, Some, None, Ok, Err}
use Rattle.line.specs.Iteration.{mean, stepped, after}
use Rattle.line.specs.Line.{sample, window}
use Rattle.line.specs.Exact.{scale_of, exact, value_after}
use Rattle.line.specs.ExactLine.{exact_window}
use Rattle.line.specs.Near.{LessFrom, bound_at_one, Near, cut}
use Rattle.line.proofs.NearIteration.{apart_up}
use Rattle.deblur.specs.Calls.{EstimateWritten}
use Rattle.deblur.specs.Picture.{estimate, estimate_on}
use Rattle.job.specs.declared.JobResult.{JobResult}
use Rattle.job.specs.Demands.{estimate_filter, EstimateCall, Demand_3_of}
use Rattle.job.specs.Exact.{exact_estimate}
use Rattle.job.specs.ExactJob.{exact_after}
use Rattle.job.specs.Job.{Job, job_direction, plan, job_estimate}
use Rattle.job.proofs.Demands.{call_accepted, estimates_are}
use Rattle.job.proofs.Plans.{plan_measured}
use Rattle.job.proofs.JobExamples.{row, ramp, columns, inverted, vertical_5, runs}

-- ---- what demand 3 says where the exact run accepts, whatever the whole-job call answered

module _ {j : Job} {result : JobResult} (run : plan j ≡ accepts result) {new : List ℕ} where
  not-refused : {number : ℕ} → Demand_3_of j new (refuses number) → ⊥
  not-refused {number} d = accepts_not_refuses (sym run ∙ d.refuses number refl)

  byte_near : (answer : Decision JobResult) → Demand_3_of j new answer → (c r : ℕ) → c < j.source.width
      → r < j.source.height
      → Near (rounded_q16 j.config.relaxation) j.config.iterations (pos (pixel new j.destination.stride c r))
      (cut (exact_after j result j.config.iterations c r))
  byte_near (accepts found) d c r hc hr =
      let a = d.accepts found refl in
      let exact-run : plan j ≡ accepts a.exact_result = a.exact_accepts in
      let same : a.exact_result ≡ result = cc in
      rw (← same) (a.pixels_near c r hc hr)
  byte_near (refuses number) d c r hc hr = absurd (not-refused d)

-- a byte less than one grey level from the whole value v is v
whole : (v byte : ℕ) → LessFrom (bound_at_one 1) (pos byte) (value_after 5 1 (pos (v * scale_of 5))) → byte ≡ v
whole v byte h = let a = apart_up (pos (scale_of 5 * byte)) (pos (v * scale_of 5)) h in omega (arith, a.0, a.1)

-- at column 0, row 3 the sources are 10 and 240; the exact values after 1, computed apart too, are 8 and 242
byte_columns : {new : List ℕ} (answer : Decision JobResult) → Demand_3_of columns new answer → pixel new 3 0 3 ≡ 8
unfolding columns vertical_5 rounded_q16 exact_estimate exact exact_window border_map total start_col start_row line_of of_bits
byte_columns answer d = whole 8 _ ((byte_near runs.0 answer d 0 3 (omega arith) (omega arith)).near_at_one refl)

byte_inverted : {new : List ℕ} (answer : Decision JobResult) → Demand_3_of inverted new answer → pixel new 3 0 3 ≡ 242
unfolding inverted vertical_5 rounded_q16 exact_estimate exact exact_window border_map total start_col start_row line_of of_bits
byte_inverted answer d = whole 242 _ ((byte_near runs.1 answer d 0 3 (omega arith) (omega arith)).near_at_one refl)

-- ---- "a plain copy of the source, by demand 3 at k = 1"

-- a destination that has the source's pixel at column 0, row 3
pub pixel_copied : (new : List ℕ) (answer : Decision JobResult)
    → pixel new columns.destination.stride 0 3 ≡ pixel columns.source.bytes columns.source.stride 0 3
    → Demand_3_of columns new answer → ⊥
unfolding columns
pixel_copied new answer copied d = omega (arith, byte_columns answer d)

pub plain_copy : (answer : Decision JobResult) → Demand_3_of columns columns.source.bytes answer → ⊥
unfolding columns
plain_copy answer = pixel_copied columns.source.bytes answer refl

-- ---- "full restoration in iteration one and idling after, by demand 2 on the estimate call with one iteration"

-- the estimate after k at column 0, row 2
abbrev estimate_after : Job → ℕ → ℤ
estimate_after j k = job_estimate j.source j.config vertical_5 k 0 2

-- −6, −10 and 256, computed apart too
estimates-differ :
    (estimate_after columns 1 ≡ negsuc 5)
    × (estimate_after columns 2 ≡ negsuc 9)
    × (estimate_after inverted 1 ≡ pos 256)
unfolding columns inverted vertical_5 rounded_q16 estimate estimate_on after stepped mean window sample border_map total
    start_col start_row line_of of_bits
estimates-differ = (refl, refl, refl)

-- at the settings of `columns`, the same estimates for one iteration and for two, whichever they are
pub estimate_all_at_once : (estimates : List ℤ) → EstimateCall columns vertical_5 1 estimates
    → EstimateCall columns vertical_5 2 estimates → ⊥
unfolding columns
estimate_all_at_once estimates one two =
    let a = estimates_are columns vertical_5 runs.0 1 estimates one 0 2 (omega arith) (omega arith) in
    let b = estimates_are columns vertical_5 runs.0 2 estimates two 0 2 (omega arith) (omega arith) in
    omega (arith, ap nat_abs (sym (a ∙ estimates-differ.0) ∙ (b ∙ estimates-differ.1)))

-- ---- "one fixed picture, by both"

pub one_fixed_picture : (fixed : List ℕ) (answer answer' : Decision JobResult) → Demand_3_of columns fixed answer
    → Demand_3_of inverted fixed answer' → ⊥
one_fixed_picture fixed answer answer' d d' = omega (arith, byte_columns answer d, byte_inverted answer' d')

pub one_fixed_estimate : (fixed : List ℤ) → EstimateCall columns vertical_5 1 fixed
    → EstimateCall inverted vertical_5 1 fixed → ⊥
unfolding columns inverted
one_fixed_estimate fixed call call' =
    let a = estimates_are columns vertical_5 runs.0 1 fixed call 0 2 (omega arith) (omega arith) in
    let b = estimates_are inverted vertical_5 runs.1 1 fixed call' 0 2 (omega arith) (omega arith) in
    omega (arith, ap nat_abs (sym (a ∙ estimates-differ.0) ∙ (b ∙ estimates-differ.2)))

-- ---- "a length of Nothing before any line is scanned, by demand 2's swing rule"

-- whatever a refusal's number
not_nothing : (n : ℕ) (l : Option Float) {found : Float} → l ≡ Some found → accepts None ≡ decided n l → ⊥
not_nothing zero l e answered = let z : ◌≡◌ {A = ℕ} 0 1 = cc in omega arith
not_nothing (suc n) l e answered = let z : ◌≡◌ {A = ℕ} 0 1 = cc in omega arith

-- whatever is lent: with too few records the answer is a refusal
found_not_nothing : (src : Gray8) (d : RasterDirection4) (config : LineLengthConfig) {found : Float}
    → length_along src d config ≡ Some found → (swings swings' : List Swing)
    → LengthMeasured src d config swings swings' (Ok None) → ⊥
unfolding length_decision
found_not_nothing src d config e swings swings' o =
    not_nothing (length_refusal (length src.bytes) src.width src.height src.stride (length swings)) _ e
    o.answered

-- on document 01's ramp along its rows, which gives 5.0
pub length_nothing_unscanned : (swings swings' : List Swing)
    → LengthMeasured ramp.source Horizontal (thresholds 3 24) swings swings' (Ok None) → ⊥
unfolding ramp row start_col start_row swings_from line_swings swings_of runs_after runs_from rise_of level_of crossed_at place_at
    crossing_of rise_between of_bits of_int add sub mul div le lt eq
length_nothing_unscanned = found_not_nothing ramp.source Horizontal (thresholds 3 24) refl

-- in any job that the exact run accepts
pub job_nothing_unscanned : (j : Job) {result : JobResult} → plan j ≡ accepts result → (swings swings' : List Swing)
    → LengthMeasured j.source (job_direction j) (thresholds j.config.minimum_transitions j.config.minimum_amplitude)
    swings swings' (Ok None) → ⊥
job_nothing_unscanned j run =
    found_not_nothing j.source (job_direction j) (thresholds j.config.minimum_transitions j.config.minimum_amplitude)
    (plan_measured j run)

-- ---- "refusing everything, by the refusal conditions shared in demand 3"

pub refuses_everything : (new : List ℕ) (number : ℕ) → Demand_3_of columns new (refuses number) → ⊥
refuses_everything new number = not-refused runs.0

-- the estimate call, where enough is lent
pub refuses_every_estimate : (old new scratch scratch' : List ℤ) (refusal : Refusal) → 30 ≤ length old → 30 ≤ length scratch
    → EstimateWritten columns.source old new (estimate_filter columns.config vertical_5 1) scratch scratch'
    (Err refusal)
    → ⊥
unfolding columns
refuses_every_estimate old new scratch scratch' refusal room lent o =
    let done =
    call_accepted columns vertical_5 runs.0 1 (length old) (length scratch) (omega arith) (omega arith) room lent
    in
    let refused = o.answered in
    let z : ◌≡◌ {A = ℕ} 0 1 = cc in
    omega arith
