-- The contracts of C's functions determine the number, every byte of the destination and every out-parameter. The
-- decisions are those of the calls, so each number has their conditions; `smear_direction_from_angle`'s contract is an
-- equation.
use Prim.Native.Nat.{ℕ}
use mathlib.Core.List.{List}
use lib.Ieee.{Float}
use lib.IntN.{ℤ}
use lib.ListN.{length}
use Rattle.std.specs.Prelude.{Option}
use Rattle.image.specs.Call.{Gray8, Returns, number_of, FrontWrites, OutsOnly, WithOuts}
use Rattle.image.specs.Determined.{Determines}
use Rattle.image.proofs.Determined.{outcome_determines, outs_one, with_outs_one}
use Rattle.image.proofs.Front.{front_one}
use Rattle.raster.specs.Direction.{direction_index}
use Rattle.raster.specs.declared.direction.RasterDirection4.{RasterDirection4}
use Rattle.tensor.specs.Tensor.{direction_decision}
use Rattle.blur.specs.Length.{thresholds, snapped_decision}
use Rattle.deblur.specs.Calls.{filter_decision, FilterWrites, estimate_decision, EstimateWrites}
use Rattle.deblur.specs.Settings.{LineFilter}
use Rattle.deblur.proofs.Determined.{filter_one, estimate_one}
use Rattle.sharpen.specs.Call.{sharpen_decision, SharpenWrites}
use Rattle.sharpen.proofs.Determined.{sharpen_one}
use Rattle.resize.specs.Call.{box_decision, BoxWrites, halve_decision, HalveWrites}
use Rattle.resize.proofs.Determined.{box_one, halve_one}
use Rattle.job.specs.declared.JobConfig.{JobConfig}
use Rattle.job.specs.Job.{job_of, layout_of, plan, JobWrites}
use Rattle.job.proofs.Determined.{job_one, lengths}
use Rattle.pgm.specs.Read.{read_decision}
use Rattle.pgm.specs.Write.{write_decision}
use Rattle.pgm.specs.declared.PgmPicture.{PgmPicture}
use Rattle.smear_run.specs.Output.{output, run_decision}
use Rattle.smear_c.specs.Direction.{DirectionOuts, direction_outs}
use Rattle.smear_c.specs.Length.{pixels_of, LengthMeasuredC}
use Rattle.smear_c.specs.Pictures.{picture_outs, PgmWrittenC}
use Rattle.smear_c.specs.Program.{RanC}
use Rattle.smear_c.specs.Resizing.{BoxHalvedC, HalvedC}
use Rattle.smear_c.specs.Restoration.{FilteredC, EstimateWrittenC}
use Rattle.smear_c.specs.Sharpening.{SharpenedC}
use Rattle.smear_c.specs.WholeJob.{JobOuts, job_outs, RestoredC}

pub direction_determined : (src : Gray8) (before : DirectionOuts)
    → Determines {S = Unit {0}} (λ s. s) (λ _ _ after r. Returns (direction_decision src) direction_outs before after r)
direction_determined src before =
    outcome_determines (λ s. s) (λ _. direction_decision src) number_of (OutsOnly direction_outs) (outs_one direction_outs)
    before

pub length_determined : (src : Gray8) (s : Option RasterDirection4) (transitions amplitude : ℕ) (before : Float)
    → Determines length
    (λ swings swings' after r. LengthMeasuredC src s transitions amplitude before after swings swings' r)
length_determined src s transitions amplitude before =
    outcome_determines length (snapped_decision src s (thresholds transitions amplitude)) number_of (OutsOnly pixels_of)
    (outs_one pixels_of) before

pub pgm_read_determined : (file : List ℕ) (before : PgmPicture)
    → Determines {S = Unit {0}} (λ s. s) (λ _ _ after r. Returns (read_decision file) picture_outs before after r)
pgm_read_determined file before =
    outcome_determines (λ s. s) (λ _. read_decision file) number_of (OutsOnly picture_outs) (outs_one picture_outs) before

-- below, what a call leaves is its destination and its out-parameters

pub filtered_determined : (src dst : Gray8) (f : LineFilter) (before : ℕ)
    → Determines {D = List ℕ × ℕ} length
    (λ scratch scratch' new r. FilteredC src dst new.0 f scratch scratch' before new.1 r)
filtered_determined src dst f before =
    let writes = FilterWrites src dst.stride f.kernel in
    outcome_determines length (filter_decision src dst f) number_of (WithOuts writes direction_index)
    (with_outs_one writes direction_index (filter_one src dst.stride f.kernel)) (dst.bytes, before)

pub estimates_determined : (src : Gray8) (old : List ℤ) (f : LineFilter) (before : ℕ)
    → Determines {D = List ℤ × ℕ} length
    (λ scratch scratch' new r. EstimateWrittenC src old new.0 f scratch scratch' before new.1 r)
estimates_determined src old f before =
    let writes = EstimateWrites src f.kernel in
    outcome_determines length (estimate_decision src (length old) f) number_of (WithOuts writes direction_index)
    (with_outs_one writes direction_index (estimate_one src f.kernel)) (old, before)

pub sharpened_determined : (src dst : Gray8)
    → Determines length (λ scratch scratch' new r. SharpenedC src dst new scratch scratch' r)
sharpened_determined src dst =
    outcome_determines length (sharpen_decision src dst) number_of (SharpenWrites src dst.stride)
    (sharpen_one src dst.stride) dst.bytes

pub box_halved_determined : (src dst : Gray8)
    → Determines {S = Unit {0}} (λ s. s) (λ _ _ new r. BoxHalvedC src dst new r)
box_halved_determined src dst =
    outcome_determines (λ s. s) (λ _. box_decision src dst) number_of (BoxWrites src dst.stride)
    (box_one src dst.stride) dst.bytes

pub halved_determined : (count : ℕ) (src dst : Gray8)
    → Determines length (λ scratch scratch' new r. HalvedC count src dst new scratch scratch' r)
halved_determined count src dst =
    outcome_determines length (halve_decision count src dst) number_of (HalveWrites count src dst.stride)
    (halve_one count src dst.stride) dst.bytes

pub restored_determined : (src dst : Gray8) (config : JobConfig) (before : JobOuts)
    → Determines {D = List ℕ × JobOuts} lengths
    (λ lent lent' new r. RestoredC src dst new.0 config lent.0 lent'.0 lent.1 lent'.1 before new.1 r)
restored_determined src dst config before =
    let writes = JobWrites src dst.stride config in
    outcome_determines lengths (λ sizes. plan (job_of src (layout_of dst) config sizes.0 sizes.1)) number_of
    (WithOuts writes job_outs)
    (with_outs_one writes job_outs (job_one src dst.stride config)) (dst.bytes, before)

pub ran_determined : (job picture old : List ℕ) (before : ℕ)
    → Determines {D = List ℕ × ℕ} {S = Unit {0}} (λ s. s) (λ _ _ new r. RanC job picture old new.0 before new.1 r)
ran_determined job picture old before =
    outcome_determines (λ s. s) (λ _. run_decision (length old) (output job picture)) number_of
    (WithOuts FrontWrites length) (with_outs_one FrontWrites length front_one) (old, before)

pub pgm_written_determined : (src : Gray8) (old : List ℕ) (before : ℕ)
    → Determines {D = List ℕ × ℕ} {S = Unit {0}} (λ s. s)
    (λ _ _ new r. PgmWrittenC src old new.0 before new.1 r)
pgm_written_determined src old before =
    outcome_determines (λ s. s) (λ _. write_decision src (length old)) number_of
    (WithOuts FrontWrites length) (with_outs_one FrontWrites length front_one) (old, before)
