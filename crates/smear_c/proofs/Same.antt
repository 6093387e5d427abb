-- The calls as C has them, on sources that show the same picture (document 01, "Views and lines"): the same number and,
-- where they accept, the same pixels and out-parameters, whatever old destinations, out-parameters and scratch hold.
use Prim.Native.Nat.{ℕ, ◌+◌, ◌*◌, ◌/◌, ◌<◌}
use mathlib.Core.List.{List, ◌++◌}
use mathlib.Core.Path.{◌≡◌, refl, sym, ap, ◌∙◌}
use lib.IntN.{ℤ, pos}
use lib.Ieee.{Float}
use lib.ListN.{length, take, get_or}
use Rattle.std.specs.Prelude.{Option, Result, Ok}
use Rattle.image.specs.declared.refusal.Refusal.{Refusal}
use Rattle.image.specs.Call.{Gray8, Decision, accepts, told, map_found, number_of, FrontWrites, Outcome, WithOuts, OutsOnly, Returns}
use Rattle.image.specs.Same.{SamePicture, SameLayout, SameEnd}
use Rattle.image.proofs.Front.{fronts_alike}
use Rattle.image.proofs.Same.{answers_alike}
use Rattle.raster.specs.declared.direction.RasterDirection4.{RasterDirection4}
use Rattle.tensor.specs.Tensor.{direction_decision}
use Rattle.tensor.proofs.Same.{direction_same}
use Rattle.swings.specs.declared.Swing.{Swing}
use Rattle.blur.specs.Length.{thresholds, snapped_decision}
use Rattle.blur.proofs.SameLength.{snapped_same}
use Rattle.deblur.specs.Calls.{metadata_of, filter_decision, FilterWrites, estimate_decision, EstimateWrites}
use Rattle.deblur.specs.Settings.{LineFilter}
use Rattle.deblur.proofs.Same.{filter_same, filtered_same, estimate_call_same, estimates_same}
use Rattle.sharpen.specs.Call.{sharpen_decision}
use Rattle.sharpen.proofs.Same.{sharpen_ends}
use Rattle.resize.specs.Call.{box_decision, halve_decision}
use Rattle.resize.specs.Halving.{side_after}
use Rattle.resize.proofs.Same.{box_same, box_halved_same, halve_same, halved_alike}
use Rattle.job.specs.Job.{layout_of, job_of, plan, JobWrites}
use Rattle.job.specs.declared.JobConfig.{JobConfig}
use Rattle.job.proofs.Same.{job_same, restored_same}
use Rattle.pgm.specs.Write.{write_decision}
use Rattle.pgm.proofs.Same.{write_same}
use Rattle.smear_run.specs.Output.{Whole, output, run_decision}
use Rattle.smear_run.proofs.Surplus.{run_same}
use Rattle.smear_c.specs.Direction.{DirectionOuts, direction_outs}
use Rattle.smear_c.specs.Length.{LengthMeasuredC}
use Rattle.smear_c.specs.Pictures.{PgmWrittenC}
use Rattle.smear_c.specs.Program.{RanC}
use Rattle.smear_c.specs.Resizing.{BoxHalvedC, HalvedC}
use Rattle.smear_c.specs.Restoration.{FilteredC, EstimateWrittenC}
use Rattle.smear_c.specs.Sharpening.{SharpenedC}
use Rattle.smear_c.specs.WholeJob.{JobOuts, RestoredC}

-- the same number and, where they accept, the same out-parameters
pub record SameOuts {R O : Type 0} (decision : Decision R) (after after' : O) (number number' : ℕ) : Type 0 where
  pub same_number : number ≡ number'
  pub same_outs : (found : R) → decision ≡ accepts found → after ≡ after'

-- ---- any call

outs_alike : {R O S : Type 0} {d d' : Decision R} {value : R → O} {before after before' after' : O}
    {scratch scratch₁ scratch' scratch₁' : S} {r r' : ℕ} → d ≡ d'
    → Outcome d number_of (OutsOnly value) before after scratch scratch₁ r
    → Outcome d' number_of (OutsOnly value) before' after' scratch' scratch₁' r'
    → SameOuts d after after' r r'
outs_alike e o o' =
    record {
      same_number = answers_alike e o o';
      same_outs = λ found is. o.written found is ∙ sym (o'.written found (sym e ∙ is));
    }

-- with the answer that is not C's
answered_by : {R T D S : Type 0} {d : Decision R} {answers : Decision R → Decision T} {writes : R → D → D → Type 0}
    {old new : D} {scratch scratch₁ : S} {r : ℕ} (answer : Result T Refusal) → told answer ≡ answers d
    → Outcome d number_of writes old new scratch scratch₁ r
    → Outcome d answers writes old new scratch scratch₁ (told answer)
answered_by answer e o = record { answered = e; written = o.written; dst_kept = o.dst_kept; scratch_kept = o.scratch_kept }

-- two calls end alike as C has them, if they do with the answers that are not C's: `f` is what these say of what was
-- found. A refused call has no pixels.
module _ {R T B : Type 0} (f : R → T) (answers : Decision R → Decision T)
    (shown : (found : R) → accepts (f found) ≡ answers (accepts found)) {d d' : Decision R} (same : d ≡ d') {z : B}
    {w h s : ℕ} {new new' : List B} {r r' : ℕ} (number : r ≡ r') where
  by_answers : ((a a' : Result T Refusal) → told a ≡ answers d → told a' ≡ answers d'
      → SameEnd d z w h s new new' a a')
      → SameEnd d z w h s new new' r r'
  by_answers alike = record { same_answer = number; same_pixels = λ found is. pixels found is }
    where
      pixels : (found : R) → d ≡ accepts found → (c y : ℕ) → c < w → y < h
          → get_or new (y * s + c) z ≡ get_or new' (y * s + c) z
      pixels found is =
          let e = shown found ∙ ap answers (sym is) in
          (alike (Ok (f found)) (Ok (f found)) e (e ∙ ap answers same)).same_pixels found is

-- beside out-parameters
module _ {R D O S : Type 0} {d : Decision R} {value : R → O} {old new : D} {before after : O} {scratch scratch₁ : S}
    {r : ℕ} where
  destination-alone : {writes : R → D → D → Type 0}
      → Outcome d number_of (WithOuts writes value) (old, before) (new, after) scratch scratch₁ r
      → Outcome d number_of writes old new scratch scratch₁ r
  destination-alone o =
      record {
        answered = o.answered;
        written = λ found is. (o.written found is).0;
        dst_kept = λ number is. ap (λ (p : D × O). p.0) (o.dst_kept number is);
        scratch_kept = o.scratch_kept;
      }

  outs-alone : (writes : R → D → D → Type 0)
      → Outcome d number_of (WithOuts writes value) (old, before) (new, after) scratch scratch₁ r
      → Outcome d number_of (OutsOnly value) before after scratch scratch₁ r
  outs-alone writes o =
      record {
        answered = o.answered;
        written = λ found is. (o.written found is).1;
        dst_kept = λ number is. ap (λ (p : D × O). p.1) (o.dst_kept number is);
        scratch_kept = o.scratch_kept;
      }

-- ---- each call

module _ {a b : Gray8} (same : SamePicture a b) where
  pub direction_same_c : {before after before' after' : DirectionOuts} {r r' : ℕ}
      → Returns (direction_decision a) direction_outs before after r
      → Returns (direction_decision b) direction_outs before' after' r'
      → SameOuts (direction_decision a) after after' r r'
  direction_same_c = outs_alike (direction_same same)

  pub measured_same_c : (s : Option RasterDirection4) (transitions amplitude : ℕ) {before after before' after' : Float}
      {swings swings₁ swings' swings₁' : List Swing} {r r' : ℕ} → length swings ≡ length swings'
      → LengthMeasuredC a s transitions amplitude before after swings swings₁ r
      → LengthMeasuredC b s transitions amplitude before' after' swings' swings₁' r'
      → SameOuts (snapped_decision a s (thresholds transitions amplitude) (length swings)) after after' r r'
  measured_same_c s transitions amplitude lent = outs_alike (snapped_same same (thresholds transitions amplitude) s lent)

  pub estimates_same_c : {old old' new new' : List ℤ} (f : LineFilter) {scratch scratch₁ scratch' scratch₁' : List ℤ}
      {before after before' after' r r' : ℕ} → length old ≡ length old' → length scratch ≡ length scratch'
      → EstimateWrittenC a old new f scratch scratch₁ before after r
      → EstimateWrittenC b old' new' f scratch' scratch₁' before' after' r'
      → SameEnd (estimate_decision a (length old) f (length scratch)) (pos 0) a.width a.height a.width new new'
      r r'
      × SameOuts (estimate_decision a (length old) f (length scratch)) after after' r r'
  estimates_same_c f room lent o o' =
      let outs =
      outs_alike (estimate_call_same same f room lent) (outs-alone (EstimateWrites a f.kernel) o)
      (outs-alone (EstimateWrites b f.kernel) o')
      in (
        by_answers metadata_of (map_found metadata_of) (λ _. refl) (estimate_call_same same f room lent) outs.same_number λ a a' e e'.
            estimates_same same f room lent (answered_by a e (destination-alone o)) (answered_by a' e' (destination-alone o')),
        outs,
      )

  module _ {dst dst' : Gray8} (alike : SameLayout dst dst') where
    pub filtered_same_c : {new new' : List ℕ} (f : LineFilter) {scratch scratch₁ scratch' scratch₁' : List ℤ}
        {before after before' after' r r' : ℕ} → length scratch ≡ length scratch'
        → FilteredC a dst new f scratch scratch₁ before after r
        → FilteredC b dst' new' f scratch' scratch₁' before' after' r'
        → SameEnd (filter_decision a dst f (length scratch)) 0 a.width a.height dst.stride new new' r r'
        × SameOuts (filter_decision a dst f (length scratch)) after after' r r'
    filtered_same_c f lent o o' =
        let outs =
        outs_alike (filter_same same f alike lent) (outs-alone (FilterWrites a dst.stride f.kernel) o)
        (outs-alone (FilterWrites b dst'.stride f.kernel) o')
        in (
          by_answers metadata_of (map_found metadata_of) (λ _. refl) (filter_same same f alike lent) outs.same_number λ a a' e e'.
              filtered_same same f alike lent (answered_by a e (destination-alone o)) (answered_by a' e' (destination-alone o')),
          outs,
        )

    pub sharpened_same_c : {new new' scratch scratch₁ scratch' scratch₁' : List ℕ} {r r' : ℕ}
        → length scratch ≡ length scratch' → SharpenedC a dst new scratch scratch₁ r
        → SharpenedC b dst' new' scratch' scratch₁' r'
        → SameEnd (sharpen_decision a dst (length scratch)) 0 a.width a.height dst.stride new new' r r'
    sharpened_same_c lent o o' = sharpen_ends same alike lent o o'

    pub box_halved_same_c : {new new' : List ℕ} {r r' : ℕ} → BoxHalvedC a dst new r → BoxHalvedC b dst' new' r'
        → SameEnd (box_decision a dst) 0 (a.width / 2) (a.height / 2) dst.stride new new' r r'
    box_halved_same_c o o' =
        let e = box_same same alike in
        by_answers (λ u. u) (λ d. d) (λ _. refl) e (answers_alike e o o') λ a a' t t'.
        box_halved_same same alike (answered_by a t o) (answered_by a' t' o')

    pub halved_same_c : (count : ℕ) {new new' scratch scratch₁ scratch' scratch₁' : List ℕ} {r r' : ℕ}
        → length scratch ≡ length scratch' → HalvedC count a dst new scratch scratch₁ r
        → HalvedC count b dst' new' scratch' scratch₁' r'
        → SameEnd (halve_decision count a dst (length scratch)) 0 (side_after count a.width)
        (side_after count a.height) dst.stride new new' r r'
    halved_same_c count lent o o' =
        let e = halve_same same count alike lent in
        by_answers (λ u. u) (λ d. d) (λ _. refl) e (answers_alike e o o') λ a a' t t'.
        halved_alike same count alike lent (answered_by a t o) (answered_by a' t' o')

    pub restored_same_c : {new new' : List ℕ} (config : JobConfig) {scratch scratch₁ scratch' scratch₁' : List ℤ}
        {swings swings₁ swings' swings₁' : List Swing} {before after before' after' : JobOuts} {r r' : ℕ}
        → length scratch ≡ length scratch' → length swings ≡ length swings'
        → RestoredC a dst new config scratch scratch₁ swings swings₁ before after r
        → RestoredC b dst' new' config scratch' scratch₁' swings' swings₁' before' after' r'
        → SameEnd (plan (job_of a (layout_of dst) config (length scratch) (length swings))) 0 a.width a.height
        dst.stride new new' r r'
        × SameOuts (plan (job_of a (layout_of dst) config (length scratch) (length swings))) after after' r r'
    restored_same_c config lent records o o' =
        let outs =
        outs_alike (job_same same config alike lent records) (outs-alone (JobWrites a dst.stride config) o)
        (outs-alone (JobWrites b dst'.stride config) o')
        in (
          by_answers (λ u. u) (λ d. d) (λ _. refl) (job_same same config alike lent records) outs.same_number λ a a' e e'.
              restored_same same config alike lent records (answered_by a e (destination-alone o))
              (answered_by a' e' (destination-alone o')),
          outs,
        )

-- ---- the program's work, with surplus picture bytes and without

pub ran_same_c : (job picture extra : List ℕ) → Whole job picture → {old new old' new' : List ℕ}
    {before after before' after' r r' : ℕ} → length old ≡ length old'
    → RanC job (picture ++ extra) old new before after r → RanC job picture old' new' before' after' r'
    → SameOuts (run_decision (length old) (output job (picture ++ extra))) after after' r r'
    × ((xs : List ℕ) → run_decision (length old) (output job (picture ++ extra)) ≡ accepts xs
    → take (length xs) new ≡ take (length xs) new')
ran_same_c job picture extra whole room o o' = (
  outs_alike (run_same job picture extra whole room) (outs-alone FrontWrites o) (outs-alone FrontWrites o'),
  (fronts_alike (run_same job picture extra whole room) (destination-alone o) (destination-alone o')).1,
)

-- ---- a picture as PGM

pub pgm_written_same_c : {a b : Gray8} → SamePicture a b → {old new old' new' : List ℕ}
    {before after before' after' r r' : ℕ} → length old ≡ length old'
    → PgmWrittenC a old new before after r → PgmWrittenC b old' new' before' after' r'
    → SameOuts (write_decision a (length old)) after after' r r'
    × ((xs : List ℕ) → write_decision a (length old) ≡ accepts xs → take (length xs) new ≡ take (length xs) new')
pgm_written_same_c same room o o' = (
  outs_alike (write_same same room) (outs-alone FrontWrites o) (outs-alone FrontWrites o'),
  (fronts_alike (write_same same room) (destination-alone o) (destination-alone o')).1,
)
