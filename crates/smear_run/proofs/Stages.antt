-- What the filters answer, as decisions of the stage; and what it decided, by their answer.
use mathlib.Core.Path.{◌≡◌, refl, sym, ap, subst, ◌∙◌}
use mathlib.Core.List.{List}
use Prim.Native.Nat.{ℕ, ◌*◌, ◌<◌}
use native.Mathlib.Omega.{arith}
use lib.IntN.{ℤ}
use lib.Ieee.{Float}
use lib.ListN.{length}
use Rattle.std.specs.Prelude.{Result, Ok, Err}
use Rattle.image.specs.Call.{Decision, accepts, refuses, told, map_found, Outcome}
use Rattle.image.specs.declared.refusal.Refusal.{Refusal}
use Rattle.image.proofs.Call.{accepts_not_refuses, outcome_accepted, outcome_refused}
use Rattle.raster.specs.declared.direction.RasterDirection4.{RasterDirection4}
use Rattle.swings.specs.declared.Swing.{Swing}
use Rattle.deblur.specs.Calls as calls
use Rattle.deblur.specs.Settings.{LineFilter, restoration_of, unsharp_of}
use Rattle.deblur.specs.declared.RestorationMetadata.{RestorationMetadata}
use Rattle.sharpen.specs.Call as sharpening
use Rattle.job.specs.Job.{Job, plan, Restored}
use Rattle.job.specs.declared.JobConfig.{JobConfig}
use Rattle.job.specs.declared.JobResult.{JobResult}
use Rattle.job.proofs.Plans.{plan_accepted, plan_length_holds}
use Rattle.record.specs.declared.Record.{Record}
use Rattle.record.specs.declared.RecordFilter.TheVariants.{WholeJob, Restoration, Unsharp, Binomial}
use Rattle.smear_run.specs.Stage.{
  Made,
  tight,
  with_direction,
  job_result,
  record_restoration,
  record_unsharp,
  record_job,
  line_scratch,
  line_made,
  line_stage,
  job_made,
  whole_job,
  binomial_made,
  binomial_stage,
  stage,
}
use Rattle.smear_run.specs.Parts.{result_of, FilterWrites, Filtered}

-- a call's outcome, as the filter's: `f` is what the filter makes of what was found
filtered-by : (r : Record) {R A S : Type 0} {decision : Decision R} {answers : Decision R → A} (f : R → Made)
    {old new : List ℕ} {scratch scratch' : S} {a : A} (answer : Result Record Refusal)
    → Outcome decision answers (λ found. FilterWrites r (f found)) old new scratch scratch' a
    → told answer ≡ map_found result_of (map_found f decision) → Filtered (map_found f decision) r old new answer
filtered-by r {R} {decision = decision} f {old} {new} answer o e = go decision refl
  where
    go : (d : Decision R) → decision ≡ d → Filtered (map_found f decision) r old new answer
    go (accepts found) is =
        outcome_accepted (map_found result_of) (FilterWrites r) old tt (f found) new tt (ap (map_found f) is)
        (e ∙ ap (λ (d : Decision R). map_found result_of (map_found f d)) is) (o.written found is)
    go (refuses number) is =
        rw (o.dst_kept number is)
        (outcome_refused (map_found result_of) (FilterWrites r) old tt number (ap (map_found f) is)
        (e ∙ ap (λ (d : Decision R). map_found result_of (map_found f d)) is))

-- what a view held is what the slice that it borrows holds
pub moved : {decision : Decision Made} (r : Record) {old new new' : List ℕ} {shown : Decision Record} → new ≡ new'
    → Outcome decision (map_found result_of) (FilterWrites r) old new (tt {0}) (tt {0}) shown
    → Outcome decision (map_found result_of) (FilterWrites r) old new' (tt {0}) (tt {0}) shown
moved {decision} r {old} {shown = shown} e h =
    subst (λ (n : List ℕ). Outcome decision (map_found result_of) (FilterWrites r) old n (tt {0}) (tt {0}) shown) e h

-- a refusal is handed on, whatever a call says of what it found
handed-on : {R T : Type 0} (g : R → T) (f : R → Made) (d : Decision R) {n : ℕ} → refuses n ≡ map_found g d
    → refuses n ≡ map_found result_of (map_found f d)
handed-on g f (accepts found) e = absurd (accepts_not_refuses (sym e))
handed-on g f (refuses number) e = cc

refused-on : {R : Type 0} (f : R → Made) (d : Decision R) {n : ℕ} → refuses n ≡ d
    → refuses n ≡ map_found result_of (map_found f d)
refused-on {R} f d e = ap (λ (d : Decision R). map_found result_of (map_found f d)) e

line-done : (r : Record) (f : LineFilter) (picture : List ℕ) (d : Decision RasterDirection4) {done : RestorationMetadata}
    {result : Record} → accepts done ≡ map_found calls.metadata_of d → result ≡ with_direction r done.raster_direction
    → accepts result ≡ map_found result_of (map_found (line_made r f picture) d)
line-done r f picture (accepts d) {done} e is =
    let same : done ≡ calls.metadata_of d = cc in
    ap accepts (is ∙ ap (λ (m : RestorationMetadata). with_direction r m.raster_direction) same)
line-done r f picture (refuses number) e is = absurd (accepts_not_refuses e)

binomial-done : (r : Record) (picture : List ℕ) (d : Decision (Unit {0})) → accepts tt ≡ d
    → accepts r ≡ map_found result_of (map_found (binomial_made r picture) d)
binomial-done r picture (accepts found) e = refl
binomial-done r picture (refuses number) e = absurd (accepts_not_refuses e)

job-done : (r : Record) (config : JobConfig) (picture : List ℕ) (d : Decision JobResult) {done : JobResult} {result : Record}
    → accepts done ≡ d → result ≡ job_result r done
    → accepts result ≡ map_found result_of (map_found (job_made r config picture) d)
job-done r config picture (accepts d) {done} e is =
    let same : done ≡ d = cc in ap accepts (is ∙ ap (job_result r) same)
job-done r config picture (refuses number) e is = absurd (accepts_not_refuses e)

-- each call is on tight pictures of the record's sides
module _ (r : Record) (picture : List ℕ) {old new : List ℕ} (room : length old ≡ r.width * r.height) where
  module _ (f : LineFilter) {scratch scratch' : List ℤ} (a : Result RestorationMetadata Refusal)
      (ek : length scratch ≡ line_scratch)
      (o : calls.Filtered (tight r picture) (tight r old) new f scratch scratch' a) where
    pub line_refused : {refusal : Refusal} → a ≡ Err refusal
        → Filtered (line_stage r f picture) r old new (Err refusal)
    line_refused {refusal} is =
        rw (← room, ← ek)
        (filtered-by r (line_made r f picture) (Err refusal) o
        (handed-on calls.metadata_of (line_made r f picture) _ (sym (ap told is) ∙ o.answered)))

    pub line_filtered : {done : RestorationMetadata} {result : Record} → a ≡ Ok done
        → result ≡ with_direction r done.raster_direction
        → Filtered (line_stage r f picture) r old new (Ok result)
    line_filtered {result = result} is e =
        rw (← room, ← ek)
        (filtered-by r (line_made r f picture) (Ok result) o
        (line-done r f picture _ (sym (ap told is) ∙ o.answered) e))

  module _ {scratch scratch' : List ℕ} (a : Result (Unit {0}) Refusal) (ek : length scratch ≡ 4096)
      (o : sharpening.Sharpened (tight r picture) (tight r old) new scratch scratch' a) where
    pub binomial_refused : {refusal : Refusal} → a ≡ Err refusal
        → Filtered (binomial_stage r picture) r old new (Err refusal)
    binomial_refused {refusal} is =
        rw (← room, ← ek)
        (filtered-by r (binomial_made r picture) (Err refusal) o
        (refused-on (binomial_made r picture) _ (sym (ap told is) ∙ o.answered)))

    pub binomial_filtered : a ≡ Ok tt → Filtered (binomial_stage r picture) r old new (Ok r)
    binomial_filtered is =
        rw (← room, ← ek)
        (filtered-by r (binomial_made r picture) (Ok r) o (binomial-done r picture _ (sym (ap told is) ∙ o.answered)))

  module _ (relaxation : Float) {config : JobConfig} {scratch scratch' : List ℤ} {swings swings' : List Swing}
      (a : Result JobResult Refusal) (ec : config ≡ record_job r relaxation) (ek : length scratch ≡ line_scratch)
      (es : length swings ≡ 4096)
      (o : Restored (tight r picture) (tight r old) new config scratch scratch' swings swings' a) where
    pub job_refused : {refusal : Refusal} → a ≡ Err refusal
        → Filtered (whole_job r relaxation picture) r old new (Err refusal)
    job_refused {refusal} is =
        rw (← ec, ← room, ← ek, ← es)
        (filtered-by r (job_made r config picture) (Err refusal) o
        (refused-on (job_made r config picture) _ (sym (ap told is) ∙ o.answered)))

    pub job_filtered : {done : JobResult} {result : Record} → a ≡ Ok done → result ≡ job_result r done
        → Filtered (whole_job r relaxation picture) r old new (Ok result)
    job_filtered {result = result} is e =
        rw (← ec, ← room, ← ek, ← es)
        (filtered-by r (job_made r config picture) (Ok result) o
        (job-done r config picture _ (sym (ap told is) ∙ o.answered) e))

-- a measured blur length is a record's
pub measured_short : (j : Job) (a : Result JobResult Refusal) {done : JobResult} → told a ≡ plan j → a ≡ Ok done
    → done.blur_length < 65536
measured_short j a is e =
    let p = sym is ∙ ap told e in
    let s = (plan_accepted j p).runnable.pictures.source in
    let l = plan_length_holds j p in
    let w = s.width_most in
    let h = s.height_most in
    let b = l.most in
    omega arith

-- ---- what the stage decided, by the filter's answer

pub done_accepts : (d : Decision Made) {result : Record} → accepts result ≡ map_found result_of d
    → (m : Made) × ((d ≡ accepts m) × (result ≡ m.result))
done_accepts (accepts m) e = (m, (refl, cc))
done_accepts (refuses number) e = absurd (accepts_not_refuses e)

-- ---- which filter it is

module _ (r : Record) (picture : List ℕ) {x : Float} where
  pub stage_job : r.filter ≡ WholeJob x → stage r picture ≡ whole_job r x picture
  unfolding stage
  stage_job e = rw e

  pub stage_restoration : r.filter ≡ Restoration x
      → stage r picture ≡ line_stage r (restoration_of (record_restoration r x)) picture
  unfolding stage
  stage_restoration e = rw e

  pub stage_unsharp : r.filter ≡ Unsharp x → stage r picture ≡ line_stage r (unsharp_of (record_unsharp r x)) picture
  unfolding stage
  stage_unsharp e = rw e

pub stage_binomial : (r : Record) (picture : List ℕ) → r.filter ≡ Binomial → stage r picture ≡ binomial_stage r picture
unfolding stage
stage_binomial r picture e = rw e
