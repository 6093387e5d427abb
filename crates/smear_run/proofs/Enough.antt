-- The program's own scratch is enough: no filter of a picture that is not too large is refused with 10 (`never_10`).
-- Its whole job runs with floor 0: it comes to what it does without one (`no_floor`), and never to 17 (`never_17`).
use Prim.Native.Nat.{ℕ, ◌*◌, ◌≤◌}
use native.Mathlib.Omega.{arith}
use mathlib.Core.Bool.{Bool, false}
use mathlib.Core.List.{List}
use mathlib.Core.Path.{◌≡◌, refl, sym, ap, ◌∙◌}
use borrow.Author.Tests.{le-ltb}
use lib.Dec.{ltb}
use lib.Ieee.{Float}
use lib.ListN.{length}
use Rattle.numbers.proofs.Test.{false_not_true, or_false_intro}
use Rattle.image.specs.Call.{Decision, gray8, accepts, refuses, decided, map_found, number_of}
use Rattle.image.specs.Refusal.{pair_refusal}
use Rattle.image.proofs.Call.{number_decided}
use Rattle.image.proofs.Pair.{laid_pair}
use Rattle.deblur.specs.Refusal.{scratch_needed, scratch_short, in_order, filter_refusal}
use Rattle.deblur.specs.Settings.{LineFilter, restoration_of, unsharp_of}
use Rattle.deblur.specs.Calls.{decided_along}
use Rattle.deblur.proofs.Decided.{number_along}
use Rattle.deblur.proofs.Conditions.{restoration_other, unsharp_other, pair_ten}
use Rattle.sharpen.specs.Call.{binomial_refusal}
use Rattle.job.specs.Floor.{plan_without}
use Rattle.job.specs.Job.{Job, job_of, layout}
use Rattle.job.proofs.Conditions.{plan_ten, without_17}
use Rattle.job.proofs.Floor.{floor_0}
use Rattle.record.specs.declared.Record.{Record}
use Rattle.record.specs.declared.RecordFilter.{RecordFilter}
use Rattle.record.specs.declared.RecordFilter.TheVariants.{WholeJob, Restoration, Unsharp, Binomial}
use Rattle.smear_run.specs.Stage.{
  Made,
  most_pixels,
  line_scratch,
  record_restoration,
  record_unsharp,
  record_job,
  line_made,
  line_stage,
  planned,
  job_made,
  whole_job,
  binomial_made,
  binomial_stage,
  stage,
}
use Rattle.smear_run.proofs.Stages.{stage_job, stage_restoration, stage_unsharp, stage_binomial}

number_made : {R : Type 0} (f : R → Made) (d : Decision R) → number_of (map_found f d) ≡ number_of d
number_made f (accepts found) = refl
number_made f (refuses number) = refl

-- the number of what was decided
made_10 : {R : Type 0} (f : R → Made) (d : Decision R) {n : ℕ} → number_of d ≡ n → map_found f d ≡ refuses 10 → n ≡ 10
made_10 f d is e = sym (number_made f d ∙ is) ∙ ap number_of e

module _ (r : Record) (picture : List ℕ) where
  abbrev w : ℕ
  w = r.width

  abbrev h : ℕ
  h = r.height

  abbrev pair : ℕ
  pair = pair_refusal (length picture) w h w (w * h) w h w

  -- the sides of an accepted picture are at most 1,024
  line-enough : pair ≡ 0 → scratch_short w h line_scratch ≡ false
  line-enough e =
      let l = (laid_pair e).source in
      le-ltb line_scratch (scratch_needed w h) (omega (arith, l.width_most, l.height_most))

  lent_never : (settings : ℕ) (short : Bool) → (settings ≡ 10 → ⊥) → (pair ≡ 0 → short ≡ false)
      → in_order pair settings short ≡ 10 → ⊥
  lent_never settings short other enough e =
      let a = pair_ten (length picture) w h w (w * h) w h w settings short other e in
      false_not_true (enough a.0) a.1

  line-never : (f : LineFilter) → (f.refusal w h ≡ 10 → ⊥) → line_stage r f picture ≡ refuses 10 → ⊥
  unfolding filter_refusal
  line-never f other e =
      let short = scratch_short w h line_scratch in
      lent_never (f.refusal w h) short other line-enough
      (made_10 (line_made r f picture) (decided_along (in_order pair (f.refusal w h) short) f.direction)
      (number_along _ f.direction) e)

  -- document 02, K6: "A job record runs with floor 0."
  module _ (relaxation : Float) where
    abbrev job : Job
    job =
        job_of (gray8 picture w h w) (layout (w * h) w h w) (record_job r relaxation) line_scratch most_pixels

    pub no_floor : planned picture w h (w * h) (record_job r relaxation) line_scratch ≡ plan_without job
    no_floor = floor_0 job

    pub never_17 : whole_job r relaxation picture ≡ refuses 17 → ⊥
    never_17 e =
        let config = record_job r relaxation in
        let told = number_made (job_made r config picture) (planned picture w h (w * h) config line_scratch) in
        without_17 job (ap number_of (sym no_floor) ∙ sym told ∙ ap number_of e)

  module _ (small : w * h ≤ most_pixels) where
    job-never : (relaxation : Float) → whole_job r relaxation picture ≡ refuses 10 → ⊥
    job-never relaxation e =
        let config = record_job r relaxation in
        let told = number_made (job_made r config picture) (planned picture w h (w * h) config line_scratch) in
        let a = plan_ten _ (sym told ∙ ap number_of e) in
        false_not_true (or_false_intro (line-enough a.0) (le-ltb most_pixels (w * h) small)) a.1

    binomial-never : binomial_stage r picture ≡ refuses 10 → ⊥
    unfolding binomial_refusal
    binomial-never e =
        let short = ltb most_pixels (w * h) in
        lent_never 0 short (λ z. omega arith) (λ _. le-ltb most_pixels (w * h) small)
        (made_10 (binomial_made r picture) (decided (in_order pair 0 short) tt) (number_decided _ tt) e)

    pub never_10 : stage r picture ≡ refuses 10 → ⊥
    never_10 = go r.filter refl
      where
        go : (k : RecordFilter) → r.filter ≡ k → stage r picture ≡ refuses 10 → ⊥
        go (WholeJob x) e s = job-never x (sym (stage_job r picture e) ∙ s)
        go (Restoration x) e s =
            line-never (restoration_of (record_restoration r x)) (restoration_other w h (record_restoration r x))
            (sym (stage_restoration r picture e) ∙ s)
        go (Unsharp x) e s =
            line-never (unsharp_of (record_unsharp r x)) (unsharp_other w h (record_unsharp r x))
            (sym (stage_unsharp r picture e) ∙ s)
        go Binomial e s = binomial-never (sym (stage_binomial r picture e) ∙ s)
