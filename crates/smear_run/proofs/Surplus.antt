-- Document 01, "The 32-byte record": "surplus picture bytes are ignored" (`surplus_ignored`). So two runs, the one with
-- surplus bytes, end alike, whatever the slices that they write to held (`ran_same`; `ran_alike` for equal outputs).
use Prim.Native.Nat.{ℕ, ◌+◌, ◌-◌, ◌*◌, ◌≤◌, ◌<◌}
use native.Mathlib.Nat.{le_refl}
use native.Mathlib.Omega.{arith}
use mathlib.Core.Bool.{true}
use mathlib.Core.List.{List, ◌++◌}
use mathlib.Core.Path.{◌≡◌, refl, sym, ap, ap₂, ◌∙◌}
use borrow.Author.Tests.{leb-true, ltb-true, ltb-false}
use lib.Dec.{leb, ltb}
use lib.Ieee.{Float}
use Rattle.std.specs.Prelude.{Result}
use lib.ListN.{length, take, length-append, get_or-append}
use Rattle.numbers.specs.Scalar.{clamp_byte}
use Rattle.numbers.proofs.Test.{by_test}
use Rattle.image.specs.Call.{Decision, accepts, refuses, decided, map_found}
use Rattle.image.specs.declared.refusal.Refusal.{Refusal}
use Rattle.image.specs.Picture.{pixel}
use Rattle.image.specs.Refusal.{max_side, Laid}
use Rattle.image.specs.Same.{SamePicture}
use Rattle.image.proofs.Front.{fronts_alike}
use Rattle.image.proofs.Told.{told_one}
use Rattle.image.proofs.Accepted.{place_within}
use Rattle.image.proofs.Tight.{pixels_same}
use Rattle.deblur.specs.Calls.{decided_along}
use Rattle.deblur.specs.Settings.{LineFilter, restoration_of, unsharp_of}
use Rattle.deblur.proofs.RowStride.{walked_tight}
use Rattle.deblur.proofs.Same.{filter_refusal_same, last_same}
use Rattle.sharpen.proofs.Same.{binomial_refusal_same, unsharp_same}
use Rattle.job.specs.Job.{layout}
use Rattle.job.proofs.Same.{plan_same, job_estimate_same}
use Rattle.record.specs.Fields.{side_legal, head_legal, filter_legal, decoded, legal}
use Rattle.record.specs.Record.{read_record, record_of, is_job}
use Rattle.record.specs.declared.Record.{Record}
use Rattle.record.specs.declared.RecordFilter.{RecordFilter}
use Rattle.record.specs.declared.RecordFilter.TheVariants.{WholeJob, Restoration, Unsharp, Binomial}
use Rattle.record.proofs.Legal.{both}
use Rattle.record.proofs.RoundTrip.{read_is}
use Rattle.smear_run.specs.Stage.{
  Made,
  record_restoration,
  record_unsharp,
  record_job,
  most_pixels,
  line_scratch,
  tight,
  line_made,
  line_stage,
  job_made,
  whole_job,
  binomial_made,
  binomial_stage,
  stage_of,
  stage,
}
use Rattle.smear_run.specs.Output.{then_record, printed, job_output, output_of, output}
use Rattle.smear_run.specs.Output.{Whole, run_decision, Ran}
use Rattle.smear_run.proofs.Printed.{no_job, of_large, of_stage}

-- ---- two runs that print the same, whatever the slices that they write to held

module _ (job p q : List ℕ) (same : output job p ≡ output job q) where
  run-alike : {n n' : ℕ} → n ≡ n' → run_decision n (output job p) ≡ run_decision n' (output job q)
  run-alike e = rw (e, same)

  -- as many bytes are written, or the same refusal given, and the bytes are the same
  pub ran_alike : {old new old' new' : List ℕ} {answer answer' : Result ℕ Refusal} → length old ≡ length old'
      → Ran job p old new answer → Ran job q old' new' answer'
      → (answer ≡ answer')
      × ((xs : List ℕ) → run_decision (length old) (output job p) ≡ accepts xs
      → take (length xs) new ≡ take (length xs) new')
  ran_alike {answer = answer} {answer'} room o o' =
      let alike = fronts_alike (run-alike room) o o' in
      (told_one answer answer' alike.0, alike.1)

-- ---- two tight pictures that are the same

module _ (r : Record) {p q : List ℕ} (same : SamePicture (tight r p) (tight r q)) where
  -- what the same decision makes of them
  made-same : {R : Type 0} (f g : R → Made) {d d' : Decision R} → d ≡ d'
      → ((found : R) → (f found).result ≡ (g found).result)
      → ((found : R) (c y : ℕ) → c < r.width → y < r.height → (f found).pixels c y ≡ (g found).pixels c y)
      → printed r (map_found f d) ≡ printed r (map_found g d')
  made-same {R} f g {d' = d'} e results pixels = ap (λ (d : Decision R). printed r (map_found f d)) e ∙ go d'
    where
      go : (d : Decision R) → printed r (map_found f d) ≡ printed r (map_found g d)
      go (accepts found) =
          let some = same.laid.width_pos in
          ap₂ then_record
          (pixels_same r.width r.height (f found).pixels (g found).pixels some (pixels found))
          (results found)
      go (refuses number) = refl

  line_same : (f : LineFilter) → printed r (line_stage r f p) ≡ printed r (line_stage r f q)
  line_same f =
      made-same (line_made r f p) (line_made r f q)
      (ap (λ (n : ℕ). decided_along n f.direction)
      (filter_refusal_same same (r.width * r.height) r.width r.height r.width f.refusal line_scratch))
      (λ _. refl)
      (λ d c y hc hy. ap clamp_byte (last_same same f.kernel d c y hc hy))

  job_same : (relaxation : Float) → printed r (whole_job r relaxation p) ≡ printed r (whole_job r relaxation q)
  job_same relaxation =
      let config = record_job r relaxation in
      made-same (job_made r config p) (job_made r config q)
      (plan_same same (layout (r.width * r.height) r.width r.height r.width) config line_scratch
      most_pixels)
      (λ _. refl)
      (λ result c y hc hy. ap clamp_byte (job_estimate_same same config result config.iterations c y hc hy))

  binomial-same : printed r (binomial_stage r p) ≡ printed r (binomial_stage r q)
  binomial-same =
      made-same (binomial_made r p) (binomial_made r q)
      (ap (λ (n : ℕ). decided {R = Unit {0}} n tt)
      (binomial_refusal_same same (r.width * r.height) r.width r.height r.width most_pixels))
      (λ _. refl)
      (λ _ c y hc hy. unsharp_same (pixel p r.width) (pixel q r.width) r.width r.height c y
      same.same_pixels hc hy)

  stage-same : printed r (stage r p) ≡ printed r (stage r q)
  unfolding stage
  stage-same = go r.filter
    where
      go : (k : RecordFilter) → printed r (stage_of k r p) ≡ printed r (stage_of k r q)
      go (WholeJob x) = job_same x
      go (Restoration x) = line_same (restoration_of (record_restoration r x))
      go (Unsharp x) = line_same (unsharp_of (record_unsharp r x))
      go Binomial = binomial-same

-- ---- a picture with surplus bytes

side_within : (n : ℕ) → side_legal n ≡ true → (0 < n) × (n ≤ max_side)
side_within n e = let b = both (leb 1 n) (leb n max_side) e in (leb-true 1 n b.0, leb-true n max_side b.1)

-- a record that was read has sides of a picture, so that a tight one which is long enough is accepted
module _ (job : List ℕ) (r : Record) (reads : read_record job ≡ accepts r) where
  sides : ((0 < r.width) × (r.width ≤ max_side)) × ((0 < r.height) × (r.height ≤ max_side))
  unfolding legal record_of
  sides =
      let f = decoded job in
      let from = read_is job r reads in
      let head = (both (head_legal f.head) (filter_legal r.filter f) from.reads.within).0 in
      let side = both (side_legal f.head.width) (side_legal f.head.height) head in
      let width = ap (λ (r : Record). r.width) from.same in
      let height = ap (λ (r : Record). r.height) from.same in
      rw (← width, ← height) (side_within f.head.width side.0, side_within f.head.height side.1)

  shortest : Laid (r.width * (r.height - 1) + r.width) r.width r.height r.width
  shortest =
      record {
        width_pos = sides.0.0;
        width_most = sides.0.1;
        height_pos = sides.1.0;
        height_most = sides.1.1;
        stride_least = le_refl r.width;
        len_least = le_refl (r.width * (r.height - 1) + r.width);
      }

  laid-tight : {n : ℕ} → r.width * r.height ≤ n → Laid n r.width r.height r.width
  laid-tight long = (walked_tight shortest long).laid

  with-surplus : (picture extra : List ℕ) → r.width * r.height ≤ length picture
      → SamePicture (tight r (picture ++ extra)) (tight r picture)
  with-surplus picture extra holds =
      let l = laid-tight holds in
      record {
        laid = laid-tight (rw length-append (omega (arith, holds)));
        laid' = l;
        same_width = refl;
        same_height = refl;
        same_pixels = λ c y hc hy.
            get_or-append picture extra 0 (y * r.width + c) (place_within l c y hc hy);
      }

module _ (job picture extra : List ℕ) (whole : Whole job picture) where
  pub surplus_ignored : output job (picture ++ extra) ≡ output job picture
  unfolding output
  surplus_ignored = go (read_record job) refl
    where
      large : (r : Record) → is_job r ≡ true → most_pixels < r.width * r.height
          → job_output r (picture ++ extra) ≡ job_output r picture
      large r is_job_holds many = of_large r (picture ++ extra) is_job_holds many ∙ sym (of_large r picture is_job_holds many)

      small : (r : Record) → read_record job ≡ accepts r → is_job r ≡ true → r.width * r.height ≤ most_pixels
          → job_output r (picture ++ extra) ≡ job_output r picture
      small r reads is_job_holds few =
          of_stage r (picture ++ extra) is_job_holds few
          ∙ stage-same r (with-surplus job r reads picture extra (whole r reads is_job_holds few))
          ∙ sym (of_stage r picture is_job_holds few)

      go : (a : Decision Record) → read_record job ≡ a → output_of a (picture ++ extra) ≡ output_of a picture
      go (accepts r) reads =
          by_test (is_job r)
          (λ is_job_holds.
          by_test (ltb most_pixels (r.width * r.height))
          (λ t. large r is_job_holds (ltb-true most_pixels (r.width * r.height) t))
          (λ t. small r reads is_job_holds (ltb-false most_pixels (r.width * r.height) t)))
          (λ t. no_job r (picture ++ extra) t ∙ sym (no_job r picture t))
      go (refuses number) reads = refl

  pub run_same : {n n' : ℕ} → n ≡ n'
      → run_decision n (output job (picture ++ extra)) ≡ run_decision n' (output job picture)
  run_same = run-alike job (picture ++ extra) picture surplus_ignored

  pub ran_same : {old new old' new' : List ℕ} {answer answer' : Result ℕ Refusal} → length old ≡ length old'
      → Ran job (picture ++ extra) old new answer → Ran job picture old' new' answer'
      → (answer ≡ answer')
      × ((xs : List ℕ) → run_decision (length old) (output job (picture ++ extra)) ≡ accepts xs
      → take (length xs) new ≡ take (length xs) new')
  ran_same = ran_alike job (picture ++ extra) picture surplus_ignored
