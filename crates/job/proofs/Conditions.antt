-- The whole job is given each number in its condition and otherwise never (`job_exactly`): one of 1 to 10 exactly where
-- it is not accepted before its picture is looked at (`job_iff`), and 0 exactly where its picture is confident and its
-- length is taken too (`plan_iff`).
use Prim.Native.Nat.{ℕ, ◌*◌}
use native.Mathlib.Omega.{arith}
use mathlib.Core.Bool.{true}
use mathlib.Core.List.{[], ◌∷◌}
use mathlib.Core.Logic.{inl, inr, ◌↔◌}
use mathlib.Core.Path.{◌≡◌, refl, sym, ap₂, ◌∙◌}
use borrow.Author.Tests.{le-ltb}
use lib.Dec.{ltb}
use lib.Ieee.{Float}
use lib.ListN.{length}
use Rattle.numbers.proofs.Test.{or_false_intro, ap_cond, ltb_iff}
use Rattle.floats.specs.Odd.{odd_length}
use Rattle.std.specs.Prelude.{Option, Some, None}
use Rattle.image.specs.Call.{accepts, refuses, number_of}
use Rattle.image.specs.Conditions.{given, Matches, FirstMatch, Exactly}
use Rattle.image.proofs.Conditions.{exactly, match_none, match_test, not_given, match_unless_decided}
use Rattle.image.proofs.Call.{number_unless}
use Rattle.image.proofs.Chain.{first_zero, first_other}
use Rattle.image.specs.Refusal.{first_refusal}
use Rattle.image.proofs.Pair.{accepted_pair}
use Rattle.raster.specs.declared.direction.RasterDirection4.{RasterDirection4}
use Rattle.line.specs.Kernel.{max_blur_length}
use Rattle.deblur.specs.Refusal.{scratch_needed, iterated_refusal}
use Rattle.deblur.proofs.Conditions.{iterated_matches, pair_ten}
use Rattle.deblur.proofs.Refusals.{order_0, iterated_0}
use Rattle.job.specs.declared.JobResult.{JobResult}
use Rattle.job.specs.Floor.{plan_without}
use Rattle.job.specs.Conditions.{Exceeds, measured_conditions, job_conditions, LengthFits, JobPlanned}
use Rattle.job.specs.Job.{
  Job,
  lent_short,
  pictures_refusal,
  job_refusal,
  floor_refusal,
  start_refusal,
  job_direction,
  job_length,
  plan_odd,
  plan_length,
  plan,
  JobAccepted,
}
use Rattle.job.proofs.Plans.{asked_matches, asked_numbered, early_matches, early_numbered, job_accepted}
use Rattle.job.proofs.Plans.{start_none, floor_confident, floor_other}

-- ---- 11 and 12

module _ (width height : ℕ) (d : RasterDirection4) where
  odd-matches : (estimate : Float) (o : Option ℕ)
      → FirstMatch (given 12 (Exceeds (max_blur_length width height) o) ∷ [])
      (number_of (plan_odd width height d estimate o))
  odd-matches estimate (Some L) =
      let long = ltb (max_blur_length width height) L in
      let result : JobResult = record { direction = d; blur_length = L; estimate = estimate } in
      rw (ap_cond number_of long (refuses 12) (accepts result))
      (match_test 12 match_none (ltb_iff (max_blur_length width height) L))
  odd-matches estimate None = record { matches = inl (tt, refl) }

  measured-matches : (l : Option Float)
      → FirstMatch (measured_conditions width height l) (number_of (plan_length width height d l))
  measured-matches (Some estimate) =
      let odd = odd-matches estimate (odd_length estimate) in
      record { matches = inr (λ e. let z : ◌≡◌ {A = ℕ} 0 1 = cc in omega arith, odd.matches) }
  measured-matches None = record { matches = inl (refl, refl) }

  length_iff : (l : Option Float) → (number_of (plan_length width height d l) ≡ 0) ↔ LengthFits width height l
  length_iff l =
      let at-0 = exactly (measured-matches l) 0 in (
        λ e. go (at-0.0 e).matches,
        λ k. at-0.1 (record { matches = inr (k.found, inr (k.fits, refl)) }),
      )
    where
      go : Matches (measured_conditions width height l) 0 → LengthFits width height l
      go (inl a) = let z : ◌≡◌ {A = ℕ} 0 11 = a.1 in absurd (omega arith)
      go (inr (found, inl a)) = let z : ◌≡◌ {A = ℕ} 0 12 = a.1 in absurd (omega arith)
      go (inr (found, inr a)) = record { found = found; fits = a.0 }

-- ---- the whole job

module _ (j : Job) where
  abbrev w : ℕ
  w = j.source.width

  abbrev h : ℕ
  h = j.source.height

  pub job_exactly : Exactly (job_conditions j) (number_of (plan j))
  unfolding plan
  job_exactly =
      exactly
      (match_unless_decided (early_matches j) (early_numbered j) (plan_length w h (job_direction j) (job_length j))
      (measured-matches w h (job_direction j) (job_length j)))

  -- 10 is for what is lent alone
  pub plan_ten : number_of (plan j) ≡ 10
      → (pictures_refusal j.source j.destination ≡ 0)
      × (lent_short w h j.scratch_len j.swings_len ≡ true)
  unfolding plan start_refusal job_refusal
  plan_ten e =
      let src = j.source in
      let dst = j.destination in
      let next = plan_length w h (job_direction j) (job_length j) in
      let late = not_given (measured-matches w h (job_direction j) (job_length j)) 10 (tt, (tt, tt)) in
      let start = first_other (start_refusal j) (number_of next) late (sym (number_unless (start_refusal j) next) ∙ e) in
      pair_ten (length src.bytes) w h src.stride dst.len dst.width dst.height dst.stride
      (iterated_refusal j.config.relaxation j.config.iterations)
      (lent_short w h j.scratch_len j.swings_len)
      (not_given (iterated_matches j.config.relaxation j.config.iterations) 10 (tt, (tt, (tt, tt))))
      (first_other (job_refusal j) (floor_refusal src j.config) (floor_other j) start)

  -- 17 is for the floor alone
  pub without_17 : number_of (plan_without j) ≡ 17 → ⊥
  without_17 =
      not_given
      (match_unless_decided (asked_matches j) (asked_numbered j) (plan_length w h (job_direction j) (job_length j))
      (measured-matches w h (job_direction j) (job_length j)))
      17 (tt, (tt, (tt, (tt, (tt, (tt, (tt, (tt, (tt, (tt, (tt, (tt, tt))))))))))))

  accepted-job : JobAccepted j → job_refusal j ≡ 0
  unfolding job_refusal
  accepted-job a =
      let r = a.runnable in
      order_0 _ _ _ (accepted_pair r.pictures)
      (iterated_0 j.config.relaxation j.config.iterations r.relaxation_taken r.iterations_taken)
      (or_false_intro (le-ltb j.scratch_len (scratch_needed w h) r.scratch_least)
      (le-ltb j.swings_len (w * h) a.swings_least))

  pub job_iff : (job_refusal j ≡ 0) ↔ JobAccepted j
  job_iff = (job_accepted j, accepted-job)

  pub plan_iff : (number_of (plan j) ≡ 0) ↔ JobPlanned j
  unfolding plan start_refusal
  plan_iff =
      let next = plan_length w h (job_direction j) (job_length j) in
      let number = number_unless (start_refusal j) next in
      let taken = length_iff w h (job_direction j) (job_length j) in (
        λ e.
            let a = first_zero (start_refusal j) (number_of next) (sym number ∙ e) in
            let b = start_none j a.0 in
            record {
              accepted = job_accepted j b.0;
              confident = (floor_confident j).0 b.1;
              measured = taken.0 a.1;
            },
        λ k.
            let start = ap₂ first_refusal (accepted-job k.accepted) ((floor_confident j).1 k.confident) in
            number ∙ ap₂ first_refusal start (taken.1 k.measured),
      )
