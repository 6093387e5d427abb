-- What a plan says: the refusals in their conditions, and that an accepted job (`job_accepted`) with a result has a
-- confidence that reaches its floor (`plan_confident`), a length that the restoration takes (`plan_length_holds`) and an
-- estimate that is positive and finite (`plan_estimate`).
use mathlib.Core.Bool.{Bool, true, false, cond}
use mathlib.Core.List.{List, ◌++◌}
use mathlib.Core.Logic.{◌⊎◌, inl, inr, ⊎_elim, ◌↔◌}
use mathlib.Core.Path.{◌≡◌, refl, sym, ap, ◌∙◌, subst}
use Prim.Native.Nat.{ℕ, ◌*◌, ◌%◌, ◌^◌, ◌≤◌}
use native.Mathlib.Omega.{arith}
use borrow.Author.Tests.{ltb-false}
use lib.Dec.{T, ltb, leb}
use lib.Ieee.{Float, nan, inf, fin, binary64, up, down}
use lib.Ieee.Fits.{down_pos}
use lib.Ieee.Positive.{positive, above}
use lib.ListN.{length}
use Rattle.numbers.proofs.Test.{or_false_left, or_false_right, ltb_iff, or_iff}
use Rattle.floats.specs.Odd.{odd_of, odd_length}
use Rattle.std.specs.Prelude.{Option, Some, None}
use Rattle.floats.proofs.Odd.{odd_of_odd, odd_of_three}
use Rattle.image.specs.Call.{Gray8, Decision, accepts, refuses, unless, KeepsScratch}
use Rattle.image.specs.declared.layout.Layout.{Layout}
use Rattle.image.specs.Conditions.{Refusal, FirstMatch, pair_conditions}
use Rattle.image.proofs.Call.{unless_refuses, unless_accepts}
use Rattle.image.proofs.Chain.{first_zero}
use Rattle.image.proofs.Conditions.{Numbered, match_none, match_test, not_given, match_then}
use Rattle.image.proofs.Conditions.{pair_matches, pair_numbered}
use Rattle.image.proofs.Pair.{laid_pair}
use Rattle.raster.specs.declared.direction.RasterDirection4.{RasterDirection4}
use Rattle.tensor.specs.Tensor.{picture_sums}
use Rattle.tensor.proofs.Conditions.{confidence_matches, confidence_iff}
use Rattle.blur.specs.Length.{thresholds}
use Rattle.blur.specs.Select.{Positive}
use Rattle.blur.proofs.Above.{length_above}
use Rattle.line.specs.Kernel.{max_blur_length}
use Rattle.deblur.specs.Conditions.{iterated_conditions}
use Rattle.deblur.specs.Refusal.{scratch_needed, iterated_refusal, scratch_short, LengthTaken}
use Rattle.deblur.proofs.Conditions.{iterated_matches}
use Rattle.deblur.proofs.Refusals.{iterated_taken, order_zero}
use Rattle.job.specs.declared.JobResult.{JobResult}
use Rattle.job.specs.Conditions.{ConfidentJob, lent_conditions, floor_conditions}
use Rattle.job.specs.Job.{
  Job,
  lent_short,
  pictures_refusal,
  job_refusal,
  floor_refusal,
  start_refusal,
  plan_odd,
  plan_length,
  plan,
  job_direction,
  job_length,
  JobAccepted,
}

-- ---- the order of the numbers

module _ (j : Job) where
  abbrev pictures : ℕ
  pictures = pictures_refusal j.source j.destination

  abbrev settings : ℕ
  settings = iterated_refusal j.config.relaxation j.config.iterations

  abbrev short : Bool
  short = lent_short j.source.width j.source.height j.scratch_len j.swings_len

  pub job_accepted : job_refusal j ≡ 0 → JobAccepted j
  unfolding job_refusal
  job_accepted e =
      let a = order_zero pictures settings short e in
      let s = iterated_taken j.config.relaxation j.config.iterations a.1 in
      let w = j.source.width in
      let h = j.source.height in
      let scratch = scratch_short w h j.scratch_len in
      let swings = ltb j.swings_len (w * h) in
      record {
        runnable =
            record {
              pictures = laid_pair a.0;
              relaxation_taken = s.0;
              iterations_taken = s.1;
              scratch_least = ltb-false j.scratch_len (scratch_needed w h) (or_false_left scratch swings a.2);
            };
        swings_least = ltb-false j.swings_len (w * h) (or_false_right scratch swings a.2);
      }

-- ---- they are 1 to 10, and 17

module _ (j : Job) where
  abbrev src : Gray8
  src = j.source

  abbrev dst : Layout
  dst = j.destination

  -- what is refused before the picture is looked at
  abbrev pub asked : List Refusal
  asked =
      pair_conditions (length src.bytes) src.width src.height src.stride dst.len dst.width
      dst.height dst.stride
      ++ (iterated_conditions j.config.relaxation j.config.iterations
      ++ lent_conditions src.width src.height j.scratch_len j.swings_len)

  pub asked_matches : FirstMatch asked (job_refusal j)
  unfolding job_refusal
  asked_matches =
      let len = length src.bytes in
      let w = src.width in
      let h = src.height in
      match_then (pair_matches len w h src.stride dst.len dst.width dst.height dst.stride)
      (pair_numbered len w h src.stride dst.len dst.width dst.height dst.stride)
      (match_then (iterated_matches j.config.relaxation j.config.iterations) (tt, (tt, (tt, tt)))
      (match_test 10 match_none
      (or_iff _ _ (ltb_iff j.scratch_len (scratch_needed w h)) (ltb_iff j.swings_len (w * h)))))

  pub asked_numbered : Numbered asked
  asked_numbered = (tt, (tt, (tt, (tt, (tt, (tt, (tt, (tt, (tt, (tt, tt))))))))))

  -- .. and before anything is measured along lines
  abbrev pub early : List Refusal
  early = asked ++ floor_conditions src j.config

  abbrev floor : ℕ
  floor = j.config.minimum_confidence

  floor-matches : FirstMatch (floor_conditions src j.config) (floor_refusal src j.config)
  floor-matches = confidence_matches floor src.width src.height (picture_sums src)

  pub early_matches : FirstMatch early (start_refusal j)
  unfolding start_refusal
  early_matches = match_then asked_matches asked_numbered floor-matches

  pub early_numbered : Numbered early
  early_numbered = (tt, (tt, (tt, (tt, (tt, (tt, (tt, (tt, (tt, (tt, (tt, tt)))))))))))

  early-keeps : KeepsScratch (start_refusal j)
  early-keeps =
      record {
        not_11 = not_given early_matches 11 (tt, (tt, (tt, (tt, (tt, (tt, (tt, (tt, (tt, (tt, (tt, tt)))))))))));
        not_12 = not_given early_matches 12 (tt, (tt, (tt, (tt, (tt, (tt, (tt, (tt, (tt, (tt, (tt, tt)))))))))));
      }

  pub floor_other : floor_refusal src j.config ≡ 10 → ⊥
  floor_other = not_given floor-matches 10 (tt, tt)

  pub floor_confident : (floor_refusal src j.config ≡ 0) ↔ ConfidentJob src j.config
  floor_confident = confidence_iff floor src.width src.height (picture_sums src)

  pub start_none : start_refusal j ≡ 0 → (job_refusal j ≡ 0) × (floor_refusal src j.config ≡ 0)
  unfolding start_refusal
  start_none = first_zero (job_refusal j) (floor_refusal src j.config)

-- ---- the length of a plan

odd_taken : (x : Float) (L : ℕ) → odd_length x ≡ Some L → (3 ≤ L) × (L % 2 ≡ 1)
unfolding odd_length
odd_taken nan L e = let z : ◌≡◌ {A = ℕ} 0 1 = cc in absurd (omega arith)
odd_taken (inf true) L e = let same : 3 ≡ L = cc in (omega arith, omega arith)
odd_taken (inf false) L e = let z : ◌≡◌ {A = ℕ} 0 1 = cc in absurd (omega arith)
odd_taken (fin true m e') L e = let same : 3 ≡ L = cc in (omega arith, omega arith)
odd_taken (fin false m e') L e = go (leb (m * up e') (2 ^ 53 * down e')) (odd_of (m * up e') (down e'))
    (odd_of_three (m * up e') (down e') (down_pos e')) (odd_of_odd (m * up e') (down e') (down_pos e')) e
  where
    go : (b : Bool) (n : ℕ) → 3 ≤ n → n % 2 ≡ 1 → cond b (Some n) None ≡ Some L → (3 ≤ L) × (L % 2 ≡ 1)
    go true n h o e = let same : n ≡ L = cc in (omega arith, omega arith)
    go false n h o e = let z : ◌≡◌ {A = ℕ} 0 1 = cc in absurd (omega arith)

-- no length is answered for an infinite estimate
odd_finite : (x : Float) (L : ℕ) → odd_length x ≡ Some L → T (above x) → T (positive x)
unfolding odd_length
odd_finite nan L e a = a
odd_finite (inf true) L e a = a
odd_finite (inf false) L e a = let z : ◌≡◌ {A = ℕ} 0 1 = cc in absurd (omega arith)
odd_finite (fin true m e') L e a = a
odd_finite (fin false m e') L e a = a

-- what a result has: its estimate is the length found, and its blur length is that of the estimate
pub record Measured (width height : ℕ) (l : Option Float) (result : JobResult) : Type 0 where
  pub found : l ≡ Some result.estimate
  pub rounded : odd_length result.estimate ≡ Some result.blur_length
  pub taken : LengthTaken width height result.blur_length

module _ (width height : ℕ) (d : RasterDirection4) where
  plan-odd : (estimate : Float) (o : Option ℕ) (result : JobResult) → odd_length estimate ≡ o
      → plan_odd width height d estimate o ≡ accepts result
      → Measured width height (Some estimate) result
  plan-odd estimate (Some L) result o e = go (ltb (max_blur_length width height) L) refl e
    where
      go : (b : Bool) → ltb (max_blur_length width height) L ≡ b
          → cond b (refuses 12) (accepts (record { direction = d; blur_length = L; estimate = estimate }))
          ≡ accepts result
          → Measured width height (Some estimate) result
      go true t e = let z : ◌≡◌ {A = ℕ} 0 1 = cc in absurd (omega arith)
      go false t e =
          let same : record { direction = d; blur_length = L; estimate = estimate } ≡ result = cc in
          let taken = odd_taken estimate L o in
          subst (Measured width height (Some estimate)) same
          (record {
            found = refl;
            rounded = o;
            taken = record { least = taken.0; odd = taken.1; most = ltb-false (max_blur_length width height) L t };
          })
  plan-odd estimate None result o e = let z : ◌≡◌ {A = ℕ} 0 1 = cc in absurd (omega arith)

  pub plan_along : (l : Option Float) (result : JobResult) → plan_length width height d l ≡ accepts result
      → Measured width height l result
  plan_along (Some estimate) result e = plan-odd estimate (odd_length estimate) result refl e
  plan_along None result e = let z : ◌≡◌ {A = ℕ} 0 1 = cc in absurd (omega arith)

  plan-from-done : (n : ℕ) (l : Option Float) (result : JobResult)
      → unless n (plan_length width height d l) ≡ accepts result
      → (n ≡ 0) × Measured width height l result
  plan-from-done n l result e =
      let a = unless_accepts n (plan_length width height d l) result e in
      (a.0, plan_along l result a.1)

-- ---- 11 and 12 come after all others

module _ (width height : ℕ) (d : RasterDirection4) (number : ℕ) where
  late-odd : (estimate : Float) (o : Option ℕ) → plan_odd width height d estimate o ≡ refuses number → number ≡ 12
  late-odd estimate (Some L) e = go (ltb (max_blur_length width height) L) e
    where
      go : (b : Bool)
          → cond {A = Decision JobResult} b (refuses 12)
          (accepts (record { direction = d; blur_length = L; estimate = estimate })) ≡ refuses number
          → number ≡ 12
      go true e = let same : 12 ≡ number = cc in sym same
      go false e = let z : ◌≡◌ {A = ℕ} 0 1 = cc in absurd (omega arith)
  late-odd estimate None e = let same : 12 ≡ number = cc in sym same

  late-length : (l : Option Float) → plan_length width height d l ≡ refuses number → (number ≡ 11) ⊎ (number ≡ 12)
  late-length (Some estimate) e = inr (late-odd estimate (odd_length estimate) e)
  late-length None e = let same : 11 ≡ number = cc in inl (sym same)

pub plan_late : (j : Job) {number : ℕ} → start_refusal j ≡ 0 → plan j ≡ refuses number → (number ≡ 11) ⊎ (number ≡ 12)
unfolding plan
plan_late j {number} none e =
    let next = plan_length j.source.width j.source.height (job_direction j) (job_length j) in
    late-length j.source.width j.source.height (job_direction j) number (job_length j)
    (sym (ap (λ (n : ℕ). unless n next) none) ∙ e)

-- so that scratch is kept where one of 1 to 10 or 17 is given, and only there
pub plan_leaves : (j : Job) {number : ℕ} → plan j ≡ refuses number → KeepsScratch number → start_refusal j ≡ 0 → ⊥
plan_leaves j e leaves none = ⊎_elim leaves.not_11 leaves.not_12 (plan_late j none e)

pub plan_early : (j : Job) → (start_refusal j ≡ 0 → ⊥)
    → (plan j ≡ refuses (start_refusal j)) × KeepsScratch (start_refusal j)
unfolding plan
plan_early j some = (unless_refuses (start_refusal j) _ some, early-keeps j)

-- ---- an accepted plan

module _ (j : Job) {result : JobResult} (e : plan j ≡ accepts result) where
  plan-done : (start_refusal j ≡ 0) × Measured j.source.width j.source.height (job_length j) result
  unfolding plan
  plan-done =
      plan-from-done j.source.width j.source.height (job_direction j) (start_refusal j) (job_length j) result e

  pub plan_accepted : JobAccepted j
  plan_accepted = job_accepted j (start_none j plan-done.0).0

  pub plan_confident : ConfidentJob j.source j.config
  plan_confident = (floor_confident j).0 (start_none j plan-done.0).1

  pub plan_length_holds : LengthTaken j.source.width j.source.height result.blur_length
  plan_length_holds = plan-done.1.taken

  pub plan_measured : job_length j ≡ Some result.estimate
  plan_measured = plan-done.1.found

  pub plan_estimate : Positive binary64 result.estimate
  plan_estimate =
      let m = plan-done.1 in
      let s = j.source in
      let a =
      length_above s (job_direction j) (thresholds j.config.minimum_transitions j.config.minimum_amplitude)
      result.estimate m.found
      in
      record { above = odd_finite result.estimate result.blur_length m.rounded a.above; holds = a.holds }
