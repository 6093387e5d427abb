-- The two calls on sources that show the same picture: they are refused alike (`box_same`, `halve_same`) and end alike,
-- whatever the old destinations and scratch hold (`box_halved_same`, `halved_alike`).
use Prim.Native.Nat.{ℕ, ◌/◌}
use mathlib.Core.List.{List}
use mathlib.Core.Path.{◌≡◌, ap}
use lib.ListN.{length}
use Rattle.std.specs.Prelude.{Result}
use Rattle.image.specs.Call.{Gray8, Decision, Outcome}
use Rattle.image.specs.declared.refusal.Refusal.{Refusal}
use Rattle.image.specs.Picture.{pixel}
use Rattle.image.specs.Same.{SamePicture, SameLayout, SameEnd}
use Rattle.image.proofs.Call.{decided_accepts}
use Rattle.image.proofs.Pair.{at_laid}
use Rattle.image.proofs.Accepted.{accepted}
use Rattle.image.proofs.Same.{ends_alike_at}
use Rattle.image.proofs.Told.{told_one}
use Rattle.resize.specs.Call.{box_refusal, halving_refusal, halve_refusal}
use Rattle.resize.specs.Call.{box_decision, BoxWrites, BoxHalved, halve_decision, HalveWrites, Halved}
use Rattle.resize.specs.Halving.{halved, halved_times, side_after}
use Rattle.resize.proofs.Halvings.{halved_same, times_same}
use Rattle.resize.proofs.Refusals.{box_taken, halving_taken, halve_taken}

module _ {a b : Gray8} (same : SamePicture a b) where
  -- ---- one halving

  pub box_same : {dst dst' : Gray8} → SameLayout dst dst' → box_decision a dst ≡ box_decision b dst'
  unfolding box_refusal
  box_same alike =
      rw (
        alike.same_length,
        alike.same_width,
        alike.same_height,
        alike.same_stride,
        accepted same.laid,
        accepted same.laid',
        same.same_width,
        same.same_height,
      )

  -- whatever shows the decision
  pub box_ends : {A : Type 0} {answers : Decision (Unit {0}) → A} {dst dst' : Gray8} {new new' : List ℕ} {answer answer' : A}
      → SameLayout dst dst'
      → Outcome (box_decision a dst) answers (BoxWrites a dst.stride) dst.bytes new (tt {0}) (tt {0}) answer
      → Outcome (box_decision b dst') answers (BoxWrites b dst'.stride) dst'.bytes new' (tt {0}) (tt {0}) answer'
      → SameEnd (box_decision a dst) 0 (a.width / 2) (a.height / 2) dst.stride new new' answer answer'
  box_ends alike =
      ends_alike_at (λ _. halved (pixel a.bytes a.stride)) (λ _. halved (pixel b.bytes b.stride))
      (a.width / 2) (a.height / 2) (ap (λ (n : ℕ). n / 2) same.same_width)
      (ap (λ (n : ℕ). n / 2) same.same_height) (box_same alike) alike.same_stride alike.same_length
      (λ found is. at_laid (box_taken _ _ _ _ _ _ _ _ (decided_accepts _ _ found is).0).target)
      (λ _ _.
      halved_same (pixel a.bytes a.stride) (pixel b.bytes b.stride) a.width a.height
      same.same_pixels)

  pub box_halved_same : {dst dst' : Gray8} {new new' : List ℕ} {answer answer' : Result (Unit {0}) Refusal}
      → SameLayout dst dst' → BoxHalved a dst new answer → BoxHalved b dst' new' answer'
      → SameEnd (box_decision a dst) 0 (a.width / 2) (a.height / 2) dst.stride new new' answer answer'
  box_halved_same {answer = answer} {answer'} alike o o' =
      let e = box_ends alike o o' in
      record { same_answer = told_one answer answer' e.same_answer; same_pixels = e.same_pixels }

  -- ---- as many as stated

  module _ (count : ℕ) where
    pub halve_same : {dst dst' : Gray8} {n n' : ℕ} → SameLayout dst dst' → n ≡ n'
        → halve_decision count a dst n ≡ halve_decision count b dst' n'
    unfolding halve_refusal halving_refusal
    halve_same alike lent =
        rw (
          alike.same_length,
          alike.same_width,
          alike.same_height,
          alike.same_stride,
          lent,
          accepted same.laid,
          accepted same.laid',
          same.same_width,
          same.same_height,
        )

    -- whatever shows the decision
    pub halve_ends : {A : Type 0} {answers : Decision (Unit {0}) → A} {dst dst' : Gray8}
        {new new' scratch scratch₁ scratch' scratch₁' : List ℕ} {answer answer' : A} → SameLayout dst dst'
        → length scratch ≡ length scratch'
        → Outcome (halve_decision count a dst (length scratch)) answers (HalveWrites count a dst.stride) dst.bytes new
        scratch scratch₁ answer
        → Outcome (halve_decision count b dst' (length scratch')) answers (HalveWrites count b dst'.stride) dst'.bytes new'
        scratch' scratch₁' answer'
        → SameEnd (halve_decision count a dst (length scratch)) 0 (side_after count a.width)
        (side_after count a.height) dst.stride new new' answer answer'
    halve_ends alike lent =
        ends_alike_at (λ _. halved_times count (pixel a.bytes a.stride))
        (λ _. halved_times count (pixel b.bytes b.stride)) (side_after count a.width)
        (side_after count a.height) (ap (side_after count) same.same_width)
        (ap (side_after count) same.same_height) (halve_same alike lent) alike.same_stride alike.same_length
        (λ found is.
        let some = halve_taken _ _ _ _ _ _ _ _ _ _ (decided_accepts _ _ found is).0 in
        at_laid (halving_taken _ _ _ _ _ _ _ _ _ some.0).target)
        (λ _ _.
        times_same count (pixel a.bytes a.stride) (pixel b.bytes b.stride) a.width a.height
        same.same_pixels)

    pub halved_alike : {dst dst' : Gray8} {new new' scratch scratch₁ scratch' scratch₁' : List ℕ}
        {answer answer' : Result (Unit {0}) Refusal} → SameLayout dst dst' → length scratch ≡ length scratch'
        → Halved count a dst new scratch scratch₁ answer → Halved count b dst' new' scratch' scratch₁' answer'
        → SameEnd (halve_decision count a dst (length scratch)) 0 (side_after count a.width)
        (side_after count a.height) dst.stride new new' answer answer'
    halved_alike {answer = answer} {answer'} alike lent o o' =
        let e = halve_ends alike lent o o' in
        record { same_answer = told_one answer answer' e.same_answer; same_pixels = e.same_pixels }
