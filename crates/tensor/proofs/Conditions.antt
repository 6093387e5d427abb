-- The direction call is given each number in its condition and otherwise never (`direction_exactly`), with a floor too
-- (`confident_exactly`), whose own number is 17 (`confidence_matches`).
use mathlib.Core.List.{◌++◌}
use mathlib.Core.Logic.{◌↔◌}
use mathlib.Core.Path.{◌≡◌, sym, subst}
use Prim.Native.Nat.{ℕ}
use native.Mathlib.Omega.{arith}
use lib.ListN.{length}
use Rattle.numbers.proofs.Test.{false_iff}
use Rattle.image.specs.Call.{Gray8, decided, number_of}
use Rattle.image.specs.Conditions.{FirstMatch, Exactly, layout_conditions}
use Rattle.image.proofs.Call.{number_decided}
use Rattle.image.proofs.Chain.{cond_left}
use Rattle.image.proofs.Conditions.{exactly, match_none, match_unless, match_unless_decided}
use Rattle.image.proofs.Conditions.{layout_matches, layout_numbered, decided_exactly}
use Rattle.tensor.specs.Confidence.{Confident, confidence_refusal, confidence_conditions, confident_decision}
use Rattle.tensor.specs.Tensor.{TensorSums, picture_sums, estimate_of, direction_decision}
use Rattle.tensor.proofs.Floor.{passes_iff}

pub direction_exactly : (src : Gray8)
    → Exactly (layout_conditions (length src.bytes) src.width src.height src.stride)
    (number_of (direction_decision src))
unfolding direction_decision
direction_exactly src =
    decided_exactly (layout_matches (length src.bytes) src.width src.height src.stride) _

module _ (c w h : ℕ) (s : TensorSums) where
  pub confidence_matches : FirstMatch (confidence_conditions c w h s) (confidence_refusal c w h s)
  confidence_matches = match_unless 17 match_none (false_iff _ (passes_iff c s.a s.c s.e w h))

  -- 0 exactly where the floor is reached
  pub confidence_iff : (confidence_refusal c w h s ≡ 0) ↔ Confident c w h s.a s.c s.e
  confidence_iff =
      let iff = passes_iff c s.a s.c s.e w h in
      (λ e. iff.0 (cond_left _ 17 (omega arith) e), λ k. rw (iff.1 k))

pub confident_exactly : (c : ℕ) (src : Gray8)
    → Exactly (layout_conditions (length src.bytes) src.width src.height src.stride
    ++ confidence_conditions c src.width src.height (picture_sums src))
    (number_of (confident_decision c src))
unfolding confident_decision
confident_exactly c src =
    let len = length src.bytes in
    let w = src.width in
    let h = src.height in
    let sums = picture_sums src in
    let n = confidence_refusal c w h sums in
    let found = estimate_of w h sums in
    exactly
    (match_unless_decided (layout_matches len w h src.stride) (layout_numbered len w h src.stride)
    (decided n found)
    (subst (FirstMatch (confidence_conditions c w h sums)) (sym (number_decided n found))
    (confidence_matches c w h sums)))
