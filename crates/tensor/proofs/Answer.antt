-- What the call decides, with a floor and without: where the layout is refused and where not, and at floor 0.
use mathlib.Core.List.{List}
use mathlib.Core.Path.{◌≡◌}
use Prim.Native.Nat.{ℕ}
use lib.ListN.{length}
use Rattle.image.specs.Call.{Gray8, gray8, accepts, decided}
use Rattle.image.specs.Picture.{pixel}
use Rattle.image.specs.Refusal.{layout_refusal}
use Rattle.tensor.specs.Confidence.{confidence_refusal, confident_decision}
use Rattle.tensor.specs.Tensor.{tensor_sums, picture_sums, estimate_of, direction_decision}
use Rattle.tensor.proofs.Floor.{passes_0}

module _ (xs : List ℕ) (w h s : ℕ) where
  pub direction_accepted : layout_refusal (length xs) w h s ≡ 0
      → direction_decision (gray8 xs w h s) ≡ accepts (estimate_of w h (tensor_sums (pixel xs s) w h))
  unfolding direction_decision
  direction_accepted e = simp e

  -- with a floor
  module _ (c : ℕ) where
    abbrev p : Gray8
    p = gray8 xs w h s

    module _ (e : layout_refusal (length xs) w h s ≡ 0) where
      pub confident_decided : confident_decision c p
          ≡ decided (confidence_refusal c w h (picture_sums p)) (estimate_of w h (picture_sums p))
      unfolding confident_decision
      confident_decided = simp e

-- floor 0 leaves nothing out
pub confident_0 : (src : Gray8) → confident_decision 0 src ≡ direction_decision src
unfolding confident_decision direction_decision
confident_0 src = let t = picture_sums src in simp (passes_0 src.width src.height t.a t.c t.e)
