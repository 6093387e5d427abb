-- The length call is given each number in its condition and otherwise never (`length_exactly`), and 0 exactly where it
-- is accepted (`length_iff`).
use Prim.Native.Nat.{ℕ, ◌*◌}
use mathlib.Core.Bool.{cond}
use mathlib.Core.Logic.{◌↔◌}
use mathlib.Core.Path.{◌≡◌, refl}
use lib.Dec.{ltb}
use lib.Ieee.{Float}
use lib.ListN.{length}
use Rattle.std.specs.Prelude.{Option, Some, None}
use Rattle.image.specs.Call.{Gray8, number_of}
use Rattle.image.specs.Conditions.{Exactly}
use Rattle.image.specs.Refusal.{layout_refusal, first_refusal}
use Rattle.image.proofs.Call.{number_decided}
use Rattle.image.proofs.Conditions.{exactly, match_none, match_test, match_unless, match_then}
use Rattle.image.proofs.Conditions.{layout_matches, layout_numbered}
use Rattle.image.proofs.Accepted.{accepted}
use Rattle.numbers.proofs.Test.{ltb_iff}
use Rattle.raster.specs.Direction.{from_angle, angle_refusal}
use Rattle.raster.specs.declared.direction.RasterDirection4.{RasterDirection4}
use Rattle.raster.proofs.Snapped.{not_found_iff}
use Rattle.blur.specs.declared.length.LineLengthConfig.{LineLengthConfig}
use Rattle.blur.specs.Conditions.{length_conditions, LengthAccepted}
use Rattle.blur.specs.Length.{length_refusal, length_decision, snapped_decision}
use Rattle.blur.proofs.ScanPlans.{refusal_none, length_laid, enough_lent}

module _ (len w h stride lent : ℕ) where
  pub length_iff : (length_refusal len w h stride lent ≡ 0) ↔ LengthAccepted len w h stride lent
  length_iff = (
    λ e. record {
      picture = length_laid len w h stride lent e;
      records_least = enough_lent len w h stride lent e;
    },
    λ a. refusal_none len w h stride lent (accepted a.picture) a.records_least,
  )

-- 1 to 4, 7, 10
module _ (src : Gray8) (config : LineLengthConfig) (lent : ℕ) where
  snapped-number : (s : Option RasterDirection4)
      → number_of (snapped_decision src s config lent)
      ≡ first_refusal (layout_refusal (length src.bytes) src.width src.height src.stride)
      (first_refusal (angle_refusal s) (cond (ltb lent (src.width * src.height)) 10 0))
  unfolding length_decision
  snapped-number (Some d) = number_decided _ _
  snapped-number None = refl

  pub length_exactly : (angle : Float)
      → Exactly (length_conditions (length src.bytes) src.width src.height src.stride angle lent)
      (number_of (snapped_decision src (from_angle angle) config lent))
  length_exactly angle =
      exactly (rw (snapped-number (from_angle angle))
      (match_then (layout_matches (length src.bytes) src.width src.height src.stride)
      (layout_numbered (length src.bytes) src.width src.height src.stride)
      (match_then (match_unless 7 match_none (not_found_iff angle)) (tt, tt)
      (match_test 10 match_none (ltb_iff lent (src.width * src.height))))))
