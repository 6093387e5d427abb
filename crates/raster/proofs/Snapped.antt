-- Document 02, K7: an angle has a direction exactly where its value in degrees is finite (`found_iff`, `nothing_iff`),
-- which only a finite angle has (`degrees_finite`), and it is the one that it was (`as_before`).
use mathlib.Core.Bool.{Bool, true, false, cond, false≢true}
use mathlib.Core.Logic.{inr, ⊎_elim, ◌↔◌}
use mathlib.Core.Path.{◌≡◌, refl, sym, ap, ◌∙◌}
use lib.Ieee.{Float, nan, inf, fin, of_bits, mul}
use lib.Ieee.Scale.{finite}
use Rattle.numbers.proofs.Test.{bool_cases, and_false_right}
use Rattle.raster.specs.Before.{rest_before, half_turn_before, direction_before}
use Rattle.raster.specs.Direction.{in_degrees, signed_rest, half_turn, nearest_to, from_angle, NoDirection}
use Rattle.raster.specs.declared.direction.RasterDirection4.{RasterDirection4}
use Rattle.std.specs.Prelude.{Some, None, is_some}

-- ---- degrees

-- the product of what is not finite is not finite
pub degrees_finite : (angle : Float) → finite (in_degrees angle) ≡ true → finite angle ≡ true
unfolding in_degrees mul of_bits
degrees_finite nan e = e
degrees_finite (inf s) e = e
degrees_finite (fin s m e') e = refl

-- ---- the answer, by the degrees alone

module _ (angle : Float) where
  pub found_nearest : finite (in_degrees angle) ≡ true → from_angle angle ≡ Some (nearest_to (in_degrees angle))
  unfolding from_angle
  found_nearest e = rw (degrees_finite angle e, e)

  pub is_nothing : finite (in_degrees angle) ≡ false → from_angle angle ≡ None
  unfolding from_angle
  is_nothing e =
      ap (λ (t : Bool). cond t (Some (nearest_to (in_degrees angle))) None) (and_false_right (finite angle) e)

  -- "either a direction or that there is none", by the degrees
  pub by_degrees : is_some (from_angle angle) ≡ finite (in_degrees angle)
  by_degrees = ⊎_elim (λ e. ap is_some (found_nearest e) ∙ sym e) (λ e. ap is_some (is_nothing e) ∙ sym e)
      (bool_cases (finite (in_degrees angle)))

  pub found_iff : (is_some (from_angle angle) ≡ true) ↔ (finite (in_degrees angle) ≡ true)
  found_iff = (λ e. sym by_degrees ∙ e, λ e. by_degrees ∙ e)

  pub found_finite : is_some (from_angle angle) ≡ true → finite angle ≡ true
  found_finite e = degrees_finite angle (found_iff.0 e)

  infinite-degrees : finite angle ≡ false → finite (in_degrees angle) ≡ false
  infinite-degrees z = ⊎_elim (λ e. absurd (false≢true (sym z ∙ degrees_finite angle e))) (λ e. e)
      (bool_cases (finite (in_degrees angle)))

  -- none exactly where "the angle or its value in degrees isn't finite"
  pub not_found_iff : (is_some (from_angle angle) ≡ false) ↔ NoDirection angle
  not_found_iff = (λ e. inr (sym by_degrees ∙ e), λ n. by_degrees ∙ ⊎_elim infinite-degrees (λ z. z) n)

  pub nothing_iff : (from_angle angle ≡ None) ↔ NoDirection angle
  nothing_iff = (λ e. not_found_iff.0 (ap is_some e), λ n. is_nothing (sym by_degrees ∙ not_found_iff.1 n))

  -- ---- what it was

  pub as_before : (d : RasterDirection4) → from_angle angle ≡ Some d → d ≡ direction_before angle
  unfolding direction_before half_turn_before rest_before nearest_to half_turn signed_rest in_degrees
  as_before d e = let n = found_nearest (found_iff.0 (ap is_some e)) in cc

  pub same_as_before : finite (in_degrees angle) ≡ true → from_angle angle ≡ Some (direction_before angle)
  same_as_before e = found_nearest e ∙ ap Some (as_before _ (found_nearest e))
