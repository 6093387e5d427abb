-- `RasterDirection4::from_angle` meets its contract: by whether the degrees are finite. Assumes nothing.
use mathlib.Core.Path.{sym, ap, ◌∙◌}
use Rattle.raster.specs.Direction.{in_degrees}
use Rattle.std.specs.Prelude.{Some}
use Rattle.floats.proofs.Finite.{is_finite_is}
use Rattle.raster.proofs.Snapped.{found_nearest, is_nothing}
use Rattle.raster.proofs.direction.RasterDirection4.from_angle.Goals as goal

pub returns-then-is_finite : goal.returns-then-is_finite
unfolding in_degrees
returns-then-is_finite c =
    ap Some c.nearest_to.ensures
    ∙ sym (found_nearest c.args.theta_radians (sym (is_finite_is _) ∙ sym c.is_finite.ensures.value ∙ c.if-is_finite.true))

pub returns : goal.returns
unfolding in_degrees
returns c =
    sym (is_nothing c.args.theta_radians (sym (is_finite_is _) ∙ sym c.is_finite.ensures.value ∙ c.if-is_finite.false))
