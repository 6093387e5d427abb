-- What the specs have for finite is what std's `f64::is_finite` answers.
use Rattle.std.proofs.Common.{◌≡◌, refl}
use Rattle.std.specs.Float.{float_is_finite}
use lib.Ieee.{Float, nan, inf, fin}
use lib.Ieee.Scale.{finite}

pub is_finite_is : (x : Float) → float_is_finite x ≡ finite x
unfolding float_is_finite
is_finite_is nan = refl
is_finite_is (inf s) = refl
is_finite_is (fin s m e) = refl
