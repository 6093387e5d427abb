-- Laws of the cut to a byte.
use mathlib.Core.Path.{◌≡◌, refl}
use native.Mathlib.Omega.{arith}
use lib.IntN.{ℤ, pos, negsuc}
use lib.Signed.{◌≤ℤ◌}
use Rattle.numbers.specs.Scalar.{clamp_byte}
use Rattle.numbers.proofs.Int.Linear.{linear}

pub clamp_below : {z : ℤ} → z ≤ℤ pos 0 → clamp_byte z ≡ 0
clamp_below {z = pos n} h = omega (arith, linear)
clamp_below {z = negsuc n} h = refl

pub clamp_above : {z : ℤ} → pos 255 ≤ℤ z → clamp_byte z ≡ 255
clamp_above {z = pos n} h = omega (arith, linear)
clamp_above {z = negsuc n} h = omega (arith, linear)
