-- Sums that can be added and doubled in 64 bits.
use Prim.Native.Nat.{◌+◌, ◌^◌, ◌<◌}
use native.Mathlib.Omega.{arith}
use lib.IntN.{ℤ, nat_abs}
use Rattle.tensor.specs.Tensor.{Small}

pub pair_small : {A C E : ℤ} → Small A C E → nat_abs A + nat_abs E < 2 ^ 63
pair_small s = omega (arith, s.small_a, s.small_e)
