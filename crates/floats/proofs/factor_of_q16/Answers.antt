-- `floats::factor_of_q16` meets its contract, once the scale as a double is computed.
use Rattle.std.proofs.Common.{refl}
use lib.Ieee.{of_bits}
use Rattle.floats.specs.Factor.{factor_of}
use Rattle.floats.proofs.factor_of_q16.Goals as goal

pub returns : goal.returns
unfolding factor_of of_bits
returns c = refl
