-- `sharpen::kernel::sharpen_pixel` meets its contract.
use Rattle.std.proofs.Common.{arith}
use Rattle.sharpen.proofs.Binomial.{sharper_is}
use Rattle.sharpen.proofs.kernel.sharpen_pixel.Goals as goal

pub returns : goal.returns
returns c = omega (arith, sharper_is c.args.p c.args.sum)
