-- `sharpen::kernel::blur_inside` meets its contract: the first x columns are written.
use Rattle.std.proofs.Common.{arith}
use Rattle.numbers.proofs.Places.{front_none, front_next}
use Rattle.numbers.proofs.Written.{written_none, written_set}
use Rattle.sharpen.proofs.kernel.blur_inside.Goals as goal

pub loop-x-init : goal.loop-x-init
loop-x-init c = written_none (λ j _. front_none j)

pub loop-x-preserved : goal.loop-x-preserved
loop-x-preserved c =
    let k = c.loop-x in
    written_set k.x _ k.invariant (omega arith) c.weigh_bytes.ensures (front_next k.x)
