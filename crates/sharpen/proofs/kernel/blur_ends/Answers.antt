-- `sharpen::kernel::blur_ends` meets its contract: the columns from the start up to x are written.
use Rattle.std.proofs.Common.{arith, ◌+◌, ◌-◌, ◌≡◌}
use Rattle.numbers.proofs.Places.{part_none, part_last}
use Rattle.numbers.proofs.Written.{written_none, written_set}
use Rattle.sharpen.proofs.kernel.blur_ends.Goals as goal

pub loop-x-init : goal.loop-x-init
loop-x-init c =
    let a = c.args in
    let e : a.start - a.start ≡ 0 = omega arith in
    written_none (λ j _. rw e (part_none a.start j))

pub loop-x-preserved : goal.loop-x-preserved
loop-x-preserved c =
    let k = c.loop-x in
    let a = c.args.start in
    written_set k.x _ k.invariant (omega arith) c.column_sum.ensures
    (part_last a (k.x - a) k.x (k.x + 1 - a) (omega arith) (omega arith))
