-- `resize::half::half_row` meets its contract: the eights, and then column x is the next one.
use Rattle.std.proofs.Common.{◌≤◌, arith}
use Rattle.numbers.proofs.Places.{part_last}
use Rattle.numbers.proofs.Written.{written_none, written_join, written_set}
use Rattle.resize.proofs.Means.{up_none, up_all}
use Rattle.resize.proofs.half.half_row.Goals as goal

pub loop-x-init : goal.loop-x-init
loop-x-init c = written_none (λ j _. up_none _ j)

pub loop-x-preserved : goal.loop-x-preserved
loop-x-preserved c =
    let k = c.loop-x in
    written_set k.x _ k.invariant (omega arith) c.mean_at.ensures (part_last _ _ k.x _ (omega arith) (omega arith))

pub returns : goal.returns
returns c =
    let k = c.loop-x in
    let wrote = c.half_eights-x.ensures in
    let most : c.half_eights-x.result ≤ k.x = k.auto.x in
    written_join wrote.1 k.invariant (up_all _ k.x _ most (omega (arith, wrote.0, wrote.1.same_length)))
