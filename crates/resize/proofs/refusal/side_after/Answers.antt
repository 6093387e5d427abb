-- `resize::refusal::side_after` meets its contract: the halvings left give the same side at each turn.
use Rattle.std.proofs.Common.{◌≡◌, ◌-◌, sym, ◌∙◌, arith}
use Rattle.resize.proofs.Sides.{side_step, side_none}
use Rattle.resize.proofs.refusal.side_after.Goals as goal

pub loop-preserved : goal.loop-preserved
loop-preserved c = side_step _ c.loop.counter c.loop.now c.loop-test.true ∙ c.loop.invariant

pub returns : goal.returns
returns c =
    let k = c.loop in
    let e : c.args.count - k.counter ≡ 0 = omega arith in
    sym (side_none k.now) ∙ rw e at k.invariant
