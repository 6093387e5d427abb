-- `resize::half::half_eight` meets its contract: the first i means are computed, and then written.
use Rattle.std.proofs.Common.{◌≡◌, ◌+◌, arith}
use Rattle.numbers.proofs.Places.{front_none, front_next, front_iff, part_none, part_next}
use Rattle.numbers.proofs.Written.{written_none, written_set}
use Rattle.resize.proofs.half.half_eight.Goals as goal

pub loop-i-init : goal.loop-i-init
loop-i-init c = written_none (λ j _. front_none j)

pub loop-i-preserved : goal.loop-i-preserved
loop-i-preserved c =
    let k = c.loop-i in
    written_set k.i _ k.invariant (omega (arith, k.invariant.same_length)) c.mean_at.ensures (front_next k.i)

pub loop-i-2-init : goal.loop-i-2-init
loop-i-2-init c = written_none (λ j _. part_none c.args.x j)

pub loop-i-2-preserved : goal.loop-i-2-preserved
loop-i-2-preserved c =
    let k = c.loop-i-2 in
    let all : c.loop-i.i ≡ 8 = omega arith in
    let W = c.loop-i.invariant in
    let at = W.hits k.i (omega arith) ((front_iff c.loop-i.i k.i).1 (omega arith)) in
    written_set (c.args.x + k.i) _ k.invariant (omega (arith, c.requires.x_in_bounds)) at (part_next c.args.x k.i)
