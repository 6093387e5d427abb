-- The counts are 0, and the state is what the passes so far leave.
use Rattle.blur.proofs.Selecting.{At}
use Rattle.blur.proofs.records.select.Given as goal

abbrev pub invariant-loop-a : goal.invariant-loop-a
invariant-loop-a l = At l.swings l.fn.first l.a l.counts

abbrev pub decreases-loop-a : goal.decreases-loop-a
decreases-loop-a l = l.a.left
