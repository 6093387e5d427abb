-- What is left of the pass, with the state and the counts so far, comes to what the whole pass comes to, and may still
-- be done.
use Rattle.blur.proofs.Passing.{Turn}
use Rattle.blur.proofs.records.pass.Given as goal

abbrev pub invariant-loop-s : goal.invariant-loop-s
invariant-loop-s l = Turn l.swings l.fn.first l.fn.counts l.s-index l.a l.counts
