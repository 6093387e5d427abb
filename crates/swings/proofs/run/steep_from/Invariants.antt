use Rattle.swings.specs.Samples.{samples_of}
use Rattle.swings.proofs.Runs.{Left}
use Rattle.swings.proofs.run.steep_from.Given as goal

abbrev pub invariant-loop-at : goal.invariant-loop-at
invariant-loop-at l = Left (samples_of l.x) l.least l.x.last l.b l.a l.value l.rises l.v l.at
