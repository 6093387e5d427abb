use lib.ListN.{length}
use Rattle.image.specs.View.{seen}
use Rattle.swings.specs.Scan.{rest}
use Rattle.swings.proofs.Filling.{At}
use Rattle.swings.proofs.kernel.store.Given as goal

abbrev pub invariant-loop-swing : goal.invariant-loop-swing
invariant-loop-swing l = At (seen l.lines.src) l.lines.plan l.initial.swings l.scan l.swings

abbrev pub decreases-loop-swing : goal.decreases-loop-swing
decreases-loop-swing l = length (rest (seen l.lines.src) l.lines.plan l.scan)
