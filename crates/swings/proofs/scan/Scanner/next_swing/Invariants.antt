use mathlib.Core.Path.{◌≡◌}
use Prim.Native.Nat.{◌-◌}
use Rattle.image.specs.View.{seen}
use Rattle.swings.specs.Line.{lines_on}
use Rattle.swings.specs.Scan.{Open, swings_at}
use Rattle.swings.proofs.scan.Scanner.next_swing.Given as goal

abbrev pub invariant-loop-swing : goal.invariant-loop-swing
invariant-loop-swing l =
    let lines = lines_on (seen l.self.src) l.self.plan in
    Open (seen l.self.src) l.self.plan l.place
    × (swings_at l.least l.self.plan.pixel lines l.fn.from ≡ swings_at l.least l.self.plan.pixel lines l.place)

abbrev pub decreases-loop-swing : goal.decreases-loop-swing
decreases-loop-swing l = l.self.plan.count - l.place.line
