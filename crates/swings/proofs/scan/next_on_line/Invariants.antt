use mathlib.Core.Path.{◌≡◌}
use Prim.Native.Nat.{◌+◌, ◌-◌}
use Rattle.swings.specs.Samples.{samples_of}
use Rattle.swings.specs.Swings.{line_swings}
use Rattle.swings.proofs.scan.next_on_line.Given as goal

abbrev pub invariant-loop-a : goal.invariant-loop-a
invariant-loop-a l =
    let x = samples_of l.x in
    line_swings l.minimum_amplitude l.pixel x (l.x.last + 1) l.from ≡ line_swings l.minimum_amplitude l.pixel x
    (l.x.last + 1) l.a

abbrev pub decreases-loop-a : goal.decreases-loop-a
decreases-loop-a l = l.x.last - l.a
