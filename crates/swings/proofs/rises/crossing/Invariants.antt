use mathlib.Core.Path.{◌≡◌}
use Prim.Native.Nat.{◌-◌}
use Rattle.swings.specs.Samples.{samples_of}
use Rattle.swings.specs.Rise.{double, crossing_of}
use Rattle.swings.proofs.rises.crossing.Given as goal

abbrev pub invariant-loop-i : goal.invariant-loop-i
invariant-loop-i l =
    let x = samples_of l.x in
    (l.v0 ≡ double x l.i)
    × (crossing_of x l.rising l.level l.i (l.b - l.i) ≡ crossing_of x l.rising l.level l.a (l.b - l.a))
