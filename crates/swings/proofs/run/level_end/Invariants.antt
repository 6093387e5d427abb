use mathlib.Core.Path.{◌≡◌}
use Prim.Native.Nat.{◌-◌}
use Rattle.swings.specs.Runs.{Level, runs_from, runs_up_to}
use Rattle.swings.specs.Samples.{samples_of}
use Rattle.swings.proofs.run.level_end.Given as goal

abbrev pub invariant-loop-i : goal.invariant-loop-i
invariant-loop-i l =
    let x = samples_of l.x in
    (l.v ≡ x l.i) × (runs_up_to x l.x.last l.a ≡ runs_from x l.a Level l.i (l.x.last - l.i))
