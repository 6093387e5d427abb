use mathlib.Core.Path.{◌≡◌}
use Prim.Native.Nat.{ℕ, ◌-◌}
use lib.IntN.{pos}
use lib.Signed.{lt_z}
use Rattle.swings.specs.Runs.{runs_from, slope_of}
use Rattle.swings.specs.Samples.{samples_of}
use Rattle.swings.proofs.run.slope_end.Given as goal

abbrev pub invariant-loop-at : goal.invariant-loop-at
invariant-loop-at l =
    let x = samples_of l.x in
    let slope = slope_of (lt_z (pos 0) l.slope) in
    (l.v ≡ x l.at)
    × ((a : ℕ) → runs_from x a slope l.from (l.x.last - l.from) ≡ runs_from x a slope l.at (l.x.last - l.at))
