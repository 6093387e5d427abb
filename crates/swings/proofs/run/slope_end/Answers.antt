-- `swings::run::slope_end`: at each turn the runs that are left at sample `at` are those that are left at sample `from`,
-- wherever the present run began.
use mathlib.Core.Path.{sym, ◌∙◌}
use native.Mathlib.Omega.{arith}
use mir.Syntax.{w32}
use mir.Facts.{to_z-of_z}
use Rattle.swings.proofs.Runs.{ends_turned, ends_line}
use Rattle.swings.proofs.run.slope_end.Goals as goal

pub returns-then-opposes : goal.returns-then-opposes
returns-then-opposes c =
    rw (to_z-of_z {w = w32} c.ranges.slope) at
    (ends_turned _ _ _ _ _ (omega arith) (omega arith) c.loop-at.invariant.1 c.loop-at-test.true c.loop-at.invariant.0
    c.at-w.ensures (sym c.opposes.ensures ∙ c.if-opposes.true))

pub returns : goal.returns
returns c =
    rw (to_z-of_z {w = w32} c.ranges.slope) at
    (ends_line _ _ _ _ _ (omega arith) (omega arith) c.loop-at.invariant.1 c.loop-at-test.false)
