use mathlib.Core.Path.{◌≡◌}
use Rattle.line.specs.Kernel.{window_at, MeansWritten}
use Rattle.line.proofs.mean.MeanSettings.means.Given as goal

abbrev pub invariant-loop-p : goal.invariant-loop-p
invariant-loop-p g l =
    MeansWritten l.self l.start l.p l.initial.scratch l.scratch × (l.sum ≡ window_at l.self l.initial.scratch l.p)
