use mathlib.Core.Path.{◌≡◌}
use Rattle.line.specs.Kernel.{opening}
use Rattle.line.proofs.mean.MeanSettings.opening_sum.Given as goal

abbrev pub invariant-loop-u : goal.invariant-loop-u
invariant-loop-u l = l.sum ≡ opening l.self l.scratch l.u
