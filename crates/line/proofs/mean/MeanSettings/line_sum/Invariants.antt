use mathlib.Core.Path.{◌≡◌}
use Rattle.numbers.specs.Sum.{total}
use Rattle.line.specs.Kernel.{line_at}
use Rattle.line.proofs.mean.MeanSettings.line_sum.Given as goal

abbrev pub invariant-loop-i : goal.invariant-loop-i
invariant-loop-i l = l.sum ≡ total (line_at l.self.n l.scratch) 0 l.i
