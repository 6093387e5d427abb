use Rattle.std.proofs.Common.{◌-◌}
use Rattle.numbers.specs.Written.{Written, part}
use Rattle.sharpen.specs.Passes.{sum_at}
use Rattle.sharpen.proofs.kernel.blur_ends.Given as goal

abbrev pub invariant-loop-x : goal.invariant-loop-x
invariant-loop-x l = Written 0 (part l.start (l.x - l.start)) (sum_at l.row) l.initial.out l.out
