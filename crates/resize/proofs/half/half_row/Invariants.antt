use Rattle.std.proofs.Common.{◌-◌}
use Rattle.numbers.specs.Written.{Written, part}
use Rattle.resize.specs.Rows.{half_at}
use Rattle.resize.proofs.half.half_row.Given as goal

abbrev pub invariant-loop-x : goal.invariant-loop-x
invariant-loop-x l = Written 0 (part l.initial.x (l.x - l.initial.x)) (half_at l.above l.below) l.initial.dst l.dst
