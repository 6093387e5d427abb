use Rattle.std.proofs.Common.{◌+◌}
use Rattle.numbers.specs.Written.{Written, front, part}
use Rattle.resize.specs.Rows.{half_at}
use Rattle.resize.proofs.half.half_eight.Given as goal

abbrev pub invariant-loop-i : goal.invariant-loop-i
invariant-loop-i l =
    Written 0 (front l.i) (λ i. half_at l.above l.below (l.x + i)) l.initial.mean-items l.mean-items

abbrev pub invariant-loop-i-2 : goal.invariant-loop-i-2
invariant-loop-i-2 l = Written 0 (part l.x l.i) (half_at l.above l.below) l.initial.dst l.dst
