use Rattle.std.proofs.Common.{◌*◌}
use Rattle.numbers.specs.Written.{Written, front}
use Rattle.resize.specs.Rows.{half_at}
use Rattle.resize.proofs.half.half_eights.Given as goal

abbrev pub invariant-loop-i : goal.invariant-loop-i
invariant-loop-i l = Written 0 (front (8 * l.i)) (half_at l.above l.below) l.initial.dst l.dst
