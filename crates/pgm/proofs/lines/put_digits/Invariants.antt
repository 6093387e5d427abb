use Rattle.std.proofs.Common.{◌≡◌, ◌++◌, length, drop}
use Rattle.pgm.specs.Write.{digits}
use Rattle.pgm.proofs.lines.put_digits.Given as goal

abbrev pub invariant-loop-place : goal.invariant-loop-place
invariant-loop-place l = digits l.place l.rest ++ drop l.place l.out ≡ digits (length l.initial.out) l.n
