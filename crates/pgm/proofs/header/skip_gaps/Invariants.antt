use Rattle.std.proofs.Common.{◌≡◌, false, drop}
use Rattle.pgm.specs.Read.{behind_gaps}
use Rattle.pgm.proofs.header.skip_gaps.Given as goal

abbrev pub invariant-loop-i : goal.invariant-loop-i
invariant-loop-i l = behind_gaps l.comment (drop l.i l.bytes) ≡ behind_gaps false l.bytes
