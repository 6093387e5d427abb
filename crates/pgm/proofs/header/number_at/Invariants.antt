use Rattle.std.proofs.Common.{◌≡◌, ◌≤◌, drop}
use Rattle.pgm.specs.Form.{on_from, value_of}
use Rattle.pgm.specs.Read.{digits_of, behind_digits}
use Rattle.pgm.specs.Held.{cut}
use Rattle.pgm.proofs.header.number_at.Given as goal

abbrev pub invariant-loop-i : goal.invariant-loop-i
invariant-loop-i l = record {
  small : l.value ≤ 1025;
  same_number : cut (on_from l.value (digits_of (drop l.i l.bytes))) ≡ cut (value_of (digits_of l.bytes));
  same_rest : behind_digits (drop l.i l.bytes) ≡ behind_digits l.bytes;
}
