-- `sharpen::kernel::blur_row` meets its contract.
use Rattle.std.proofs.Common.{arith, refl}
use Rattle.std.proofs.Math.Nat.{sub-zero}
use Rattle.numbers.proofs.Written.{written_same}
use Rattle.sharpen.proofs.Places.{part_front}
use Rattle.sharpen.proofs.Rows.{row_written, sum_most}
use Rattle.sharpen.proofs.kernel.blur_row.Goals as goal

pub returns-then-n-lt5 : goal.returns-then-n-lt5
returns-then-n-lt5 c = record {
  sums = written_same (rw sub-zero at c.blur_ends.ensures) (λ j _. part_front _ j) (λ j _ _. refl);
  most = λ x. sum_most c.args.row.now x (λ i. omega (arith, c.type_inv.row i));
}

pub returns : goal.returns
returns c = record {
  sums = row_written c.args.row.now _ _ _ _ c.if-n-lt5.false c.requires.0 c.blur_ends-2.ensures c.blur_inside.ensures
      c.blur_ends-3.ensures;
  most = λ x. sum_most c.args.row.now x (λ i. omega (arith, c.type_inv.row i));
}
