-- `pgm::lines::put_digits` meets its contract: digits to come and digits put are the same at each turn.
use Rattle.std.proofs.Common.{◌∙◌, arith}
use Rattle.pgm.proofs.Digits.{digits_step, digits_done}
use Rattle.pgm.proofs.lines.put_digits.Goals as goal

pub loop-place-preserved : goal.loop-place-preserved
loop-place-preserved c =
    let k = c.loop-place in
    digits_step k.out k.place k.rest c.loop-place-test.true (omega arith) ∙ k.invariant

pub returns : goal.returns
returns c =
    let k = c.loop-place in
    digits_done k.out k.place k.rest c.loop-place-test.false ∙ k.invariant
