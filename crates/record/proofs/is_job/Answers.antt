-- `record::is_job` meets its contract.
use lib.Dec.{eqb}
use Rattle.std.proofs.Common.{sym}
use Rattle.numbers.proofs.Test.{and_false_right}
use Rattle.raster.specs.Direction.{direction_index}
use Rattle.record.specs.Record.{is_job}
use Rattle.record.proofs.Doubles.{tested, bits_not_zero}
use Rattle.record.proofs.is_job.Goals as goal

pub returns-then-not-is_finite : goal.returns-then-not-is_finite
unfolding is_job
returns-then-not-is_finite c =
    let r = c.args.«record» in
    sym (and_false_right (eqb (direction_index r.direction) 0)
    (bits_not_zero r.estimate (tested _ c.is_finite.ensures.value c.if-not-is_finite.true)))
