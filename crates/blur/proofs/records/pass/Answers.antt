-- A turn takes one record's step (`Passing`).
use Rattle.std.proofs.Common.{arith}
use Rattle.blur.proofs.Passing.{asked, turned}
use Rattle.blur.proofs.records.pass.Goals as goal

pub tally-a-requires : goal.tally-a-requires
tally-a-requires c = asked _ _ _ c.loop-s.invariant _ (omega arith)

pub loop-s-preserved : goal.loop-s-preserved
loop-s-preserved c = turned _ _ _ c.loop-s.invariant _ (omega arith) c.tally-a.ensures
