-- `swings::kernel::store`: at each turn the swings so far stand at the front of the records.
use Rattle.image.specs.View.{seen}
use Rattle.swings.proofs.Filling.{filled, after}
use Rattle.swings.proofs.kernel.store.Goals as goal

pub loop-swing-preserved : goal.loop-swing-preserved
loop-swing-preserved c =
    after (seen c.args.lines.src) c.args.lines.plan c.args.swings.now c.loop-swing.invariant c.requires c.in-Some.ensures

pub returns : goal.returns
returns c =
    filled (seen c.args.lines.src) c.args.lines.plan c.args.swings.now c.loop-swing.invariant c.in_default.ensures
    c.bytes_fit.ensures
