-- A turn is a round of the selection (`Selecting`); the last leaves the median's bit pattern.
use Rattle.std.proofs.Common.{◌∙◌, arith}
use Rattle.blur.proofs.Selected.{passes_number, passes_length}
use Rattle.blur.proofs.Selecting.{starts, passable, narrowable_after, after, less_after}
use Rattle.blur.proofs.records.select.Goals as goal

pub loop-a-init : goal.loop-a-init
loop-a-init c = starts _ _ c.requires

pub pass-b-requires : goal.pass-b-requires
pass-b-requires c = passable _ _ c.requires c.loop-a.invariant c.loop-a-test.true

pub narrow-a-requires : goal.narrow-a-requires
narrow-a-requires c =
    narrowable_after _ _ c.requires c.loop-a.invariant c.loop-a-test.true (c.pass-b.result, c.pass-b.new.counts)
    c.pass-b.ensures

pub loop-a-smaller : goal.loop-a-smaller
loop-a-smaller c =
    less_after _ _ c.requires c.loop-a.invariant c.loop-a-test.true (c.pass-b.result, c.pass-b.new.counts)
    c.pass-b.ensures (c.narrow-a.result, c.narrow-a.new.counts) c.narrow-a.ensures

pub loop-a-preserved : goal.loop-a-preserved
loop-a-preserved c =
    after _ _ c.requires c.loop-a.invariant c.loop-a-test.true (c.pass-b.result, c.pass-b.new.counts)
    c.pass-b.ensures (c.narrow-a.result, c.narrow-a.new.counts) c.narrow-a.ensures

pub answer-requires : goal.answer-requires
answer-requires c =
    passes_number c.args.swings.now c.loop-a.a c.loop-a.invariant.known c.requires.widths
    (omega (arith, c.loop-a-test.false))

pub returns : goal.returns
returns c =
    c.answer.ensures
    ∙ passes_length c.args.swings.now c.loop-a.a c.args.minimum c.loop-a.invariant.known c.requires.widths
    (omega (arith, c.loop-a-test.false))
