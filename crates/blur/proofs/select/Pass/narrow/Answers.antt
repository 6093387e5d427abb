-- The callees' contracts put together. The digit is below 8,192, so the prefix fits.
use Rattle.std.proofs.Common.{rules, ◌+◌, ◌<◌, arith, length}
use Rattle.blur.proofs.Steps.{pick_lt, narrows}
use Rattle.blur.proofs.select.Pass.narrow.Goals as goal

pub prefix_of-requires : goal.prefix_of-requires
prefix_of-requires c =
    let digit : c.choose-chosen.result.digit < 0 + length c.args.counts.now =
    rw c.choose-chosen.ensures
    (pick_lt c.args.counts.now 0 c.wanted.result (omega (arith, c.requires.digits))) in
    (omega (arith, digit, c.requires.digits), c.requires.room, c.requires.below)

pub returns : goal.returns
returns c =
    narrows _ _ _ c.choose-chosen.result c.wanted.result _ _ _ _ _ (search rules) c.wanted.ensures
    c.choose-chosen.ensures c.kept_of-kept.ensures c.saturating_sub-shift.ensures c.reach_of.ensures
    c.prefix_of.ensures (c.fill.ensures.after λ y e. e) c.requires.digits
