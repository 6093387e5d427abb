-- `swings::scan::next_on_line`: at each turn the swings from sample a on are those from sample `from` on.
use mathlib.Core.Path.{sym, ◌∙◌}
use Rattle.swings.proofs.LineSwings.{swings_nothing, swings_passed}
use Rattle.swings.proofs.scan.next_on_line.Goals as goal

pub loop-a-preserved : goal.loop-a-preserved
loop-a-preserved c =
    c.loop-a.invariant
    ∙ swings_nothing _ _ _ _ c.requires _ _ c.in_ok-b.ensures (sym c.rise_of.ensures ∙ c.in_default.is)
    ∙ swings_passed _ _ _ _ c.requires _ _ c.steep_from-a.ensures
