-- `swings::scan::Scanner::next_swing`: at each turn the swings from the place that is reached on are those from the place given
-- on.
use mathlib.Core.Path.{◌∙◌}
use Rattle.image.specs.View.{seen}
use Rattle.swings.proofs.Opened.{open_within, found_open, found_here, next_here, none_left, opened_on}
use Rattle.swings.proofs.scan.Scanner.next_swing.Goals as goal

pub next_here-requires : goal.next_here-requires
next_here-requires c = open_within (seen c.args.self.src) c.args.self.plan c.args.self.valid _ c.loop-swing.invariant.0

pub returns-in-Some : goal.returns-in-Some
returns-in-Some c =
    let src = seen c.args.self.src in
    let p = c.args.self.plan in
    let o = c.loop-swing.invariant.0 in
    let e = c.in-Some.ensures in
    record {
      list = c.loop-swing.invariant.1
          ∙ found_here src p c.args.self.valid _ o c.args.least c.in-Some.swing c.in-Some.at e;
      opened = opened_on src p _ c.in-Some.at o
          (found_open src p c.args.self.valid _ o c.args.least c.in-Some.swing c.in-Some.at e);
    }

pub returns-in_err-place : goal.returns-in_err-place
returns-in_err-place c =
    let src = seen c.args.self.src in
    let p = c.args.self.plan in
    rw c.from_residual.ensures (record {
      list = c.loop-swing.invariant.1
          ∙ none_left src p c.args.self.valid _ c.loop-swing.invariant.0 c.args.least c.in_default.ensures
          c.in_err-place.ensures;
      opened = tt;
    })

pub loop-swing-preserved : goal.loop-swing-preserved
loop-swing-preserved c =
    let p = c.args.self.plan in
    let q = c.in_ok-place.ensures in (
      q.0,
      c.loop-swing.invariant.1
          ∙ next_here (seen c.args.self.src) p c.args.self.valid _ c.loop-swing.invariant.0 c.args.least
          c.in_default.ensures c.in_ok-place.place q.1 q.2,
    )
