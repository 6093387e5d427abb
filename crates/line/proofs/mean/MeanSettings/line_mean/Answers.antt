-- `MeanSettings::line_mean` meets its contract: the edge, the middle and the edge, joined.
use borrow.Author.Rules.{rules}
use mathlib.Core.Path.{sym, ◌∙◌}
use native.Mathlib.Omega.{arith}
use mir.Syntax.{w64}
use Rattle.line.proofs.KernelSum.{told}
use Rattle.line.proofs.KernelMean.{asked_kept, window_kept, means_join}
use Rattle.line.proofs.mean.MeanSettings.line_mean.Goals as goal

pub means-at_tail-requires : goal.means-at_tail-requires
means-at_tail-requires c =
    let s = c.args.self in
    let written = c.means-at_half.ensures in
    record {
      asked = asked_kept s c.requires written.0;
      on = (omega arith, omega arith);
      inside = λ _. (omega arith, omega arith);
      sum = told {w = w64} (search rules) (written.1 ∙ sym (window_kept s c.requires written.0 _));
    }

pub means-requires-2 : goal.means-requires-2
means-requires-2 c =
    let s = c.args.self in
    let asked = asked_kept s c.requires c.means-at_half.ensures.0 in
    let written = c.means-at_tail.ensures in
    record {
      asked = asked_kept s asked written.0;
      on = (omega arith, omega arith);
      inside = search rules;
      sum = told {w = w64} (search rules) (written.1 ∙ sym (window_kept s asked written.0 _));
    }

pub returns : goal.returns
returns c =
    let s = c.args.self in
    let first = c.means-at_half.ensures.0 in
    means_join s c.requires
    (means_join s c.requires first c.means-at_tail.ensures.0 (omega arith) (omega arith))
    c.means-2.ensures.0 (omega arith) (omega arith)
