-- `summary::kernel::Tally::add_all` meets its contract.
use Rattle.std.proofs.Common.{sym, ◌∙◌, refl}
use Rattle.std.proofs.lemmas.Result.{err_from_is_err_and}
use Rattle.summary.proofs.Answer.{part_held}
use Rattle.summary.proofs.Parts.{parts_step}
use Rattle.summary.proofs.Turn.{turns_end, turn_counted, turn_refused}
use Rattle.summary.proofs.kernel.Tally.add_all.Goals as goal

pub loop-part-init : goal.loop-part-init
loop-part-init c =
    rw c.into_iter-part-iterator.ensures.into_iter_gives
    (c.chunks-part-items.ensures.size, c.requires, rw c.chunks-part-items.ensures.rest refl)

pub add-requires : goal.add-requires
add-requires c = c.loop-part.invariant.1

pub loop-part-preserved : goal.loop-part-preserved
loop-part-preserved c =
    let k = c.loop-part in
    let steps = c.in-Some.ensures.steps in
    let step = steps.1 in
    let next = parts_step _ _ _ step.0 (rw k.invariant.0 at step.1) step.2 in
    let is = sym c.add.ensures ∙ c.in_ok-tally.was in (
      steps.0 ∙ k.invariant.0,
      part_held _ _ is k.invariant.1,
      turn_counted k.tally _ _ _ next _ is ∙ k.invariant.2,
    )

pub returns-in_err-tally : goal.returns-in_err-tally
returns-in_err-tally c =
    let k = c.loop-part in
    let step = c.in-Some.ensures.steps.1 in
    let next = parts_step _ _ _ step.0 (rw k.invariant.0 at step.1) step.2 in
    let p = err_from_is_err_and c.from_residual.result c.from_residual.ensures.1 in
    rw (p.1, p.2) (turn_refused k.tally _ _ _ next _ (sym c.add.ensures ∙ c.in_err-tally.was) ∙ k.invariant.2)

pub returns : goal.returns
returns c =
    let k = c.loop-part in
    let step = c.in-None.ensures.steps in
    turns_end k.tally _ step.1.0 ∙ k.invariant.2
