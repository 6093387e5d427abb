-- `resize::refusal::check_halving` meets its contract: 18 is what is left of the sides.
use Rattle.std.proofs.Common.{sym, ◌∙◌, arith}
use Rattle.std.proofs.lemmas.Grind.{common_steps}
use Rattle.std.proofs.lemmas.Result.{IfOk-weaker}
use Rattle.image.proofs.Call.{decided_accepts}
use Rattle.resize.proofs.Refusals.{count_left, halving_left}
use Rattle.resize.proofs.refusal.check_halving.Goals as goal

pub returns-in_err-check_left-clause-number : goal.returns-in_err-check_left-clause-number
returns-in_err-check_left-clause-number c =
    rw (halving_left _ _ _ _ _ _ _ _ _ c.in_ok-check.ensures.laid c.if-count-gt-MAX_HALVINGS.false
    c.side_after-width.ensures c.side_after-height.ensures)
    (grind (arith, common_steps))

pub returns-clause-number : goal.returns-clause-number
returns-clause-number c =
    rw (halving_left _ _ _ _ _ _ _ _ _ c.in_ok-check.ensures.laid c.if-count-gt-MAX_HALVINGS.false
    c.side_after-width.ensures c.side_after-height.ensures)
    (grind (arith, common_steps))

pub returns-clause-laid : goal.returns-clause-laid
returns-clause-laid c =
    let l = c.in_ok-check.ensures.laid in
    let left = (decided_accepts _ _ _ (sym c.in_ok-check_left.ensures)).0 in
    IfOk-weaker c.check_destination.result _ _
    (λ _ target. record {
      source = l;
      starts =
          count_left _ _ _ c.if-count-gt-MAX_HALVINGS.false l.width_pos l.height_pos
          ∙ rw (c.side_after-width.ensures, c.side_after-height.ensures) at left;
      target = rw (c.side_after-width.ensures, c.side_after-height.ensures) at target;
    })
    c.check_destination.ensures.laid
