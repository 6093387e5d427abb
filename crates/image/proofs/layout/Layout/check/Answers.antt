-- `image::Layout::check` meets its contract.
use Rattle.std.proofs.Common.{arith, sym, ap}
use Rattle.std.proofs.lemmas.Grind.{common_steps}
use Rattle.image.specs.Call.{decided}
use Rattle.image.specs.Refusal.{layout_refusal}
use Rattle.image.proofs.Accepted.{layout_3, layout_4, layout_0, short_of, long_of, laid}
use Rattle.image.proofs.Call.{decided_accepts}
use Rattle.image.proofs.layout.Layout.check.Goals as goal
use Rattle.image.proofs.layout.Layout.check.Goals.{then-self-2-via-then-self-2, then-self-2-via-else-self-2+then-self-3}

pub returns-in_err-check_sides-clause-number : goal.returns-in_err-check_sides-clause-number
unfolding layout_refusal
returns-in_err-check_sides-clause-number c = grind (arith, common_steps)

pub returns-then-self-clause-number : goal.returns-then-self-clause-number
returns-then-self-clause-number c =
    let taken = (decided_accepts _ _ _ (sym c.in_ok-check_sides.ensures.number)).0 in
    ap (λ n. decided n tt) (sym (layout_3 _ _ _ _ taken c.if-self.true))

pub returns-then-self-2-clause-number : goal.returns-then-self-2-clause-number
returns-then-self-2-clause-number c =
    let some = c.in_ok-check_sides.ensures.some in
    let taken = (decided_accepts _ _ _ (sym c.in_ok-check_sides.ensures.number)).0 in
    ap (λ n. decided n tt) (sym (layout_4 _ _ _ _ taken c.if-self.false
    (elim c.then-self-2.branch [
      | then-self-2-via-then-self-2 w ↦ omega arith
      | then-self-2-via-else-self-2+then-self-3 w ↦
          short_of _ _ _ _ (omega (arith, some)) (omega arith) w.if-self-3.true
    ])))

pub returns-clause-number : goal.returns-clause-number
returns-clause-number c =
    let some = c.in_ok-check_sides.ensures.some in
    let taken = (decided_accepts _ _ _ (sym c.in_ok-check_sides.ensures.number)).0 in
    ap (λ n. decided n tt) (sym (layout_0 _ _ _ _ taken c.if-self.false
    (long_of _ _ _ _ (omega (arith, some)) c.if-self-2.false c.if-self-3.false)))

pub returns-clause-laid : goal.returns-clause-laid
returns-clause-laid c =
    let some = c.in_ok-check_sides.ensures.some in
    let taken = (decided_accepts _ _ _ (sym c.in_ok-check_sides.ensures.number)).0 in
    laid (layout_0 _ _ _ _ taken c.if-self.false
    (long_of _ _ _ _ (omega (arith, some)) c.if-self-2.false c.if-self-3.false))
