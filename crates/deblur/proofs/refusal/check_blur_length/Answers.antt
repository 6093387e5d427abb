-- `deblur::refusal::check_blur_length` meets its contract.
use native.Mathlib.Omega.{arith}
use mathlib.Core.Logic.{inl, inr}
use Rattle.deblur.proofs.Refusals.{told_by, blur_length_7, blur_length_0}
use Rattle.deblur.proofs.refusal.check_blur_length.Goals as goal
use Rattle.deblur.proofs.refusal.check_blur_length.Goals.{then-length-lt3-via-then-length-lt3, then-length-lt3-via-else-length-lt3+then-length-eq0}

pub returns-then-length-lt3-clause-number : goal.returns-then-length-lt3-clause-number
returns-then-length-lt3-clause-number c =
    told_by
    (blur_length_7 _ _ _
    (elim c.then-length-lt3.branch [
      | then-length-lt3-via-then-length-lt3 w ↦ inl w.if-length-lt3.true
      | then-length-lt3-via-else-length-lt3+then-length-eq0 w ↦ inr (inl w.if-length-eq0.true)
    ]))

pub returns-then-length-max-clause-number : goal.returns-then-length-max-clause-number
returns-then-length-max-clause-number c = told_by (blur_length_7 _ _ _ (inr (inr (omega (arith, c.max.ensures)))))

pub returns-clause-number : goal.returns-clause-number
returns-clause-number c =
    told_by
    (blur_length_0 _ _ _ (record { least = omega arith; odd = omega arith; most = omega (arith, c.max.ensures) }))
