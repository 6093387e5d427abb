-- `summary::kernel::Tally::added` meets its contract.
use Rattle.std.proofs.Common.{◌≡◌, sym, ◌∙◌, refl, true, false}
use Rattle.summary.specs.Sheet.{is_line, is_binomial}
use Rattle.summary.specs.Tally.{added}
use Rattle.summary.proofs.kernel.Tally.added.Goals as goal
use Rattle.summary.proofs.kernel.Tally.added.Goals.{then-is_line+in-Horizontal, then-is_line+in-DownRight, then-is_line+in-Vertical, then-is_line+in-DownLeft, else-is_line}

pub returns-then-is_binomial : goal.returns-then-is_binomial
unfolding added
returns-then-is_binomial c =
    let r = c.args.«record» in
    let b : is_binomial r ≡ true = sym c.is_binomial.ensures ∙ c.if-is_binomial.true in
    elim c.if-is_line.branch [
      | then-is_line+in-Horizontal w ↦ let l : is_line r ≡ true = sym c.is_line.ensures ∙ w.if-is_line.true in
          rw (w.tally-is, b, l, w.in-Horizontal.is, w.added.ensures) refl
      | then-is_line+in-DownRight w ↦ let l : is_line r ≡ true = sym c.is_line.ensures ∙ w.if-is_line.true in
          rw (w.tally-is, b, l, w.in-DownRight.is, w.added-in-DownRight.ensures) refl
      | then-is_line+in-Vertical w ↦ let l : is_line r ≡ true = sym c.is_line.ensures ∙ w.if-is_line.true in
          rw (w.tally-is, b, l, w.in-Vertical.is, w.added-in-Vertical.ensures) refl
      | then-is_line+in-DownLeft w ↦ let l : is_line r ≡ true = sym c.is_line.ensures ∙ w.if-is_line.true in
          rw (w.tally-is, b, l, w.in-DownLeft.is, w.added-in-DownLeft.ensures) refl
      | else-is_line w ↦ let l : is_line r ≡ false = sym c.is_line.ensures ∙ w.if-is_line.false in rw (w.tally-is, b, l) refl
    ]

pub returns-else-is_binomial : goal.returns-else-is_binomial
unfolding added
returns-else-is_binomial c =
    let r = c.args.«record» in
    let b : is_binomial r ≡ false = sym c.is_binomial.ensures ∙ c.if-is_binomial.false in
    elim c.if-is_line.branch [
      | then-is_line+in-Horizontal w ↦ let l : is_line r ≡ true = sym c.is_line.ensures ∙ w.if-is_line.true in
          rw (w.tally-is, b, l, w.in-Horizontal.is, w.added.ensures) refl
      | then-is_line+in-DownRight w ↦ let l : is_line r ≡ true = sym c.is_line.ensures ∙ w.if-is_line.true in
          rw (w.tally-is, b, l, w.in-DownRight.is, w.added-in-DownRight.ensures) refl
      | then-is_line+in-Vertical w ↦ let l : is_line r ≡ true = sym c.is_line.ensures ∙ w.if-is_line.true in
          rw (w.tally-is, b, l, w.in-Vertical.is, w.added-in-Vertical.ensures) refl
      | then-is_line+in-DownLeft w ↦ let l : is_line r ≡ true = sym c.is_line.ensures ∙ w.if-is_line.true in
          rw (w.tally-is, b, l, w.in-DownLeft.is, w.added-in-DownLeft.ensures) refl
      | else-is_line w ↦ let l : is_line r ≡ false = sym c.is_line.ensures ∙ w.if-is_line.false in rw (w.tally-is, b, l) refl
    ]
