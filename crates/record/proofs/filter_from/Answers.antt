-- `record::filter_from` meets its contract.
use borrow.Author.Tests.{ne_eqb}
use Rattle.std.proofs.Common.{◌≡◌, arith}
use Rattle.record.specs.Record.{filter_from}
use Rattle.record.proofs.filter_from.Goals as goal

pub returns-in-1 : goal.returns-in-1
unfolding filter_from
returns-in-1 c = rw (c.in-1.is, c.if-fields-eq0.true, c.factor_of_q16-factor.ensures)

pub returns-in-1-2 : goal.returns-in-1-2
unfolding filter_from
returns-in-1-2 c =
    rw (c.in-1.is, ne_eqb c.args.fields.blur_length 0 c.if-fields-eq0.false, c.factor_of_q16-factor.ensures)

pub returns-in-2 : goal.returns-in-2
unfolding filter_from
returns-in-2 c = rw (c.in-2.is, c.factor_of_q16-factor.ensures)

pub returns-in-3 : goal.returns-in-3
unfolding filter_from
returns-in-3 c = rw c.in-3.is

pub returns-in_default : goal.returns-in_default
unfolding filter_from
returns-in_default c =
    let n = c.args.fields.head.filter in
    let a : n ≡ 1 → ⊥ = omega arith in
    let b : n ≡ 2 → ⊥ = omega arith in
    let d : n ≡ 3 → ⊥ = omega arith in
    rw (ne_eqb n 1 a, ne_eqb n 2 b, ne_eqb n 3 d)
