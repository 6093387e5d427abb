-- `record::is_factor` meets its contract.
use Rattle.std.proofs.Common.{arith, ap, ◌∙◌, ◌≡◌, true}
use lib.Ieee.{is_nan}
use lib.Ieee.Scale.{finite}
use Rattle.record.specs.Record.{is_factor}
use Rattle.record.proofs.Doubles.{tested, finite_number, not_nan, factor_finite}
use Rattle.record.proofs.is_factor.Goals as goal

pub float_to_bits-result : goal.float_to_bits-result
float_to_bits-result c =
    let finite = factor_finite c.args.q (omega arith) in
    not_nan _ (ap is_nan c.factor_of_q16.ensures ∙ finite_number _ finite)

pub returns-then-is_finite : goal.returns-then-is_finite
unfolding is_factor
returns-then-is_finite c =
    let here : finite c.args.factor ≡ true = tested _ c.is_finite.ensures.value c.if-is_finite.true in
    rw (c.factor_of_q16.ensures, here)

pub returns-else-is_finite : goal.returns-else-is_finite
unfolding is_factor
returns-else-is_finite c = rw (tested _ c.is_finite.ensures.value c.if-is_finite.false, c.if-is_finite.false)
