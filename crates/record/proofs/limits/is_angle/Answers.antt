-- `record::limits::is_angle` meets its contract.
use Rattle.std.proofs.Common.{sym, ◌∙◌}
use Rattle.record.proofs.Doubles.{finite_pattern}
use Rattle.record.proofs.Legal.{angle_refused}
use Rattle.record.proofs.limits.is_angle.Goals as goal

pub float_from_bits-bits : goal.float_from_bits-bits
float_from_bits-bits c = finite_pattern c.args.bits (sym c.is_finite_bits.ensures ∙ c.if-is_finite_bits.true)

pub returns-else-is_finite_bits : goal.returns-else-is_finite_bits
returns-else-is_finite_bits c =
    rw c.if-is_finite_bits.false
    (sym (angle_refused c.args.bits (sym c.is_finite_bits.ensures ∙ c.if-is_finite_bits.false)))
