-- `record::limits::is_estimate` meets its contract.
use Rattle.std.proofs.Common.{sym, ◌∙◌}
use Rattle.record.proofs.Doubles.{finite_pattern}
use Rattle.record.proofs.limits.is_estimate.Goals as goal

pub float_from_bits-result : goal.float_from_bits-result
float_from_bits-result c = finite_pattern c.args.bits (sym c.is_finite_bits.ensures ∙ c.if-is_finite_bits.true)
