-- `record::limits::is_finite_bits` meets its contract.
use Rattle.std.proofs.Common.{sym}
use Rattle.record.proofs.Doubles.{nan_pattern, number_pattern}
use Rattle.record.proofs.limits.is_finite_bits.Goals as goal

pub returns-then-bits-gt9218868437227405312 : goal.returns-then-bits-gt9218868437227405312
returns-then-bits-gt9218868437227405312 c = sym (nan_pattern c.args.bits c.if-bits-gt9218868437227405312.true)

pub float_from_bits-x : goal.float_from_bits-x
float_from_bits-x c = number_pattern c.args.bits c.if-bits-gt9218868437227405312.false
