-- `vectors::case::double` meets its contract.
use Rattle.record.proofs.Doubles.{number_pattern}
use Rattle.vectors.proofs.case.double.Goals as goal

pub float_from_bits-result : goal.float_from_bits-result
float_from_bits-result c = number_pattern c.args.bits c.if-bits-gt9218868437227405312.false
