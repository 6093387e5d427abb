-- `record::record_of` meets its contract.
use Rattle.record.specs.Record.{record_of}
use Rattle.record.proofs.Doubles.{finite_pattern}
use Rattle.record.proofs.Legal.{angle_finite, sound}
use Rattle.record.proofs.record_of.Goals as goal

pub float_from_bits-result : goal.float_from_bits-result
float_from_bits-result c =
    finite_pattern _ (angle_finite _ (sound c.args.fields c.args.filter c.requires).angle)

pub float_from_bits-result-2 : goal.float_from_bits-result-2
float_from_bits-result-2 c = finite_pattern _ (sound c.args.fields c.args.filter c.requires).estimate

pub returns : goal.returns
unfolding record_of
returns c = rw (c.from_index.ensures, c.from_code.ensures)
