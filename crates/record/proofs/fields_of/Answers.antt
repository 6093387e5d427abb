-- `record::fields_of` meets its contract.
use Rattle.record.specs.Record.{fields_of}
use Rattle.record.proofs.Doubles.{finite_number, not_nan}
use Rattle.record.proofs.fields_of.Goals as goal

pub float_to_bits-result : goal.float_to_bits-result
float_to_bits-result c = not_nan _ (finite_number _ c.requires.0)

pub float_to_bits-result-2 : goal.float_to_bits-result-2
float_to_bits-result-2 c =
    not_nan _ (finite_number _ c.requires.1)

pub returns : goal.returns
unfolding fields_of
returns c =
    rw (
      c.code.ensures,
      c.index.ensures,
      c.code-2.ensures,
      c.value.ensures,
    )
