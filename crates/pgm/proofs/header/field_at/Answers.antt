-- `pgm::header::field_at` meets its contract.
use Rattle.pgm.proofs.Fields.{field_no_gap, field_no_digit, field_found}
use Rattle.pgm.proofs.header.field_at.Goals as goal

pub returns-then-digits-bytes : goal.returns-then-digits-bytes
returns-then-digits-bytes c = field_no_gap _ c.skip_gaps-digits.ensures c.if-digits-bytes.true

pub returns-then-number-digits : goal.returns-then-number-digits
returns-then-number-digits c =
    field_no_digit _ c.skip_gaps-digits.ensures c.if-digits-bytes.false c.number_at-number.ensures
    c.if-number-digits.true

pub returns : goal.returns
returns c =
    field_found _ c.skip_gaps-digits.ensures c.if-digits-bytes.false c.number_at-number.ensures
    c.if-number-digits.false
