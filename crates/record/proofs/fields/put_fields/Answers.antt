-- `record::fields::put_fields` meets its contract.
use Rattle.record.specs.Bytes.{bytes_of}
use Rattle.record.specs.Fields.{encoded}
use Rattle.record.proofs.Answer.{stored_whole}
use Rattle.record.proofs.fields.put_fields.Goals as goal

pub returns : goal.returns
unfolding encoded bytes_of
returns c =
    rw (c.put_doubles.ensures, c.put_counts.ensures, c.put_head.ensures)
    (stored_whole c.args.fields c.args.bytes.now c.requires)
