-- `record::fields::put_doubles` meets its contract.
use Rattle.std.proofs.Common.{◌≡◌, ◌∙◌}
use Rattle.std.specs.Int.{w64}
use Rattle.record.specs.Bytes.{bytes_of}
use Rattle.record.specs.Fields.{double_bytes}
use Rattle.record.proofs.LittleEndian.{to_le}
use Rattle.record.proofs.fields.put_doubles.Goals as goal

pub returns : goal.returns
unfolding double_bytes bytes_of
returns c =
    let f = c.args.fields in
    let angle : c.to_le_bytes.result ≡ bytes_of 8 f.angle = c.to_le_bytes.ensures ∙ to_le w64 f.angle in
    let estimate : c.to_le_bytes-2.result ≡ bytes_of 8 f.estimate = c.to_le_bytes-2.ensures ∙ to_le w64 f.estimate in
    rw (c.put-2.ensures, c.put.ensures, angle, estimate)
