-- `record::fields::put_head` meets its contract.
use Rattle.std.proofs.Common.{◌≡◌, ◌∙◌}
use Rattle.std.specs.Int.{w16}
use Rattle.record.specs.Bytes.{bytes_of}
use Rattle.record.specs.Fields.{head_bytes}
use Rattle.record.proofs.LittleEndian.{to_le}
use Rattle.record.proofs.fields.put_head.Goals as goal

pub returns : goal.returns
unfolding head_bytes bytes_of
returns c =
    let f = c.args.fields in
    let width : c.to_le_bytes.result ≡ bytes_of 2 f.head.width = c.to_le_bytes.ensures ∙ to_le w16 f.head.width in
    let height : c.to_le_bytes-2.result ≡ bytes_of 2 f.head.height = c.to_le_bytes-2.ensures ∙ to_le w16 f.head.height in
    rw (c.put-2.ensures, c.put.ensures, width, height)
