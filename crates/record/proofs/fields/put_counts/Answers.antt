-- `record::fields::put_counts` meets its contract.
use Rattle.std.proofs.Common.{◌≡◌, ◌∙◌}
use Rattle.std.specs.Int.{w16, w32}
use Rattle.record.specs.Bytes.{bytes_of}
use Rattle.record.specs.Fields.{count_bytes}
use Rattle.record.proofs.LittleEndian.{to_le}
use Rattle.record.proofs.fields.put_counts.Goals as goal

pub returns : goal.returns
unfolding count_bytes bytes_of
returns c =
    let f = c.args.fields in
    let length : c.to_le_bytes.result ≡ bytes_of 2 f.blur_length = c.to_le_bytes.ensures ∙ to_le w16 f.blur_length in
    let iterations : c.to_le_bytes-2.result ≡ bytes_of 2 f.iterations = c.to_le_bytes-2.ensures ∙ to_le w16 f.iterations in
    let q : c.to_le_bytes-3.result ≡ bytes_of 4 f.q = c.to_le_bytes-3.ensures ∙ to_le w32 f.q in
    rw (c.put-3.ensures, c.put-2.ensures, c.put.ensures, length, iterations, q)
