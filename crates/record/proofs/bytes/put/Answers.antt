-- `record::bytes::put` meets its contract.
use Rattle.std.proofs.Common.{ap, sym, ◌∙◌, length}
use Rattle.std.proofs.Math.Nat.{add-sub_cancel_left}
use Rattle.numbers.proofs.List.{length_part}
use Rattle.record.proofs.LittleEndian.{put_part}
use Rattle.record.proofs.bytes.put.Goals as goal

pub returns : goal.returns
returns g c =
    let a = c.args in
    let xs = a.bytes.now in
    let n = add-sub_cancel_left a.at g.row.N in
    let part = c.copy_from_slice.ensures in
    put_part xs a.part a.at g.row.N c.requires n
    (sym (ap length part.after) ∙ part.len ∙ (rw n (length_part a.at g.row.N xs c.requires))) part.after
