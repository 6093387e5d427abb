-- `record::fields::head_in` meets its contract.
use Rattle.std.proofs.Common.{arith, ◌<◌, ℕ, get_or}
use Rattle.record.specs.Fields.{decoded_head}
use Rattle.record.proofs.LittleEndian.{read_2}
use Rattle.record.proofs.fields.head_in.Goals as goal

pub returns : goal.returns
unfolding decoded_head
returns c =
    let xs = c.args.bytes.now in
    let bytes : (i : ℕ) → get_or xs i 0 < 256 = λ i. omega (arith, c.type_inv.bytes i) in
    let width = read_2 xs bytes 0 (omega arith) c.from_le_bytes.type_inv (rw c.part.ensures at c.from_le_bytes.ensures) in
    let height = read_2 xs bytes 2 (omega arith) c.from_le_bytes-2.type_inv (rw c.part-2.ensures at c.from_le_bytes-2.ensures) in
    rw (width, height)
