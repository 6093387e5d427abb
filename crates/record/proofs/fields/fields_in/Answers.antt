-- `record::fields::fields_in` meets its contract.
use Rattle.std.proofs.Common.{arith, ◌<◌, ℕ, get_or}
use Rattle.record.specs.Fields.{decoded}
use Rattle.record.proofs.LittleEndian.{read_2, read_4, read_8}
use Rattle.record.proofs.fields.fields_in.Goals as goal

pub returns : goal.returns
unfolding decoded
returns c =
    let xs = c.args.bytes.now in
    let bytes : (i : ℕ) → get_or xs i 0 < 256 = λ i. omega (arith, c.type_inv.bytes i) in
    let length = read_2 xs bytes 8 (omega arith) c.from_le_bytes.type_inv (rw c.part.ensures at c.from_le_bytes.ensures) in
    let iterations = read_2 xs bytes 10 (omega arith) c.from_le_bytes-2.type_inv (rw c.part-2.ensures at c.from_le_bytes-2.ensures) in
    let q = read_4 xs bytes 12 (omega arith) c.from_le_bytes-3.type_inv (rw c.part-3.ensures at c.from_le_bytes-3.ensures) in
    let angle = read_8 xs bytes 16 (omega arith) c.from_le_bytes-4.type_inv (rw c.part-4.ensures at c.from_le_bytes-4.ensures) in
    let estimate = read_8 xs bytes 24 (omega arith) c.from_le_bytes-5.type_inv (rw c.part-5.ensures at c.from_le_bytes-5.ensures) in
    rw (c.head_in.ensures, length, iterations, q, angle, estimate)
