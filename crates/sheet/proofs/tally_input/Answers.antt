-- `sheet::tally_input` ends: every turn counts a record at least, and there are at most 1,000,000.
use Rattle.std.proofs.Common.{sym, ◌∙◌, take, arith}
use Rattle.summary.proofs.Answer.{parts_counted}
use Rattle.summary.proofs.Parts.{parts_some}
use Rattle.sheet.proofs.tally_input.Goals as goal

pub loop-bytes-smaller : goal.loop-bytes-smaller
loop-bytes-smaller g c =
    let counted = parts_counted _ _ (sym c.add_all.ensures ∙ c.in_ok-tally.was) c.loop-bytes.invariant.0 in
    let some = parts_some (take c.read_full-n.result c.read_full-n.new.bytes) (omega arith) in
    omega (arith, counted.0.records, counted.1, some)

pub loop-bytes-preserved : goal.loop-bytes-preserved
loop-bytes-preserved g c =
    let counted = parts_counted _ _ (sym c.add_all.ensures ∙ c.in_ok-tally.was) c.loop-bytes.invariant.0 in
    (counted.0, omega arith)
