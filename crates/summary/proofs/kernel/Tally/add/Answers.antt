-- `summary::kernel::Tally::add` meets its contract.
use Rattle.std.proofs.Common.{refl, sym, ap, ◌∙◌}
use Rattle.std.specs.Prelude.{Ok}
use Rattle.image.specs.Call.{told}
use Rattle.summary.proofs.Answer.{part_beyond, part_faulty, part_counted}
use Rattle.summary.proofs.kernel.Tally.add.Goals as goal

pub returns-then-self-ge-MAX_RECORDS : goal.returns-then-self-ge-MAX_RECORDS
returns-then-self-ge-MAX_RECORDS c = sym (part_beyond _ _ c.if-self-ge-MAX_RECORDS.true)

pub returns-in_default : goal.returns-in_default
returns-in_default c = sym (part_faulty _ _ _ (sym c.read.ensures ∙ ap told c.in_default.is) refl)

pub returns-then-lacks_length : goal.returns-then-lacks_length
returns-then-lacks_length c =
    sym
    (part_faulty _ _ _ (sym c.read.ensures ∙ ap told c.in-Ok.is) (sym c.lacks_length.ensures ∙ c.if-lacks_length.true))

pub returns : goal.returns
returns c =
    let reads = sym c.read.ensures ∙ ap told c.in-Ok.is in
    ap Ok c.added.ensures
    ∙ sym (part_counted _ _ _ c.if-self-ge-MAX_RECORDS.false reads (sym c.lacks_length.ensures ∙ c.if-lacks_length.false))
