-- `record::checked_fields` meets its contract.
use Rattle.std.proofs.Common.{sym}
use Rattle.record.proofs.Answer.{checked_broken, angle_broken, estimate_broken}
use Rattle.record.proofs.Doubles.{tested}
use Rattle.record.proofs.checked_fields.Goals as goal
use Rattle.record.proofs.checked_fields.Goals.{then-not-is_finite-via-then-not-is_finite, then-not-is_finite-via-else-not-is_finite+then-not-is_finite-2}

pub returns-then-not-is_finite : goal.returns-then-not-is_finite
returns-then-not-is_finite c =
    sym (checked_broken _ _
    (elim c.then-not-is_finite.branch [
      | then-not-is_finite-via-then-not-is_finite w ↦ angle_broken _ _ _ (tested _ c.is_finite.ensures.value w.if-not-is_finite.true)
      | then-not-is_finite-via-else-not-is_finite+then-not-is_finite-2 w ↦
          estimate_broken _ _ _ (tested _ w.is_finite-else-not-is_finite.ensures.value w.if-not-is_finite-2.true)
    ]))

pub fields_of-fields-requires : goal.fields_of-fields-requires
fields_of-fields-requires c = (
  tested _ c.is_finite.ensures.value c.if-not-is_finite.false,
  tested _ c.is_finite-else-not-is_finite.ensures.value c.if-not-is_finite-2.false,
)
