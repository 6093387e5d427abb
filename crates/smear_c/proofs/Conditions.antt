-- The sheet for C is given 10 and 13 in their conditions and otherwise never. The other calls have the numbers, and so
-- the conditions, of the calls that they hand on.
use Prim.Native.Nat.{ℕ}
use mathlib.Core.List.{List}
use mathlib.Core.Path.{◌≡◌, refl}
use lib.Dec.{ltb}
use lib.ListN.{length}
use Rattle.std.specs.Prelude.{Result, Ok, Err}
use Rattle.numbers.proofs.Test.{ap_cond, ltb_iff}
use Rattle.image.specs.Conditions.{Exactly}
use Rattle.image.proofs.Conditions.{exactly, match_test}
use Rattle.summary.specs.Conditions.{summary_number}
use Rattle.summary.specs.File.{summarized}
use Rattle.summary.specs.declared.FaultyRecord.{FaultyRecord}
use Rattle.summary.specs.declared.RecordSummary.{RecordSummary}
use Rattle.summary.proofs.Conditions.{summary_matches}
use Rattle.smear_c.specs.Sheet.{sheet_length, SummaryLeft, leaves, answered_c, summarized_c}
use Rattle.smear_c.specs.Sheet.{summary_conditions_c}

module _ (xs old : List ℕ) (before : ℕ) where
  answered-number : (z : Result RecordSummary FaultyRecord) → (answered_c z old before).number ≡ summary_number z
  answered-number (Ok s) = refl
  answered-number (Err fault) = refl

  pub summarized_exactly : Exactly (summary_conditions_c xs (length old)) (summarized_c xs old before).number
  summarized_exactly =
      exactly
      (rw (
        ap_cond (λ (left : SummaryLeft). left.number) (ltb (length old) sheet_length) (leaves 10 old before)
            (answered_c (summarized xs) old before),
        answered-number (summarized xs),
      )
      (match_test 10 (summary_matches xs) (ltb_iff (length old) sheet_length)))
