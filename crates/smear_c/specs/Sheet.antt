-- `smear_summarize`: document 02's sheet (K1) as C has it, a result, 21 numbers and an index.
use Rattle.std.specs.Prelude.{cond, List, [], ◌∷◌, ◌++◌, ℕ, ◌<◌, ltb, length, drop, Result, Ok, Err}
use Rattle.image.specs.Conditions.{Refusal, given}
use Rattle.summary.specs.Conditions.{summary_conditions}
use Rattle.summary.specs.File.{summarized, fault_number}
use Rattle.summary.specs.declared.DirectionSummary.{DirectionSummary}
use Rattle.summary.specs.declared.RecordSummary.{RecordSummary}
use Rattle.summary.specs.declared.FaultyRecord.{FaultyRecord}

abbrev pub sheet_length : ℕ
sheet_length = 21

abbrev pub direction_numbers : DirectionSummary → List ℕ
direction_numbers d = d.count ∷ d.total ∷ d.largest ∷ d.mean ∷ d.remainder ∷ []

-- for each direction count, total, largest, mean and remainder; then the binomials
abbrev pub sheet_numbers : RecordSummary → List ℕ
sheet_numbers s =
    direction_numbers s.horizontal
    ++ direction_numbers s.down_right
    ++ direction_numbers s.vertical
    ++ direction_numbers s.down_left
    ++ (s.binomials ∷ [])

-- what a call leaves: its result, the whole of `sheet`, and `*index`
pub record SummaryLeft : Type 0 where
  pub number : ℕ
  pub sheet : List ℕ
  pub index : ℕ

abbrev pub leaves : ℕ → List ℕ → ℕ → SummaryLeft
leaves number sheet index = record { number = number; sheet = sheet; index = index }

-- the sheet in the first elements, or the number with the index; what is not written stays
abbrev pub answered_c : Result RecordSummary FaultyRecord → List ℕ → ℕ → SummaryLeft
answered_c (Ok s) old before = leaves 0 (sheet_numbers s ++ drop sheet_length old) before
answered_c (Err fault) old before = leaves fault_number old fault.index

-- 10 where there is no room, then 13
abbrev pub summarized_c : List ℕ → List ℕ → ℕ → SummaryLeft
summarized_c records old before =
    cond (ltb (length old) sheet_length) (leaves 10 old before) (answered_c (summarized records) old before)

abbrev pub summary_conditions_c : List ℕ → ℕ → List Refusal
summary_conditions_c records room = given 10 (room < sheet_length) ∷ summary_conditions records
