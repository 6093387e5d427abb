-- Document 02, K1: the refusal of `summarize` with its condition.
use Rattle.std.specs.Prelude.{ℕ, List, [], ◌∷◌, Result, Ok, Err}
use Rattle.image.specs.Conditions.{Refusal, given}
use Rattle.summary.specs.File.{fault_number, FaultAt}
use Rattle.summary.specs.declared.FaultyRecord.{FaultyRecord}
use Rattle.summary.specs.declared.RecordSummary.{RecordSummary}

-- 0, or the refusal's number
abbrev pub summary_number : Result RecordSummary FaultyRecord → ℕ
summary_number (Ok s) = 0
summary_number (Err f) = fault_number

abbrev pub summary_conditions : List ℕ → List Refusal
summary_conditions xs = given 13 ((i : ℕ) × FaultAt xs i) ∷ []
