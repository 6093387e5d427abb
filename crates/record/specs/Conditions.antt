-- Document 01, "Refusals, first match wins", for records: "13. A record to be read or written breaks its layout, or its
-- slice is not 32 bytes long."
use Rattle.std.specs.Prelude.{ℕ, false, List, [], ◌∷◌, ◌≡◌, length, Some}
use Rattle.image.specs.Conditions.{Refusal, given}
use Rattle.record.specs.Fields.{decoded, legal}
use Rattle.record.specs.Record.{filter_from, filter_q, fields_of}
use Rattle.record.specs.declared.fields.Fields.{Fields}
use Rattle.record.specs.declared.RecordFilter.{RecordFilter}
use Rattle.record.specs.declared.Record.{Record}

-- the fields name no filter, or break a limit of the one that they name
abbrev pub FieldsBroken : Fields → Type 0
FieldsBroken f = (k : RecordFilter) → filter_from f ≡ Some k → legal k f ≡ false

-- the factor is no q / 65,536, or the fields break a limit of the filter
abbrev pub RecordBroken : Record → Type 0
RecordBroken r = (q : ℕ) → filter_q r.filter ≡ Some q → legal r.filter (fields_of r q) ≡ false

abbrev pub read_conditions : List ℕ → List Refusal
read_conditions xs = given 13 (length xs ≡ 32 → ⊥) ∷ given 13 (FieldsBroken (decoded xs)) ∷ []

abbrev pub write_conditions : Record → List ℕ → List Refusal
write_conditions r old = given 13 (length old ≡ 32 → ⊥) ∷ given 13 (RecordBroken r) ∷ []
