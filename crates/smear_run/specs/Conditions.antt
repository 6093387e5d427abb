-- Document 01, "Refusals, first match wins", for the program's work on slices: 10 where there is no room for what is
-- printed.
use Rattle.std.specs.Prelude.{ℕ, ◌<◌, List, [], ◌∷◌, length}
use Rattle.image.specs.Conditions.{Refusal, given}

abbrev pub run_conditions : ℕ → List ℕ → List Refusal
run_conditions room printed = given 10 (room < length printed) ∷ []
