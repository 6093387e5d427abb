-- What the parts of the program's work state. Only contracts inside the crate cite these.
use Rattle.std.specs.Prelude.{◌≡◌, true, List, ℕ, ◌*◌, ◌≤◌, length, Result}
use Rattle.numbers.specs.Written.{Painted}
use Rattle.image.specs.Call.{Decision, accepts, told, map_found, FrontWrites, Outcome}
use Rattle.image.specs.declared.refusal.Refusal.{Refusal}
use Rattle.record.specs.Record.{read_record, is_job}
use Rattle.record.specs.declared.Record.{Record}
use Rattle.smear_run.specs.Stage.{most_pixels, Made}
use Rattle.smear_run.specs.Output.{run_decision}

-- bytes in the front of a slice, or 10 where it has no room for them
abbrev pub Put : List ℕ → List ℕ → List ℕ → Result ℕ Refusal → Type 0
Put xs old new answer =
    Outcome (run_decision (length old) xs) (map_found length) FrontWrites old new (tt {0}) (tt {0}) (told answer)

-- ---- a filter

-- a call answers the result's record
abbrev pub result_of : Made → Record
result_of m = m.result

-- the pixels go to a tight destination
abbrev pub FilterWrites : Record → Made → List ℕ → List ℕ → Type 0
FilterWrites r m old new = Painted 0 m.pixels r.width r.height r.width old new

-- a filter owns its scratch
abbrev pub Filtered : Decision Made → Record → List ℕ → List ℕ → Result Record Refusal → Type 0
Filtered decision r old new answer =
    Outcome decision (map_found result_of) (FilterWrites r) old new (tt {0}) (tt {0}) (told answer)

-- ---- a record

-- one that some bytes read as
pub record Legible (r : Record) : Type 0 where
  pub bytes : List ℕ
  pub reads : read_record bytes ≡ accepts r

-- a job of n pixels that is not too large
pub record SmallJob (r : Record) (n : ℕ) : Type 0 where
  pub legible : Legible r
  pub is_job_holds : is_job r ≡ true
  pub count : n ≡ r.width * r.height
  pub few : n ≤ most_pixels
