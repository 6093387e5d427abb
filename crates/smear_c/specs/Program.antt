-- `smear_run`: what the program prints (document 01, "The 32-byte record") as C has it, a result and an out-parameter
-- for how many bytes were written.
use Rattle.std.specs.Prelude.{List, ℕ, length}
use Rattle.image.specs.Call.{number_of, FrontWrites, WithOuts, Outcome}
use Rattle.smear_run.specs.Output.{output, run_decision}

abbrev pub RanC : List ℕ → List ℕ → List ℕ → List ℕ → ℕ → ℕ → ℕ → Type 0
RanC job picture old new before after r =
    Outcome (run_decision (length old) (output job picture)) number_of (WithOuts FrontWrites length)
    (old, before) (new, after)
    (tt {0}) (tt {0}) r
