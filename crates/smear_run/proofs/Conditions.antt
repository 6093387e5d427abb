-- The program's work is given 10 in its condition and otherwise never.
use Prim.Native.Nat.{ℕ}
use mathlib.Core.List.{List}
use Rattle.image.specs.Call.{number_of}
use Rattle.image.specs.Conditions.{Exactly}
use Rattle.image.proofs.Conditions.{exactly}
use Rattle.image.proofs.Front.{room_matches}
use Rattle.smear_run.specs.Conditions.{run_conditions}
use Rattle.smear_run.specs.Output.{run_decision}

pub run_exactly : (room : ℕ) (printed : List ℕ)
    → Exactly (run_conditions room printed) (number_of (run_decision room printed))
run_exactly room printed = exactly (room_matches 10 room printed)
