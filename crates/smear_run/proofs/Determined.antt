-- The contract of the program's work determines how many bytes are printed and every byte of the slice.
use mathlib.Core.List.{List}
use Prim.Native.Nat.{ℕ}
use lib.ListN.{length}
use Rattle.image.specs.Determined.{Determines}
use Rattle.image.specs.Call.{told, map_found, FrontWrites}
use Rattle.image.proofs.Determined.{outcome_determines}
use Rattle.image.proofs.Front.{front_one}
use Rattle.image.proofs.Told.{told_one}
use Rattle.smear_run.specs.Output.{output, run_decision, Ran}

pub ran_determined : (job picture old : List ℕ)
    → Determines {S = Unit {0}} (λ s. s) (λ _ _ new answer. Ran job picture old new answer)
ran_determined job picture old lent lent' other other' new new' answer answer' e o p =
    let d = outcome_determines (λ s. s) (λ _. run_decision (length old) (output job picture)) (map_found length) FrontWrites
    front_one old lent lent' other other' new new' (told answer) (told answer') e o p in
    (told_one answer answer' d.0, d.1)
