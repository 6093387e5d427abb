-- The writer's contract determines the answer and every byte of the slice; the reader's is an equation.
use mathlib.Core.List.{List}
use Prim.Native.Nat.{ℕ}
use lib.ListN.{length}
use Rattle.image.specs.Call.{Gray8, told, map_found, FrontWrites}
use Rattle.image.specs.Determined.{Determines}
use Rattle.image.proofs.Determined.{outcome_determines}
use Rattle.image.proofs.Front.{front_one}
use Rattle.image.proofs.Told.{told_one}
use Rattle.pgm.specs.Write.{write_decision, PgmWritten}

pub written_determined : (src : Gray8) (old : List ℕ)
    → Determines {S = Unit {0}} (λ s. s) (λ _ _ new answer. PgmWritten src old new answer)
written_determined src old _ _ _ _ new new' answer answer' e o p =
    let d = outcome_determines (λ s. s) (λ _. write_decision src (length old)) (map_found length) FrontWrites front_one old
    tt tt tt tt new new' (told answer) (told answer') e o p in
    (told_one answer answer' d.0, d.1)
