-- What the sheet's call leaves, by its answer.
use mathlib.Core.Path.{◌≡◌, refl}
use mathlib.Core.List.{List}
use Prim.Native.Nat.{ℕ, ◌≤◌}
use borrow.Author.Tests.{le-ltb}
use lib.ListN.{length}
use lib.Seq.{sets, sets-eq}
use Rattle.std.specs.Prelude.{Ok}
use Rattle.summary.specs.File.{summarized}
use Rattle.summary.specs.declared.RecordSummary.{RecordSummary}
use Rattle.smear_c.specs.Sheet.{sheet_length, sheet_numbers, leaves, summarized_c}

pub sheet_given : (xs old : List ℕ) (before : ℕ) → sheet_length ≤ length old → (s : RecordSummary) {new : List ℕ}
    → summarized xs ≡ Ok s → new ≡ sets old 0 (sheet_numbers s) → leaves 0 new before ≡ summarized_c xs old before
sheet_given xs old before room s e n =
    rw (le-ltb (length old) sheet_length room, e, n, sets-eq (sheet_numbers s) old 0 room) refl
