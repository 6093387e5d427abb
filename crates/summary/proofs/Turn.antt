-- A turn of the loop over a file: the next part is counted (`turn_counted`), or it is a fault (`turn_refused`); behind
-- the last byte there is nothing to add (`turns_end`).
use mathlib.Core.List.{List, ◌∷◌}
use mathlib.Core.Path.{◌≡◌, refl}
use Prim.Native.Nat.{ℕ}
use lib.ListN.{length}
use Rattle.std.specs.Prelude.{Ok, Err}
use Rattle.summary.specs.File.{parts}
use Rattle.summary.specs.Tally.{added_part, added_parts}
use Rattle.summary.specs.declared.FaultyRecord.{FaultyRecord}
use Rattle.summary.specs.declared.kernel.Tally.{Tally}
use Rattle.summary.proofs.Parts.{parts_none}

module _ (t : Tally) (xs : List ℕ) where
  pub turns_end : length xs ≡ 0 → Ok t ≡ added_parts t (parts xs)
  unfolding added_parts
  turns_end h = rw (parts_none xs h) refl

  module _ (x ys : List ℕ) (next : parts xs ≡ x ∷ parts ys) where
    pub turn_counted : (u : Tally) → added_part t x ≡ Ok u → added_parts u (parts ys) ≡ added_parts t (parts xs)
    unfolding added_parts
    turn_counted u e = rw (next, e) refl

    pub turn_refused : (f : FaultyRecord) → added_part t x ≡ Err f → Err f ≡ added_parts t (parts xs)
    unfolding added_parts
    turn_refused f e = rw (next, e) refl
