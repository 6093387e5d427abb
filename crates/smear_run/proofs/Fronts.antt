-- Bytes put in the front of a slice; and the text of a refusal.
use mathlib.Core.Path.{◌≡◌, refl, ap}
use mathlib.Core.List.{List, [], ◌∷◌}
use Prim.Native.Nat.{ℕ, ◌+◌, ◌/◌, ◌%◌, ◌≤◌, ◌<◌}
use borrow.Author.Tests.{lt-ltb, le-ltb}
use lib.ListN.{length}
use Rattle.std.specs.Prelude.{Ok, Err}
use Rattle.image.specs.Call.{accepts, map_found, FrontWrites}
use Rattle.image.specs.declared.refusal.Refusal.TheVariants.{LentTooSmall}
use Rattle.image.proofs.Call.{outcome_accepted, outcome_refused}
use Rattle.image.proofs.Front.{room_short, room_whole}
use Rattle.smear_run.specs.Output.{refused_text}
use Rattle.smear_run.specs.Parts.{Put}

module _ (xs old : List ℕ) where
  pub put_short : length old < length xs → Put xs old old (Err LentTooSmall)
  put_short h = outcome_refused (map_found length) FrontWrites old tt 10 (room_short 10 xs h) refl

  pub put_whole : {new : List ℕ} {n : ℕ} → length xs ≤ length old → n ≡ length xs → FrontWrites xs old new
      → Put xs old new (Ok n)
  put_whole {new} h e w = outcome_accepted (map_found length) FrontWrites old tt xs new tt (room_whole 10 xs h) (ap accepts e) w

-- the text of a refusal: a number of one digit, or of two
module _ (number : ℕ) where
  pub one_digit : number < 10
      → refused_text number ≡ 114 ∷ 101 ∷ 102 ∷ 117 ∷ 115 ∷ 101 ∷ 100 ∷ 32 ∷ (48 + number % 10) ∷ 10 ∷ []
  unfolding refused_text
  one_digit h = rw (lt-ltb number 10 h) refl

  pub two_digits : 10 ≤ number
      → refused_text number
      ≡ 114 ∷ 101 ∷ 102 ∷ 117 ∷ 115 ∷ 101 ∷ 100 ∷ 32 ∷ (48 + number / 10) ∷ (48 + number % 10) ∷ 10 ∷ []
  unfolding refused_text
  two_digits h = rw (le-ltb number 10 h) refl
