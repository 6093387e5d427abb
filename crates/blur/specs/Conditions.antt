-- Document 01, "Refusals, first match wins", for the length: each number with its condition, and what is accepted.
use Rattle.std.specs.Prelude.{ℕ, ◌*◌, ◌≤◌, ◌<◌, List, [], ◌∷◌, ◌++◌, Float}
use Rattle.image.specs.Conditions.{Refusal, given, layout_conditions}
use Rattle.image.specs.Refusal.{Laid}
use Rattle.raster.specs.Direction.{NoDirection}

-- of the calls that take an angle; 7 is document 02's, K7
abbrev pub length_conditions : ℕ → ℕ → ℕ → ℕ → Float → ℕ → List Refusal
length_conditions len w h stride angle lent =
    layout_conditions len w h stride ++ (given 7 (NoDirection angle) ∷ given 10 (lent < w * h) ∷ [])

-- `length_refusal` is 0 exactly there.
pub record LengthAccepted (len w h stride lent : ℕ) : Type 0 where
  pub picture : Laid len w h stride
  pub records_least : w * h ≤ lent
