-- The swings of a picture (document 01, Length): those of its lines, in the lines' order; and the strongest of them.
use Rattle.std.specs.Prelude.{ℕ, zero, suc, cond, List, [], ◌∷◌, ◌++◌, ℤ, pos, Float, Option, Some, None}
use Rattle.std.specs.Int.Signed.{le_z}
use Rattle.std.specs.Float.{binary64}
use Rattle.std.specs.Float.Ieee.{mul}
use Rattle.swings.specs.declared.Swing.{Swing}
use Rattle.swings.specs.Line.{Lines}
use Rattle.swings.specs.Rise.{rise_of}
use Rattle.swings.specs.Runs.{Run, runs_after}

-- the width in pixels, in a direction whose steps are `pixel` long
abbrev pub scaled_by : Float → Swing → Swing
scaled_by pixel s = record { width = mul binary64 s.width pixel; swing = s.swing }

-- a run's swing, if it has a rise, in front of others
abbrev pub with_rise : Float → Option Swing → List Swing → List Swing
with_rise pixel (Some s) others = scaled_by pixel s ∷ others
with_rise pixel None others = others

-- the swings of some runs of a line
unfoldable pub swings_of : ℕ → Float → (ℕ → ℕ) → List Run → List Swing
unfolding rise_of
swings_of least pixel x [] = []
swings_of least pixel x (r ∷ rs) = with_rise pixel (rise_of least x r.first r.last) (swings_of least pixel x rs)

-- the swings of a line of n samples, from the run that starts at sample a on
unfoldable pub line_swings : ℕ → Float → (ℕ → ℕ) → ℕ → ℕ → List Swing
unfolding swings_of runs_after
line_swings least pixel x n a = swings_of least pixel x (runs_after x n a)

-- the swings of j lines from line k on, of line k from the run that starts at sample a on
unfoldable pub swings_from : ℕ → Float → Lines → ℕ → ℕ → ℕ → List Swing
unfolding line_swings
swings_from least pixel lines k a zero = []
swings_from least pixel lines k a (suc j) =
    line_swings least pixel (lines.line k) (lines.len k) a ++ swings_from least pixel lines (suc k) 0 j

-- all swings of the lines
abbrev pub swings : ℕ → Float → Lines → List Swing
swings least pixel lines = swings_from least pixel lines 0 0 lines.count

-- the larger of two swings
abbrev pub larger : ℤ → ℤ → ℤ
larger a b = cond (le_z a b) b a

-- the strongest swing, and 0 where there is none
abbrev pub strongest : List Swing → ℤ
strongest [] = pos 0
strongest (s ∷ l) = larger s.swing (strongest l)
