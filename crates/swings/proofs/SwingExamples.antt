-- Lines of document 01, Length: the ramp, the same one falling, and a plateau on the 80% level, whose first sample is
-- the crossing.
use Prim.Native.Nat.{ℕ}
use mathlib.Core.Path.{◌≡◌, refl}
use mathlib.Core.List.{List, [], ◌∷◌}
use lib.IntN.{pos}
use lib.ListN.{length, get_or}
use lib.Ieee.{binary64, of_bits, of_int, add, sub, mul, div, le, lt, eq}
use Rattle.swings.specs.declared.Swing.{Swing}
use Rattle.swings.specs.Rise.{level_of, crossed_at, place_at, crossing_of, rise_between}
use Rattle.swings.specs.Swings.{line_swings}

-- the swings of a line along an axis, for the default least swing
unfoldable swings_on : List ℕ → List Swing
unfolding line_swings
swings_on line = line_swings 24 (of_bits binary64 0x3FF0_0000_0000_0000) (λ i. get_or line i 0) (length line) 0

-- one swing of width 3.0
three_wide : ℕ → List Swing
three_wide size = record { width = of_bits binary64 0x4008_0000_0000_0000; swing = pos size } ∷ []

ramp : swings_on (0 ∷ 0 ∷ 0 ∷ 50 ∷ 100 ∷ 150 ∷ 200 ∷ 250 ∷ 250 ∷ 250 ∷ []) ≡ three_wide 250
unfolding swings_on three_wide level_of crossed_at place_at crossing_of rise_between of_bits of_int add sub mul div le lt eq
ramp = refl

falling_ramp : swings_on (250 ∷ 250 ∷ 250 ∷ 200 ∷ 150 ∷ 100 ∷ 50 ∷ 0 ∷ 0 ∷ 0 ∷ []) ≡ three_wide 250
unfolding swings_on three_wide level_of crossed_at place_at crossing_of rise_between of_bits of_int add sub mul div le lt eq
falling_ramp = refl

plateau : swings_on (0 ∷ 20 ∷ 20 ∷ 20 ∷ 80 ∷ 80 ∷ 80 ∷ 100 ∷ []) ≡ three_wide 100
unfolding swings_on three_wide level_of crossed_at place_at crossing_of rise_between of_bits of_int add sub mul div le lt eq
plateau = refl
