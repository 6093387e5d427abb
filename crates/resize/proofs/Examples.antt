-- Worked examples of document 02, K8, computed apart from these definitions.
use Prim.Native.Nat.{ℕ}
use mathlib.Core.Bool.{true, false}
use mathlib.Core.List.{List, [], ◌∷◌, map}
use mathlib.Core.Path.{◌≡◌, refl}
use Rattle.image.specs.Picture.{pixel, tabulate, pixels_of}
use Rattle.image.specs.Refusal.{layout_refusal, sized_refusal}
use Rattle.resize.specs.Call.{box_sides_refusal, count_refusal, box_refusal, halving_refusal, halve_refusal}
use Rattle.resize.specs.Halving.{mean_of_four, halved, halved_times, side_after, starts_below2}

-- a half is rounded up: sums of 0 to 4
means : map (λ d. mean_of_four 0 0 0 d) (0 ∷ 1 ∷ 2 ∷ 3 ∷ 4 ∷ []) ≡ 0 ∷ 0 ∷ 1 ∷ 1 ∷ 1 ∷ []
unfolding mean_of_four
means = refl

white : mean_of_four 255 255 255 255 ≡ 255
unfolding mean_of_four
white = refl

-- ---- 5 by 5: the last row and the last column, of 9s, are dropped

five : List ℕ
five =
    0 ∷ 1 ∷ 255 ∷ 255 ∷ 9
    ∷ 1 ∷ 1 ∷ 255 ∷ 254 ∷ 9
    ∷ 10 ∷ 20 ∷ 30 ∷ 40 ∷ 9
    ∷ 50 ∷ 60 ∷ 70 ∷ 80 ∷ 9
    ∷ 9 ∷ 9 ∷ 9 ∷ 9 ∷ 9
    ∷ []

once : pixels_of 2 2 (halved (pixel five 5)) ≡ 1 ∷ 255 ∷ 35 ∷ 55 ∷ []
unfolding five mean_of_four tabulate
once = refl

twice : pixels_of 1 1 (halved_times 2 (pixel five 5)) ≡ 87 ∷ []
unfolding five mean_of_four tabulate halved_times
twice = refl

none : pixels_of 5 5 (halved_times 0 (pixel five 5)) ≡ five
unfolding five tabulate halved_times
none = refl

-- ---- each halving rounds: 2, where one mean over sixteen would be 1

four : List ℕ
four = 1 ∷ 2 ∷ 1 ∷ 1 ∷ 2 ∷ 2 ∷ 0 ∷ 0 ∷ 2 ∷ 1 ∷ 2 ∷ 2 ∷ 0 ∷ 0 ∷ 1 ∷ 1 ∷ []

rounds : halved_times 2 (pixel four 4) 0 0 ≡ 2
unfolding four mean_of_four halved_times
rounds = refl

-- ---- sides and 18

sides : map (λ n. side_after n 1023) (0 ∷ 1 ∷ 2 ∷ 9 ∷ 10 ∷ []) ≡ 1023 ∷ 511 ∷ 255 ∷ 1 ∷ 0 ∷ []
unfolding side_after
sides = refl

three : map (λ n. starts_below2 n 3 3) (0 ∷ 1 ∷ 2 ∷ []) ≡ false ∷ false ∷ true ∷ []
unfolding starts_below2
three = refl

-- 1,024 by 1,024 has ten halvings, 1,023 by 1,024 has not
ten : map (λ w. count_refusal 10 w 1024) (1024 ∷ 1023 ∷ []) ≡ 0 ∷ 18 ∷ []
unfolding count_refusal starts_below2
ten = refl

eleven : count_refusal 11 1024 1024 ≡ 18
unfolding count_refusal starts_below2
eleven = refl

-- no halving starts from one pixel, and none is needed
lone : map (λ n. count_refusal n 1 1) (0 ∷ 1 ∷ []) ≡ 0 ∷ 18 ∷ []
unfolding count_refusal starts_below2
lone = refl

-- ---- 18 stands between 4 and 5, and 10 is last; the single halving has no 10

short_source : halve_refusal 8 3 3 3 0 0 0 0 2 0 ≡ 4
unfolding halve_refusal halving_refusal count_refusal starts_below2 layout_refusal sized_refusal side_after
short_source = refl

eighteen_first : halve_refusal 9 3 3 3 0 0 0 0 2 0 ≡ 18
unfolding halve_refusal halving_refusal count_refusal starts_below2 layout_refusal sized_refusal side_after
eighteen_first = refl

then_5 : halve_refusal 9 3 3 3 0 0 0 0 1 0 ≡ 5
unfolding halve_refusal halving_refusal count_refusal starts_below2 layout_refusal sized_refusal side_after
then_5 = refl

then_6 : halve_refusal 9 3 3 3 4 2 2 2 1 0 ≡ 6
unfolding halve_refusal halving_refusal count_refusal starts_below2 layout_refusal sized_refusal side_after
then_6 = refl

then_10 : map (halve_refusal 9 3 3 3 1 1 1 1 1) (8 ∷ 9 ∷ []) ≡ 10 ∷ 0 ∷ []
unfolding halve_refusal halving_refusal count_refusal starts_below2 layout_refusal sized_refusal side_after
then_10 = refl

copy_10 : map (halve_refusal 9 3 3 3 9 3 3 3 0) (8 ∷ 9 ∷ []) ≡ 10 ∷ 0 ∷ []
unfolding halve_refusal halving_refusal count_refusal starts_below2 layout_refusal sized_refusal side_after
copy_10 = refl

single : map (λ h. box_refusal 9 3 h 3 1 1 1 1) (1 ∷ 2 ∷ 3 ∷ 4 ∷ []) ≡ 18 ∷ 0 ∷ 0 ∷ 4 ∷ []
unfolding box_refusal box_sides_refusal layout_refusal sized_refusal
single = refl
