-- Directions of small pictures, as the Rust gives them, with their sums, and a refusal: 3 by 3 steps across each
-- direction, an even picture, a side below 3, document 01's ramp, and bytes between the rows.
use mathlib.Core.List.{List, [], ◌∷◌}
use mathlib.Core.Path.{◌≡◌, refl}
use Prim.Native.Nat.{ℕ}
use lib.IntN.{ℤ, pos, negsuc}
use Rattle.image.specs.Call.{Decision, gray8, accepts, refuses}
use Rattle.image.specs.Refusal.{layout_refusal}
use Rattle.numbers.specs.Sum.{total}
use Rattle.raster.specs.declared.direction.RasterDirection4.{RasterDirection4}
use Rattle.raster.specs.declared.direction.RasterDirection4.TheVariants.{Horizontal, DownRight, Vertical, DownLeft}
use Rattle.tensor.specs.declared.direction.DirectionEstimate.{DirectionEstimate}
use Rattle.tensor.specs.Tensor.{gradient_x, gradient_y, row_sum, interior_sum, tensor_sums, tensor_direction}
use Rattle.tensor.specs.Tensor.{estimate_of, direction_decision}

abbrev pub found : RasterDirection4 → ℤ → ℤ → ℤ → Decision DirectionEstimate
found d A C E = accepts (record { direction = d; sums = record { a = A; c = C; e = E } })

across : direction_decision (gray8 (0 ∷ 0 ∷ 9 ∷ 0 ∷ 0 ∷ 9 ∷ 0 ∷ 0 ∷ 9 ∷ []) 3 3 3) ≡ found Vertical
    (pos 1296) (pos 0) (pos 0)
unfolding direction_decision estimate_of tensor_sums tensor_direction interior_sum row_sum gradient_x
    gradient_y total layout_refusal
across = refl

down : direction_decision (gray8 (0 ∷ 0 ∷ 0 ∷ 0 ∷ 0 ∷ 0 ∷ 9 ∷ 9 ∷ 9 ∷ []) 3 3 3) ≡ found Horizontal
    (pos 0) (pos 0) (pos 1296)
unfolding direction_decision estimate_of tensor_sums tensor_direction interior_sum row_sum gradient_x
    gradient_y total layout_refusal
down = refl

down_right : direction_decision (gray8 (0 ∷ 0 ∷ 0 ∷ 0 ∷ 0 ∷ 9 ∷ 0 ∷ 9 ∷ 9 ∷ []) 3 3 3) ≡ found DownLeft
    (pos 729) (pos 729) (pos 729)
unfolding direction_decision estimate_of tensor_sums tensor_direction interior_sum row_sum gradient_x
    gradient_y total layout_refusal
down_right = refl

down_left : direction_decision (gray8 (0 ∷ 0 ∷ 0 ∷ 9 ∷ 0 ∷ 0 ∷ 9 ∷ 9 ∷ 0 ∷ []) 3 3 3) ≡ found DownRight
    (pos 729) (negsuc 728) (pos 729)
unfolding direction_decision estimate_of tensor_sums tensor_direction interior_sum row_sum gradient_x
    gradient_y total layout_refusal
down_left = refl

even : direction_decision (gray8 (7 ∷ 7 ∷ 7 ∷ 7 ∷ 7 ∷ 7 ∷ 7 ∷ 7 ∷ 7 ∷ []) 3 3 3)
    ≡ found Horizontal (pos 0) (pos 0) (pos 0)
unfolding direction_decision estimate_of tensor_sums tensor_direction interior_sum row_sum gradient_x
    gradient_y total layout_refusal
even = refl

narrow : direction_decision (gray8 (1 ∷ 2 ∷ 3 ∷ 4 ∷ 5 ∷ 6 ∷ 7 ∷ 8 ∷ 9 ∷ 10 ∷ []) 2 5 2)
    ≡ found Horizontal (pos 0) (pos 0) (pos 0)
unfolding direction_decision estimate_of tensor_sums tensor_direction interior_sum row_sum gradient_x
    gradient_y total layout_refusal
narrow = refl

between_rows : direction_decision (gray8 (0 ∷ 0 ∷ 9 ∷ 9 ∷ 1 ∷ 0 ∷ 0 ∷ 9 ∷ 9 ∷ 2 ∷ 0 ∷ 0 ∷ 9 ∷ 9 ∷ []) 4 3 5)
    ≡ found Vertical (pos 2592) (pos 0) (pos 0)
unfolding direction_decision estimate_of tensor_sums tensor_direction interior_sum row_sum gradient_x
    gradient_y total layout_refusal
between_rows = refl

unfoldable pub row : List ℕ → List ℕ
row next = 0 ∷ 0 ∷ 0 ∷ 50 ∷ 100 ∷ 150 ∷ 200 ∷ 250 ∷ 250 ∷ 250 ∷ next

ramp : direction_decision (gray8 (row (row (row []))) 10 3 10) ≡ found Vertical (pos 720000) (pos 0) (pos 0)
unfolding row direction_decision estimate_of tensor_sums tensor_direction interior_sum row_sum gradient_x
    gradient_y total layout_refusal
ramp = refl

one_short : direction_decision (gray8 (0 ∷ 0 ∷ 9 ∷ 0 ∷ 0 ∷ 9 ∷ 0 ∷ 0 ∷ []) 3 3 3) ≡ refuses 4
unfolding direction_decision layout_refusal
one_short = refl
