-- Floors of small pictures, computed by hand from their sums: the last that passes and the first that does not, a tie,
-- pictures without a direction, numbers that are no floor, and sums whose products need two words.
use mathlib.Core.Bool.{true, false}
use mathlib.Core.List.{[], ◌∷◌}
use mathlib.Core.Path.{◌≡◌, refl}
use native.Mathlib.Omega.{arith}
use lib.IntN.{pos, negsuc}
use Rattle.numbers.specs.Sum.{total}
use Rattle.image.specs.Call.{Gray8, gray8, refuses}
use Rattle.image.specs.Refusal.{layout_refusal}
use Rattle.raster.specs.declared.direction.RasterDirection4.TheVariants.{Horizontal, Vertical}
use Rattle.tensor.specs.Confidence.{passes, confident_decision, Eigenvalues}
use Rattle.tensor.specs.Tensor.{gradient_x, gradient_y, row_sum, interior_sum, tensor_sums, tensor_direction}
use Rattle.tensor.specs.Tensor.{estimate_of}
use Rattle.tensor.proofs.TensorExamples.{found, row}

-- A, C, E = 1300, −100, 500: (512 − 160)² × 680000 ≥ 160² × 1800², and not for 161
corner : Gray8
corner = gray8 (0 ∷ 0 ∷ 0 ∷ 0 ∷ 0 ∷ 10 ∷ 10 ∷ 0 ∷ 0 ∷ 0 ∷ 10 ∷ 0 ∷ []) 4 3 4

corner_160 : confident_decision 160 corner ≡ found Vertical (pos 1300) (negsuc 99) (pos 500)
unfolding corner confident_decision passes estimate_of tensor_sums tensor_direction interior_sum row_sum gradient_x gradient_y
    total layout_refusal
corner_160 = refl

corner_161 : confident_decision 161 corner ≡ refuses 17
unfolding corner confident_decision passes estimate_of tensor_sums tensor_direction interior_sum row_sum gradient_x gradient_y
    total layout_refusal
corner_161 = refl

-- 16, 0, 8: (512 − 128)² × 64 = 128² × 24²
tie : Gray8
tie = gray8 (2 ∷ 2 ∷ 1 ∷ 2 ∷ 1 ∷ 1 ∷ 2 ∷ 2 ∷ 2 ∷ 2 ∷ 1 ∷ 0 ∷ 1 ∷ 2 ∷ 2 ∷ 1 ∷ []) 4 4 4

tie_128 : confident_decision 128 tie ≡ found Vertical (pos 16) (pos 0) (pos 8)
unfolding tie confident_decision passes estimate_of tensor_sums tensor_direction interior_sum row_sum gradient_x gradient_y
    total layout_refusal
tie_128 = refl

tie_129 : confident_decision 129 tie ≡ refuses 17
unfolding tie confident_decision passes estimate_of tensor_sums tensor_direction interior_sum row_sum gradient_x gradient_y
    total layout_refusal
tie_129 = refl

-- its eigenvalues are 8 and 16, and 1 − 8 / 16 is 128 / 256; those of 3, 2, 3 are 1 and 5
tie_eigenvalues : Eigenvalues (pos 16) (pos 0) (pos 8) 1 8 16 × Eigenvalues (pos 3) (pos 2) (pos 3) 1 1 5
tie_eigenvalues = (
  record { some = omega arith; order = omega arith; trace = refl; determinant = refl },
  record { some = omega arith; order = omega arith; trace = refl; determinant = refl },
)

-- document 01's ramp has the one direction
ramp_256 : confident_decision 256 (gray8 (row (row (row []))) 10 3 10) ≡ found Vertical (pos 720000) (pos 0) (pos 0)
unfolding row confident_decision passes estimate_of tensor_sums tensor_direction interior_sum row_sum gradient_x gradient_y
    total layout_refusal
ramp_256 = refl

ramp_257 : confident_decision 257 (gray8 (row (row (row []))) 10 3 10) ≡ refuses 17
unfolding row confident_decision passes estimate_of tensor_sums tensor_direction interior_sum row_sum gradient_x gradient_y
    total layout_refusal
ramp_257 = refl

-- A + E = 0
even : Gray8
even = gray8 (7 ∷ 7 ∷ 7 ∷ 7 ∷ 7 ∷ 7 ∷ 7 ∷ 7 ∷ 7 ∷ []) 3 3 3

even_0 : confident_decision 0 even ≡ found Horizontal (pos 0) (pos 0) (pos 0)
unfolding even confident_decision passes estimate_of tensor_sums tensor_direction interior_sum row_sum gradient_x gradient_y
    total layout_refusal
even_0 = refl

even_1 : confident_decision 1 even ≡ refuses 17
unfolding even confident_decision passes estimate_of tensor_sums tensor_direction interior_sum row_sum gradient_x gradient_y
    total layout_refusal
even_1 = refl

-- a side below 3
narrow_1 : confident_decision 1 (gray8 (1 ∷ 2 ∷ 3 ∷ 4 ∷ 5 ∷ 6 ∷ 7 ∷ 8 ∷ []) 2 4 2) ≡ refuses 17
unfolding confident_decision passes estimate_of tensor_sums tensor_direction interior_sum row_sum gradient_x gradient_y
    total layout_refusal
narrow_1 = refl

-- the layout comes first
short_257 : confident_decision 257 (gray8 (1 ∷ 2 ∷ 3 ∷ []) 2 4 2) ≡ refuses 4
unfolding confident_decision layout_refusal
short_257 = refl

-- E = 2^30, C = 0: A = 2 × E reaches 128 in a tie of two numbers of 78 bits, and one less misses it in their low words
large_tie : passes 128 1024 1024 (pos 2147483648) (pos 0) (pos 1073741824) ≡ true
unfolding passes
large_tie = refl

large_below : passes 128 1024 1024 (pos 2147483647) (pos 0) (pos 1073741824) ≡ false
unfolding passes
large_below = refl
