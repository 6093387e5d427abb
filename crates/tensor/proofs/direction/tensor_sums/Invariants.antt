-- Each sum is that of the first y rows, and has their size.
use Rattle.std.proofs.Common.{List, ℕ, ℤ}
use Rattle.image.specs.Picture.{pixel}
use Rattle.tensor.specs.Tensor.{gradient_x, gradient_y, row_sum}
use Rattle.tensor.proofs.Gradient.{Sofar}
use Rattle.tensor.proofs.direction.tensor_sums.Given as goal

-- the gradients of the picture
abbrev pub gx : List ℕ → ℕ → ℕ → ℕ → ℤ
gx bytes stride = gradient_x (pixel bytes stride)

abbrev pub gy : List ℕ → ℕ → ℕ → ℕ → ℤ
gy bytes stride = gradient_y (pixel bytes stride)

abbrev pub invariant-loop-y : goal.invariant-loop-y
invariant-loop-y l =
    Sofar (row_sum (gx l.src.«data».now l.src.stride) (gx l.src.«data».now l.src.stride) l.src.width) 2147483648 l.y l.sums.a
    × Sofar (row_sum (gx l.src.«data».now l.src.stride) (gy l.src.«data».now l.src.stride) l.src.width) 2147483648 l.y l.sums.c
    × Sofar (row_sum (gy l.src.«data».now l.src.stride) (gy l.src.«data».now l.src.stride) l.src.width) 2147483648 l.y l.sums.e
