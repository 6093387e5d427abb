-- Each sum is that of the first x products, and has their size.
use Rattle.std.proofs.Common.{List, ℕ, ℤ, ◌*ℤ◌}
use Rattle.tensor.specs.Tensor.{gradient_x, gradient_y, three_rows}
use Rattle.tensor.proofs.Gradient.{Sofar}
use Rattle.tensor.proofs.direction.row_sums.Given as goal

-- the gradients in column x + 1 of the row between
abbrev pub gx : List ℕ → List ℕ → List ℕ → ℕ → ℤ
gx above here below x = gradient_x (three_rows above here below) x 0

abbrev pub gy : List ℕ → List ℕ → List ℕ → ℕ → ℤ
gy above here below x = gradient_y (three_rows above here below) x 0

abbrev pub invariant-loop-x : goal.invariant-loop-x
invariant-loop-x l =
    Sofar (λ i. gx l.above l.here l.below i *ℤ gx l.above l.here l.below i) 1040400 l.x l.sums.a
    × Sofar (λ i. gx l.above l.here l.below i *ℤ gy l.above l.here l.below i) 1040400 l.x l.sums.c
    × Sofar (λ i. gy l.above l.here l.below i *ℤ gy l.above l.here l.below i) 1040400 l.x l.sums.e
