-- Each sum is that of the first y rows, and has their size.
use Rattle.std.proofs.Common.{arith, rules, ◌-◌, ◌<◌, ◌≡◌, ◌∙◌, ap}
use Rattle.image.specs.Picture.{pixel}
use Rattle.image.specs.Refusal.{max_side}
use Rattle.tensor.specs.Tensor.{RowSums, row_sums, interior_sum, tensor_sums}
use Rattle.tensor.proofs.Gradient.{sofar_none, sums_all, row_fits, row_next}
use Rattle.tensor.proofs.Same.{taken_rows, taken_sums}
use Rattle.tensor.proofs.direction.tensor_sums.Goals as goal

pub loop-y-init : goal.loop-y-init
loop-y-init c = (sofar_none _ _, sofar_none _ _, sofar_none _ _)

pub row_sums-row-requires : goal.row_sums-row-requires
row_sums-row-requires c =
    rw (c.row.ensures, c.row-in-loop-y.ensures, c.row-in-loop-y-2.ensures)
    (taken_rows c.args.src.«data».now c.requires c.loop-y.y (omega arith))

pub overflow_add-sums-in-loop-y-2 : goal.overflow_add-sums-in-loop-y-2
overflow_add-sums-in-loop-y-2 c =
    row_fits {v = c.row_sums-row.result.e} c.loop-y.invariant.2 (omega (arith, c.requires.height_most)) (search rules) c.from-in-loop-y-2.ensures

pub loop-y-preserved : goal.loop-y-preserved
unfolding row_sums
loop-y-preserved c =
    let s = c.args.src in
    let row : c.row_sums-row.result ≡ row_sums (pixel s.«data».now s.stride) s.width c.loop-y.y =
    c.row_sums-row.ensures
    ∙ rw (c.row.ensures, c.row-in-loop-y.ensures, c.row-in-loop-y-2.ensures)
    (taken_sums s.«data».now c.requires c.loop-y.y (omega arith)) in
    let b : c.loop-y.y < max_side = omega arith in
    let inv = c.loop-y.invariant in (
      row_next inv.0 b (search rules) c.from.ensures (ap (λ (r : RowSums). r.a) row),
      row_next inv.1 b (search rules) c.from-in-loop-y.ensures (ap (λ (r : RowSums). r.c) row),
      row_next inv.2 b (search rules) c.from-in-loop-y-2.ensures (ap (λ (r : RowSums). r.e) row),
    )

pub returns-clause-sums : goal.returns-clause-sums
unfolding tensor_sums interior_sum
returns-clause-sums c =
    let k = c.loop-y in
    sums_all k.invariant (c.args.src.height - 2) (omega arith)
