-- `sharpen::kernel::Blurred::tap_row` meets its contract.
use Rattle.std.proofs.Common.{arith}
use Rattle.std.proofs.Math.Nat.{add-sub_cancel_left}
use Rattle.image.specs.Picture.{pixel}
use Rattle.sharpen.proofs.Binomial.{tap_lt}
use Rattle.sharpen.proofs.Rows.{tap_end, sums_row}
use Rattle.sharpen.proofs.kernel.Blurred.tap_row.Goals as goal

pub overflow_mul-start : goal.overflow_mul-start
overflow_mul-start c =
    let b = c.args.self in
    omega (arith, tap_end b.src.width b.src.height _ _ c.tap_place.ensures c.requires.0 b.fits)

pub overflow_add-result : goal.overflow_add-result
overflow_add-result c =
    let b = c.args.self in
    omega (arith, tap_end b.src.width b.src.height _ _ c.tap_place.ensures c.requires.0 b.fits)

pub offset_bounds-self-start : goal.offset_bounds-self-start
offset_bounds-self-start c =
    let b = c.args.self in
    omega (arith, tap_end b.src.width b.src.height _ _ c.tap_place.ensures c.requires.0 b.fits)

pub slice_bounds-result-end : goal.slice_bounds-result-end
slice_bounds-result-end c =
    let b = c.args.self in
    tap_end b.src.width b.src.height _ _ c.tap_place.ensures c.requires.0 b.fits

pub returns : goal.returns
returns c =
    let b = c.args.self in
    rw (← c.tap_place.ensures)
    (sums_row (pixel b.src.«data».now b.src.stride) b.src.width b.src.height b.sums.now c.tap_place.result _
    b.row_sums b.fits (add-sub_cancel_left _ _) (rw c.tap_place.ensures (tap_lt _ _ _ c.requires.0)))
