-- `image::kernel::copy_rows` meets its contract: the first y rows are written.
use Rattle.std.proofs.Common.{arith, ◌*◌, ◌+◌, ◌≤◌, length, sym, ◌∙◌}
use Rattle.std.proofs.Math.Nat.{add-sub_cancel_left}
use Rattle.numbers.proofs.Places.{pixels_none}
use Rattle.numbers.proofs.Written.{written_none}
use Rattle.image.specs.Picture.{pixel}
use Rattle.image.proofs.Accepted.{row_within}
use Rattle.image.proofs.Rows.{row_part_length, row_part_at, painted_row, copied_whole}
use Rattle.image.proofs.kernel.copy_rows.Goals as goal

pub loop-y-init : goal.loop-y-init
loop-y-init c = written_none (λ j _. pixels_none _ _ j)

pub loop-y-preserved : goal.loop-y-preserved
loop-y-preserved c =
    let src = c.args.src in
    let stride = c.args.dst_stride in
    let k = c.loop-y in
    let src_end : k.y * src.stride + src.width ≤ length src.«data».now = row_within c.requires.laid k.y c.loop-y-test.true in
    let dst_end : k.y * stride + src.width ≤ length k.dst =
    omega (arith, row_within c.requires.laid_dst k.y c.loop-y-test.true) in
    let from = row_part_length src.«data».now src.width src.stride k.y _ (add-sub_cancel_left (k.y * src.stride) src.width) src_end in
    let to = row_part_length k.dst src.width stride k.y _ (add-sub_cancel_left (k.y * stride) src.width) dst_end in
    painted_row (pixel src.«data».now src.stride) _ src.width stride k.y _ _ _ _ _ from
    (add-sub_cancel_left (k.y * stride) src.width) c.requires.laid_dst.stride_least dst_end
    (row_part_at src.«data».now src.width src.stride k.y _ (add-sub_cancel_left (k.y * src.stride) src.width) src_end)
    k.invariant (copied_whole _ _ (from ∙ sym to) c.copy_from_slice.ensures.after)
