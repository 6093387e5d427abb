-- `resize::half::half_rows` meets its contract: the first y rows are written.
use Rattle.std.proofs.Common.{◌+◌, ◌*◌, ◌/◌, ◌≤◌, length, arith}
use Rattle.std.proofs.Math.Nat.{add-sub_cancel_left}
use Rattle.numbers.proofs.Places.{pixels_none}
use Rattle.numbers.proofs.Written.{written_none}
use Rattle.image.specs.Picture.{pixel}
use Rattle.image.proofs.Accepted.{row_within}
use Rattle.image.proofs.Rows.{row_part_length, painted_row}
use Rattle.resize.specs.Halving.{halved}
use Rattle.resize.proofs.Means.{half_at_is}
use Rattle.resize.proofs.half.half_rows.Goals as goal

pub loop-y-init : goal.loop-y-init
loop-y-init c = written_none (λ j _. pixels_none _ _ j)

pub loop-y-preserved : goal.loop-y-preserved
loop-y-preserved c =
    let src = c.args.src in
    let stride = c.args.dst_stride in
    let k = c.loop-y in
    let to : k.y * stride + src.width / 2 ≤ length k.dst =
    omega (arith, row_within c.requires.laid_2 k.y c.loop-y-test.true) in
    let below = row_within c.requires.laid (2 * k.y + 1) (omega (arith, c.loop-y-test.true)) in
    painted_row (halved (pixel src.«data».now src.stride)) _ (src.width / 2) stride k.y _ _ _ _ _
    (row_part_length _ _ stride _ _ (add-sub_cancel_left _ _) to) (add-sub_cancel_left _ _)
    c.requires.laid_2.stride_least to
    (half_at_is src.«data».now src.width src.stride k.y _ _ (add-sub_cancel_left _ _) (add-sub_cancel_left _ _) below)
    k.invariant c.half_row.ensures
