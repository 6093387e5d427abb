-- `sharpen::kernel::Blurred::sharpen` meets its contract: the first y rows are written.
use Rattle.std.proofs.Common.{arith, refl, ◌*◌, ◌+◌, ◌≤◌, length}
use Rattle.std.proofs.Math.Nat.{add-sub_cancel_left}
use Rattle.numbers.proofs.Places.{pixels_none}
use Rattle.numbers.proofs.Written.{written_none}
use Rattle.image.specs.Picture.{pixel}
use Rattle.image.proofs.Accepted.{row_within}
use Rattle.image.proofs.Rows.{row_part_length, painted_row}
use Rattle.sharpen.specs.Binomial.{unsharp}
use Rattle.sharpen.proofs.kernel.Blurred.sharpen.Goals as goal

pub loop-y-init : goal.loop-y-init
loop-y-init c = written_none (λ j _. pixels_none _ _ j)

pub loop-y-preserved : goal.loop-y-preserved
loop-y-preserved c =
    let src = c.args.self.src in
    let stride = c.args.dst_stride in
    let k = c.loop-y in
    let end : k.y * stride + src.width ≤ length k.dst = omega (arith, row_within c.requires.laid k.y c.loop-y-test.true) in
    painted_row (unsharp (pixel src.«data».now src.stride) src.width src.height) _ src.width stride k.y _ _ _ _ _
    (row_part_length k.dst src.width stride k.y _ (add-sub_cancel_left (k.y * stride) src.width) end)
    (add-sub_cancel_left (k.y * stride) src.width) c.requires.laid.stride_least end (λ x h. refl) k.invariant
    c.sharpen_row.ensures
