-- `sharpen::kernel::Blurred::sharpen_row` meets its contract: the first x bytes are written.
use Rattle.std.proofs.Common.{arith, ap₂, ◌∙◌}
use Rattle.std.proofs.Math.Nat.{add-sub_cancel_left}
use Rattle.numbers.proofs.Places.{front_none, front_next}
use Rattle.numbers.proofs.Written.{written_none, written_set}
use Rattle.image.specs.Picture.{pixel}
use Rattle.image.proofs.Accepted.{row_within}
use Rattle.image.proofs.Rows.{row_part_at}
use Rattle.sharpen.specs.Binomial.{sharper}
use Rattle.sharpen.proofs.Rows.{down_is}
use Rattle.sharpen.proofs.kernel.Blurred.sharpen_row.Goals as goal

pub loop-x-init : goal.loop-x-init
loop-x-init c = written_none (λ j _. front_none j)

pub loop-x-preserved : goal.loop-x-preserved
loop-x-preserved c =
    let k = c.loop-x in
    let src = c.args.self.src in
    let y = c.args.y in
    let end = row_within c.args.self.laid y c.requires.row in
    written_set k.x _ k.invariant (omega arith)
    (c.sharpen_pixel.ensures
    ∙ ap₂ sharper (row_part_at src.«data».now src.width src.stride y _ (add-sub_cancel_left _ _) end k.x (omega arith))
    (c.weigh.ensures
    ∙ down_is (pixel src.«data».now src.stride) src.width src.height k.x y c.tap_row-a.ensures c.tap_row-b.ensures
    c.tap_row-c.ensures c.tap_row-d.ensures c.tap_row-e.ensures (omega arith)))
    (front_next k.x)
