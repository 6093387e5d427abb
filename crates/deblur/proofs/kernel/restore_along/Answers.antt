-- `deblur::kernel::restore_along` meets its contract: the lines' at the strides of rows.
use Rattle.numbers.specs.Scalar.{clamp_byte}
use Rattle.deblur.specs.Lines.{kernel_estimate}
use Rattle.deblur.proofs.Along.{along_painted}
use Rattle.deblur.proofs.RowStride.{painted_stride}
use Rattle.deblur.proofs.kernel.restore_along.Goals as goal

pub returns : goal.returns
returns c =
    let a = c.args in
    let src = a.src in
    let laid = c.requires.laid_dst in
    let painted = rw (c.row_stride.ensures, c.row_stride-dst_stride.ensures) at c.write_lines.ensures in
    painted_stride
    (λ x y. clamp_byte (kernel_estimate src.«data».now src.width src.height src.stride a.direction a.kernel x y))
    src.width src.height a.dst_stride laid.width_pos laid.stride_least
    (along_painted clamp_byte src.«data».now src.width src.height src.stride _ a.direction a.kernel painted)
