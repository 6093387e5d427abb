-- `deblur::kernel::estimates_along` meets its contract: the lines' at the stride of rows.
use Rattle.deblur.proofs.Along.{along_painted}
use Rattle.deblur.proofs.kernel.estimates_along.Goals as goal

pub returns : goal.returns
returns c =
    let a = c.args in
    along_painted (λ v. v) a.src.«data».now a.src.width a.src.height a.src.stride _ a.direction a.kernel
    (rw c.row_stride.ensures at c.write_lines.ensures)
