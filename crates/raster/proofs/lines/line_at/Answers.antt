-- `lines::line_at` meets its contract: its parts' contracts, and that a line starts at a pixel. Assumes nothing.
use native.Mathlib.Omega.{arith}
use Rattle.raster.proofs.Place.{line_in}
use Rattle.raster.proofs.lines.line_at.Goals as goal

pub length_from-requires : goal.length_from-requires
length_from-requires c =
    let p = c.requires in
    let a = c.args in
    omega (arith, line_in a.direction a.width a.height a.k p.0.some_columns p.0.some_rows p.1)
