-- `deblur::lines::restore_scan_line` meets its contract: the line lies in an accepted picture, and its samples are its
-- bytes.
use native.Mathlib.Omega.{arith}
use mathlib.Core.Path.{refl}
use Rattle.deblur.proofs.LineByLine.{line_start, line_asked, line_estimates}
use Rattle.deblur.proofs.lines.restore_scan_line.Goals as goal

pub places_of-requires : goal.places_of-requires
places_of-requires c =
    let a = c.args in
    let w = c.requires.asked.walked in
    let first = line_start w.laid a.direction a.k c.requires.below c.line_at-line.result c.line_at-line.ensures _ refl in
    (omega (arith, w.laid.width_pos, w.laid.stride_least), w.stride_most, omega (arith, first))

pub restore_line-requires-clause-asked : goal.restore_line-requires-clause-asked
restore_line-requires-clause-asked c =
    let a = c.args in
    let asked = c.requires.asked in
    rw c.places_of.ensures
    (line_asked asked.walked.laid a.direction a.k c.requires.below c.line_at-line.result c.line_at-line.ensures _ refl _
    asked.room)

pub returns : goal.returns
returns c =
    let a = c.args in
    record {
      line_is = c.line_at-line.ensures;
      estimates =
          line_estimates c.requires.asked.walked.laid a.direction a.k c.requires.below c.line_at-line.result
          c.line_at-line.ensures _ refl a.src.data.now a.kernel c.restore_line.new.scratch
          (rw c.places_of.ensures at c.restore_line.ensures);
    }
