-- `deblur::lines::write_lines` meets its contract: after k turns the lines below k are written.
use Rattle.std.proofs.Common.{◌≡◌, length, arith, refl, ◌∙◌}
use Rattle.deblur.proofs.LineByLine.{lines_begun, lines_done, turn_restored, turn_first, turn_scatter, turn_further}
use Rattle.deblur.proofs.lines.write_lines.Goals as goal

pub loop-k-init : goal.loop-k-init
loop-k-init g c =
    let a = c.args in
    lines_begun g.E.Estimated.of_estimate a.src.«data».now a.src.width a.src.height a.src.stride a.dst_stride a.direction
    a.kernel

pub places_of-requires : goal.places_of-requires
places_of-requires g c =
    let d = c.requires.destination in
    let kept : length c.restore_scan_line-line.new.scratch ≡ length c.args.scratch.now = omega arith in
    let turn = turn_restored c.requires c.line_count-k-end.ensures c.loop-k-test.true refl kept c.restore_scan_line-line.ensures
    in
    (omega (arith, d.laid.width_pos, d.laid.stride_least), d.stride_most, omega (arith, turn_first turn))

pub scatter-requires : goal.scatter-requires
scatter-requires g c =
    let kept : length c.restore_scan_line-line.new.scratch ≡ length c.args.scratch.now = omega arith in
    let turn = turn_restored c.requires c.line_count-k-end.ensures c.loop-k-test.true refl kept c.restore_scan_line-line.ensures
    in
    rw c.places_of.ensures (turn_scatter turn c.loop-k.invariant.same_length)

pub loop-k-preserved : goal.loop-k-preserved
loop-k-preserved g c =
    let kept : length c.restore_scan_line-line.new.scratch ≡ length c.args.scratch.now = omega arith in
    let turn = turn_restored c.requires c.line_count-k-end.ensures c.loop-k-test.true refl kept c.restore_scan_line-line.ensures
    in
    turn_further turn g.E.Estimated.of_estimate c.loop-k.invariant (rw c.places_of.ensures at c.scatter.ensures)

pub returns : goal.returns
returns g c =
    let a = c.args in
    let e : c.loop-k.k ≡ c.line_count-k-end.result = omega arith in
    lines_done g.E.Estimated.of_estimate a.src.«data».now a.src.width a.src.height a.src.stride a.dst_stride a.direction
    a.kernel c.requires.destination.laid (e ∙ c.line_count-k-end.ensures) c.loop-k.invariant
