use Rattle.deblur.proofs.LineByLine.{LinesTo}
use Rattle.deblur.proofs.lines.write_lines.Given as goal

abbrev pub invariant-loop-k : goal.invariant-loop-k
invariant-loop-k g l =
    let e = g.E.Estimated in
    LinesTo e.none e.of_estimate l.src.«data».now l.src.width l.src.height l.src.stride l.dst_stride l.direction l.kernel
    l.k l.initial.dst l.dst
