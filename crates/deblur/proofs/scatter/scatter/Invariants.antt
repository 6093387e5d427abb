use Rattle.deblur.proofs.Scattering.{ScatteredTo}
use Rattle.deblur.proofs.scatter.scatter.Given as goal

abbrev pub invariant-loop-i : goal.invariant-loop-i
invariant-loop-i g l =
    let e = g.E.Estimated in
    ScatteredTo e.none e.of_estimate l.i l.places.len l.scratch l.places.start l.places.step l.initial.dst l.dst
