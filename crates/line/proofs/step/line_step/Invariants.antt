use Rattle.line.specs.Kernel.{LineStepped}
use Rattle.line.proofs.step.line_step.Given as goal

abbrev pub invariant-loop-i : goal.invariant-loop-i
invariant-loop-i l = LineStepped l.n l.i l.q l.initial.scratch l.scratch
