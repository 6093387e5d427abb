use Rattle.line.specs.Kernel.{bytes_on, Iterated}
use Rattle.line.proofs.kernel.restore_line.Given as goal

abbrev pub invariant-loop-k : goal.invariant-loop-k
invariant-loop-k l = Iterated l.kernel l.places.len (bytes_on l.data l.places.start l.places.step) l.k l.scratch
