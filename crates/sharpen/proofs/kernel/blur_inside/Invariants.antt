use Rattle.numbers.specs.Written.{Written, front}
use Rattle.sharpen.specs.Passes.{inside_at}
use Rattle.sharpen.proofs.kernel.blur_inside.Given as goal

abbrev pub invariant-loop-x : goal.invariant-loop-x
invariant-loop-x l = Written 0 (front l.x) (inside_at l.row) l.initial.out l.out
