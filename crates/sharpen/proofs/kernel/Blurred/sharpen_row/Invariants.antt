use Rattle.numbers.specs.Written.{Written, front}
use Rattle.image.specs.Picture.{pixel}
use Rattle.sharpen.specs.Binomial.{unsharp}
use Rattle.sharpen.proofs.kernel.Blurred.sharpen_row.Given as goal

abbrev pub invariant-loop-x : goal.invariant-loop-x
invariant-loop-x l =
    Written 0 (front l.x) (λ x. unsharp (pixel l.self.src.«data».now l.self.src.stride) l.self.src.width l.self.src.height x l.y)
    l.initial.dst l.dst
