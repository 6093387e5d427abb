use Rattle.numbers.specs.Written.{Painted}
use Rattle.image.specs.Picture.{pixel}
use Rattle.sharpen.specs.Binomial.{unsharp}
use Rattle.sharpen.proofs.kernel.Blurred.sharpen.Given as goal

abbrev pub invariant-loop-y : goal.invariant-loop-y
invariant-loop-y l =
    Painted 0 (unsharp (pixel l.self.src.«data».now l.self.src.stride) l.self.src.width l.self.src.height) l.self.src.width l.y l.dst_stride
    l.initial.dst l.dst
