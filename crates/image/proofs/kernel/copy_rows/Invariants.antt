use Rattle.numbers.specs.Written.{Painted}
use Rattle.image.specs.Picture.{pixel}
use Rattle.image.proofs.kernel.copy_rows.Given as goal

abbrev pub invariant-loop-y : goal.invariant-loop-y
invariant-loop-y l = Painted 0 (pixel l.src.«data».now l.src.stride) l.src.width l.y l.dst_stride l.initial.dst l.dst
