use Rattle.std.proofs.Common.{◌/◌}
use Rattle.numbers.specs.Written.{Painted}
use Rattle.image.specs.Picture.{pixel}
use Rattle.resize.specs.Halving.{halved}
use Rattle.resize.proofs.half.half_rows.Given as goal

abbrev pub invariant-loop-y : goal.invariant-loop-y
invariant-loop-y l =
    Painted 0 (halved (pixel l.src.«data».now l.src.stride)) (l.src.width / 2) l.y l.dst_stride l.initial.dst l.dst
