-- `direction::whole_rest` ends: each call halves a whole number.
use Rattle.std.specs.Float.Ieee.Positive.{num}
use Rattle.raster.proofs.direction.+whole_rest.Given as goal

abbrev pub decreases-whole_rest : goal.decreases-whole_rest
decreases-whole_rest l = num l.x
