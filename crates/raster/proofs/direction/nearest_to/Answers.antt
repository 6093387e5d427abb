-- `direction::nearest_to` meets its contract: the two parts' contracts, one after the other. Assumes nothing.
use Rattle.raster.specs.Direction.{nearest_to}
use Rattle.raster.proofs.direction.nearest_to.Goals as goal

pub returns : goal.returns
unfolding nearest_to
returns c = simp (c.nearest_direction.ensures, c.half_turn.ensures)
