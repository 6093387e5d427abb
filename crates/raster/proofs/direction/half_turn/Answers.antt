-- `direction::half_turn` meets its contract: by the sign of the rest. Assumes nothing.
use Rattle.raster.specs.Direction.{half_turn}
use Rattle.raster.proofs.direction.half_turn.Goals as goal

pub returns-then-rest : goal.returns-then-rest
unfolding half_turn
returns-then-rest c =
    let below = rw c.rest_of-rest.ensures at c.if-rest.true in
    rw (c.rest_of-rest.ensures, below)

pub returns : goal.returns
unfolding half_turn
returns c =
    let not-below = rw c.rest_of-rest.ensures at c.if-rest.false in
    rw (c.rest_of-rest.ensures, not-below)
