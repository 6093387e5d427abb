-- `direction::nearest_direction` meets its contract: each return by the tests that lead to it. Assumes nothing.
use Rattle.raster.specs.Direction.{nearest}
use Rattle.raster.proofs.direction.nearest_direction.Goals as goal

pub returns-then-v : goal.returns-then-v
unfolding nearest
returns-then-v c = simp c.if-v.true

pub returns-then-v-2 : goal.returns-then-v-2
unfolding nearest
returns-then-v-2 c = simp (c.if-v.false, c.if-v-2.true)

pub returns-then-v-3 : goal.returns-then-v-3
unfolding nearest
returns-then-v-3 c = simp (c.if-v.false, c.if-v-2.false, c.if-v-3.true)

pub returns-then-v-4 : goal.returns-then-v-4
unfolding nearest
returns-then-v-4 c =
    simp (c.if-v.false, c.if-v-2.false, c.if-v-3.false, c.if-v-4.true)

pub returns : goal.returns
unfolding nearest
returns c =
    simp (c.if-v.false, c.if-v-2.false, c.if-v-3.false, c.if-v-4.false)
