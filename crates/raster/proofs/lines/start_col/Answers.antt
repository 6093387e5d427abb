-- `lines::start_col` meets its contract: each arm by the variant that it is for and the test in it. Assumes nothing.
use borrow.Author.Tests.{lt-ltb, le-ltb}
use Rattle.raster.specs.Lines.{start_col}
use Rattle.raster.proofs.lines.start_col.Goals as goal

pub returns-in-Horizontal : goal.returns-in-Horizontal
unfolding start_col
returns-in-Horizontal c = simp c.in-Horizontal.is

pub returns-then-k-width : goal.returns-then-k-width
unfolding start_col
returns-then-k-width c = simp (c.in-DownRight.is, lt-ltb _ _ c.if-k-width.true)

pub returns-else-k-width : goal.returns-else-k-width
unfolding start_col
returns-else-k-width c = simp (c.in-DownRight.is, le-ltb _ _ c.if-k-width.false)

pub returns-in-Vertical : goal.returns-in-Vertical
unfolding start_col
returns-in-Vertical c = simp c.in-Vertical.is

pub returns-then-k-width-2 : goal.returns-then-k-width-2
unfolding start_col
returns-then-k-width-2 c = simp (c.in-DownLeft.is, lt-ltb _ _ c.if-k-width-2.true)

pub returns-else-k-width-2 : goal.returns-else-k-width-2
unfolding start_col
returns-else-k-width-2 c = simp (c.in-DownLeft.is, le-ltb _ _ c.if-k-width-2.false)
