-- `pgm::pixels_of` meets its contract.
use Rattle.pgm.proofs.Headers.{part_within}
use Rattle.pgm.proofs.pixels_of.Goals as goal

pub slice_bounds-result-count : goal.slice_bounds-result-count
slice_bounds-result-count c = part_within _ c.in-Ok.ensures

pub slice_bounds-result-start : goal.slice_bounds-result-start
slice_bounds-result-start c = part_within _ c.in-Ok.ensures
