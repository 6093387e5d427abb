-- The measure is how many halvings are behind the first.
use Rattle.resize.proofs.times.+halve_on.Given as goal

abbrev pub decreases-halve_on : goal.decreases-halve_on
decreases-halve_on l = l.more
