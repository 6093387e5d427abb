-- `pgm::header::picture_of` meets its contract.
use Rattle.std.proofs.Common.{sym, arith, mul-le-mul}
use Rattle.image.proofs.Accepted.{sides_few}
use Rattle.image.proofs.Call.{decided_accepts}
use Rattle.pgm.proofs.header.picture_of.Goals as goal

pub overflow_mul-header : goal.overflow_mul-header
overflow_mul-header c =
    let few = sides_few _ _ (decided_accepts _ _ _ (sym c.in_ok-check_sides.ensures.number)).0 in
    omega (arith, mul-le-mul few.0 few.1)
