-- Product and sum fit by what is required.
use mir.Facts.{to_z-of_z, sfits_widen}
use Rattle.std.proofs.Common.{◌∙◌, ap₂, arith, ◌+ℤ◌, ◌*ℤ◌, w32}
use Rattle.numbers.proofs.Int.Machine.{held, sfits_add, sfits_mul}
use Rattle.numbers.proofs.Int.Size.{nat_abs_mul}
use Rattle.tensor.proofs.direction.add_product.Goals as goal

pub returns : goal.returns
returns c =
    let r = c.ranges in
    let u = c.args.u in
    let v = c.args.v in
    let product = ap₂ ◌*ℤ◌ (held {w = w32} (c.from.ensures ∙ to_z-of_z r.u) (sfits_widen (tt {0}) r.u))
    (held {w = w32} (c.from-2.ensures ∙ to_z-of_z r.v) (sfits_widen (tt {0}) r.v)) in
    held {w = w32} (ap₂ ◌+ℤ◌ (to_z-of_z r.sum) (held {w = w32} product (sfits_mul u v (omega arith))))
    (sfits_add c.args.sum (u *ℤ v) (omega (arith, nat_abs_mul u v)))
