-- Each sum is that of the first x products, and has their size.
use Rattle.std.proofs.Common.{arith, ◌-◌, ◌<◌, refl, length, w16}
use Rattle.image.specs.Refusal.{max_side}
use Rattle.tensor.specs.Tensor.{gradient_y, row_sum, row_sums}
use Rattle.tensor.proofs.Gradient.{sofar_none, sums_all, gradient_held, product_next}
use Rattle.tensor.proofs.direction.row_sums.Goals as goal

pub loop-x-init : goal.loop-x-init
loop-x-init c = (sofar_none _ _, sofar_none _ _, sofar_none _ _)

pub loop-x-preserved : goal.loop-x-preserved
unfolding gradient_y
loop-x-preserved c =
    let inv = c.loop-x.invariant in
    let b : c.loop-x.x < max_side = omega arith in
    let gx = gradient_held {w = w16} (record { sfits = c.gradient_x-gx.type_inv }) c.gradient_x-gx.ensures in
    let gy = gradient_held {w = w16} (record { sfits = c.gradient_y-gy.type_inv }) c.gradient_y-gy.ensures in (
      product_next inv.0 b gx gx refl (record { sfits = c.add_product.type_inv }) c.add_product.ensures,
      product_next inv.1 b gx gy refl (record { sfits = c.add_product-in-loop-x.type_inv }) c.add_product-in-loop-x.ensures,
      product_next inv.2 b gy gy refl (record { sfits = c.add_product-in-loop-x-2.type_inv }) c.add_product-in-loop-x-2.ensures,
    )

pub returns : goal.returns
unfolding row_sums row_sum
returns c =
    let k = c.loop-x in
    sums_all k.invariant (length c.args.here.now - 2) (omega arith)
