-- Where z exceeds y, the products decide.
use Rattle.std.proofs.Common.{arith}
use Rattle.tensor.proofs.Floor.{reach_by_products}
use Rattle.tensor.proofs.confidence.squares_reach.Goals as goal

pub returns : goal.returns
returns c =
    let a = c.args in
    let law = reach_by_products a.x a.y a.z (omega arith) in
    grind (arith, c.products_reach.ensures, law)
