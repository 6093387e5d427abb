-- `line::mean::floor_mean` meets its contract.
use native.Mathlib.Nat.{mul-le-mul_left}
use native.Mathlib.Omega.{arith}
use Rattle.line.proofs.KernelSum.{largest_most, euclid_floors}
use Rattle.line.proofs.mean.floor_mean.Goals as goal

pub returns : goal.returns
returns c =
    let a = c.args in
    let d = c.requires.0 in
    let most = mul-le-mul_left a.blur_length (largest_most a.reciprocal) in
    euclid_floors c.ranges.sum d.long d.bounded (omega (arith, most, c.requires.1)) c.div_euclid.ensures
