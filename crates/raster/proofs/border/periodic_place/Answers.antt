-- `raster::border::periodic_place` meets its contract.
use Rattle.std.proofs.Common.{◌≡◌, ℕ, ◌-◌, ap, ◌∙◌, Bool}
use lib.IntN.{ℤ, sub_ℕ}
use Rattle.raster.specs.Border.{modℤ}
use Rattle.raster.proofs.BorderMap.{long_period, periodic_low}
use Rattle.raster.proofs.BorderMap.{wrapped_high}
use Rattle.raster.proofs.border.periodic_place.Goals as goal

-- the remainder, as the laws have it
rest-is : (r period length : ℕ) (wraps : Bool) (p : ℤ) → r ≡ modℤ p period → period ≡ long_period length wraps
    → r ≡ modℤ p (long_period length wraps)
rest-is r period length wraps p e f = e ∙ ap (modℤ p) f

pub returns-then-remainder-length : goal.returns-then-remainder-length
returns-then-remainder-length c =
    let a = c.args in
    let p = sub_ℕ a.u a.half in
    let e = rest-is _ _ a.length a.wraps p c.rem_euclid-remainder.ensures c.long_period-period.ensures in
    e ∙ periodic_low a.length a.wraps p c.requires.0 (rw e at c.if-remainder-length.true)

pub returns-then-wraps : goal.returns-then-wraps
returns-then-wraps c =
    let a = c.args in
    let p = sub_ℕ a.u a.half in
    let e = rest-is _ _ a.length a.wraps p c.rem_euclid-remainder.ensures c.long_period-period.ensures in
    ap (◌- a.length) e
    ∙ wrapped_high a.length a.wraps p c.if-wraps.true c.requires.0 (rw e at c.if-remainder-length.false)
