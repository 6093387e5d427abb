-- `swings::scan::Scanner::next`: what `next_swing` says, with the number of swings, the strongest and their span.
use mathlib.Core.Path.{◌∙◌, ap, ap₂}
use native.Mathlib.Omega.{arith}
use mir.Syntax.{w32}
use mir.Facts.{to_z-of_z}
use Rattle.std.specs.Int.{int_max}
use Rattle.image.specs.View.{seen}
use Rattle.swings.specs.Scan.{raised_to}
use Rattle.swings.proofs.Strongest.{larger_is}
use Rattle.swings.proofs.Scans.{scan_stops, scan_goes}
use Rattle.swings.proofs.scan.Scanner.next.Goals as goal

pub returns-in_err-swing : goal.returns-in_err-swing
returns-in_err-swing c =
    let a = c.args in
    let least = c.raised-least.ensures
    ∙ ap (raised_to a.self.plan.minimum_amplitude) (to_z-of_z {w = w32} {z = a.s.strongest} (record { sfits = omega arith })) in
    let says = c.in_err-swing.ensures in
    rw c.from_residual.ensures (scan_stops (seen a.self.src) a.self.plan a.s (rw least at says.list))

pub returns : goal.returns
returns c =
    let a = c.args in
    let swing = c.in_ok-swing.swing in
    let least = c.raised-least.ensures
    ∙ ap (raised_to a.self.plan.minimum_amplitude) (to_z-of_z {w = w32} {z = a.s.strongest} (record { sfits = omega arith })) in
    let says = c.in_ok-swing.ensures in
    let o = says.opened in
    scan_goes (seen a.self.src) a.self.plan a.s (rw least at says.list)
    (record { within = o.within; shut = o.shut; start_is = o.start_is; len_is = o.len_is })
    (to_z-of_z {w = w32} (record { sfits = c.max.type_inv })
    ∙ c.max.ensures.value
    ∙ ap₂ int_max (to_z-of_z {w = w32} {z = a.s.strongest} (record { sfits = omega arith }))
    (to_z-of_z {w = w32} {z = swing.swing} (record { sfits = omega arith }))
    ∙ larger_is a.s.strongest swing.swing)
    c.widened.ensures
