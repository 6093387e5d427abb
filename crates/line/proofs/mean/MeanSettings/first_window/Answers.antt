-- `MeanSettings::first_window` meets its contract.
use Rattle.line.proofs.BorderShape.{replicate_flat, constant_flat, reflect_periodic, wrap_periodic}
use Rattle.line.proofs.mean.MeanSettings.first_window.Goals as goal

pub periodic_window-requires : goal.periodic_window-requires
periodic_window-requires c =
    let n = c.args.self.n in
    (c.requires, rw (c.in-Reflect.is, c.reflected_period.ensures) (reflect_periodic n c.requires.some))

pub flat_window-requires : goal.flat_window-requires
flat_window-requires c = (c.requires, rw c.in-Replicate.is (replicate_flat c.args.self.n))

pub flat_window-requires-in-Constant : goal.flat_window-requires-in-Constant
flat_window-requires-in-Constant c = (c.requires, rw c.in-Constant.is (constant_flat _ c.args.self.n))

pub periodic_window-requires-in-Wrap : goal.periodic_window-requires-in-Wrap
periodic_window-requires-in-Wrap c =
    (c.requires, rw c.in-Wrap.is (wrap_periodic c.args.self.n c.requires.some))
