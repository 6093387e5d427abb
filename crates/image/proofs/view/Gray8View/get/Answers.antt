-- `image::Gray8View::get` meets its contract.
use Rattle.std.proofs.Common.{arith}
use Rattle.image.proofs.Accepted.{row_within}
use Rattle.image.proofs.Call.{accepted_has}
use Rattle.image.proofs.view.Gray8View.get.Goals as goal

pub bounds-self-y : goal.bounds-self-y
bounds-self-y c =
    let h = accepted_has _ c.check.ensures.laid c.is_err.ensures.value c.if-is_err.false in
    omega (arith, row_within h c.args.y c.if-y-self.false)
