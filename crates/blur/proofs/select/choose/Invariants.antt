-- From the digit on, with what is left of the place, the same is chosen.
use Rattle.std.proofs.Common.{◌≡◌, drop}
use Rattle.blur.specs.Select.{pick_from}
use Rattle.blur.proofs.select.choose.Given as goal

abbrev pub invariant-loop-digit : goal.invariant-loop-digit
invariant-loop-digit l = pick_from (drop l.digit l.counts) l.digit l.left ≡ pick_from l.counts 0 l.place
