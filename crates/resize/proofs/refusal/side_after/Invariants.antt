use Rattle.std.proofs.Common.{◌≡◌, ◌-◌}
use Rattle.resize.specs.Halving.{side_after}
use Rattle.resize.proofs.refusal.side_after.Given as goal

abbrev pub invariant-loop : goal.invariant-loop
invariant-loop l = side_after (l.count - l.counter) l.now ≡ side_after l.count l.side
