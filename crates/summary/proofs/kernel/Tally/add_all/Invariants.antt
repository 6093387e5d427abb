use Rattle.std.proofs.Common.{◌≡◌}
use Rattle.summary.specs.File.{parts}
use Rattle.summary.specs.Tally.{added_parts, Held}
use Rattle.summary.proofs.kernel.Tally.add_all.Given as goal

-- what is left to add is the same at each turn
abbrev pub invariant-loop-part : goal.invariant-loop-part
invariant-loop-part l =
    (l.part-iterator.size ≡ 32)
    × Held l.tally
    × (added_parts l.tally (parts l.part-iterator.rest.now) ≡ added_parts l.initial.tally (parts l.records))
