use Rattle.std.proofs.Common.{◌≡◌, ◌-◌, length}
use Rattle.summary.specs.File.{max_records}
use Rattle.summary.specs.Tally.{Held}
use Rattle.sheet.proofs.tally_input.Given as goal

abbrev pub invariant-loop-bytes : goal.invariant-loop-bytes
invariant-loop-bytes g l = Held l.tally × (length l.bytes ≡ 65536)

abbrev pub decreases-loop-bytes : goal.decreases-loop-bytes
decreases-loop-bytes g l = max_records - l.tally.records
