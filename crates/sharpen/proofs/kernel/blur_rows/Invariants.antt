use Rattle.std.proofs.Common.{ℕ, ◌≤◌, ◌<◌}
use Rattle.numbers.specs.Written.{Painted}
use Rattle.sharpen.proofs.Rows.{row_sum}
use Rattle.sharpen.proofs.kernel.blur_rows.Given as goal

-- the sums of the first y rows are written, and none is large
abbrev pub invariant-loop-y : goal.invariant-loop-y
invariant-loop-y l =
    let src = l.src in
    Painted 0 (row_sum src.«data».now src.stride src.width) src.width l.y src.width l.initial.scratch l.scratch
    × ((r : ℕ) → r < l.y → (x : ℕ) → x < src.width → row_sum src.«data».now src.stride src.width x r ≤ 4080)
