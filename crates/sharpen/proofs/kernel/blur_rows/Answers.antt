-- `sharpen::kernel::blur_rows` meets its contract: the sums of the first y rows are written.
use Rattle.std.proofs.Common.{arith, below_more, ℕ, ◌+◌, ◌*◌, ◌≤◌, ◌<◌, ◌≡◌, length}
use Rattle.std.proofs.Math.Nat.{add-sub_cancel_left, le_refl}
use Rattle.numbers.proofs.Places.{pixels_none}
use Rattle.numbers.proofs.Written.{written_none}
use Rattle.image.proofs.Accepted.{row_within}
use Rattle.image.proofs.Rows.{row_end_within, row_part_length, painted_row}
use Rattle.sharpen.proofs.Rows.{row_sum, row_sums_lem, row_part_sum}
use Rattle.sharpen.proofs.kernel.blur_rows.Goals as goal

pub loop-y-init : goal.loop-y-init
loop-y-init c = (written_none (λ j _. pixels_none _ _ j), λ r l. absurd (omega (arith, l)))

pub loop-y-preserved : goal.loop-y-preserved
loop-y-preserved c =
    let src = c.args.src in
    let k = c.loop-y in
    let from : k.y * src.stride + src.width ≤ length src.«data».now = row_within c.requires.laid k.y c.loop-y-test.true in
    let to : k.y * src.width + src.width ≤ length k.scratch =
    omega (arith, row_end_within src.width src.height k.y c.loop-y-test.true) in
    let part = add-sub_cancel_left (k.y * src.stride) src.width in
    let small : (x : ℕ) → x < src.width → row_sum src.«data».now src.stride src.width x k.y ≤ 4080 = λ x h.
    rw (← row_part_sum src.«data».now src.width src.stride k.y _ part from x h)
    (c.blur_row.ensures.most x (rw (row_part_length src.«data».now src.width src.stride k.y _ part from) h)) in (
      painted_row (row_sum src.«data».now src.stride src.width) _ src.width src.width k.y _ _ _ _ _
          (row_part_length _ _ src.stride k.y _ (add-sub_cancel_left _ _) from) (add-sub_cancel_left _ _)
          (le_refl _) to (row_part_sum _ _ src.stride k.y _ (add-sub_cancel_left _ _) from) k.invariant.0
          c.blur_row.ensures.sums,
      below_more (λ (r : ℕ). (x : ℕ) → x < src.width → row_sum src.«data».now src.stride src.width x r ≤ 4080) k.y
          k.invariant.1 small,
    )

pub returns : goal.returns
returns c =
    let src = c.args.src in
    let k = c.loop-y in
    let e : k.y ≡ src.height = omega arith in
    let all = rw e at k.invariant in
    row_sums_lem src.«data».now src.width src.height src.stride _ _ c.requires.height_in_bounds all.1 all.0
