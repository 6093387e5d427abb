-- `sharpen::kernel::column_sum` meets its contract.
use borrow.Author.Rules.{rules}
use native.Mathlib.Omega.{arith}
use lib.ListN.{length, get_or}
use Rattle.sharpen.proofs.Binomial.{tap_lt, tap_own, tap_sum_is}
use Rattle.sharpen.proofs.kernel.column_sum.Goals as goal

pub bounds-row-a : goal.bounds-row-a
bounds-row-a c = rw c.tap_place-a.ensures (tap_lt _ _ _ (search rules))

pub bounds-row-b : goal.bounds-row-b
bounds-row-b c = rw c.tap_place-b.ensures (tap_lt _ _ _ (search rules))

pub bounds-row-d : goal.bounds-row-d
bounds-row-d c = rw c.tap_place-d.ensures (tap_lt _ _ _ (search rules))

pub bounds-row-e : goal.bounds-row-e
bounds-row-e c = rw c.tap_place-e.ensures (tap_lt _ _ _ (search rules))

pub returns : goal.returns
returns c =
    let row = c.args.row.now in
    cc (tap_sum_is (λ i. get_or row i 0) (length row) c.args.x, tap_own (length row) c.args.x (omega arith))
