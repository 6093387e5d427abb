-- `pgm::lines::put_number` meets its contract.
use Prim.Native.Nat.{ℕ, ◌+◌, ◌≤◌, ◌<◌}
use mathlib.Core.Path.{◌≡◌, ap}
use native.Mathlib.Omega.{arith}
use lib.ListN.{length}
use Rattle.pgm.specs.Write.{digit_count, number_line}
use Rattle.pgm.proofs.Appending.{line_put}
use Rattle.pgm.proofs.Digits.{length_line}
use Rattle.pgm.proofs.lines.put_number.Goals as goal

-- the digits end before the last byte
below : (n at room : ℕ) {count : ℕ} → count ≡ digit_count n → at + length (number_line n) ≤ room → at + count < room
below n at room is fits = omega (arith, is, length_line n)

pub overflow_add-end : goal.overflow_add-end
overflow_add-end c = omega (arith, below c.args.n c.args.at _ c.digit_count.ensures c.requires)

pub slice_bounds-put_digits-end : goal.slice_bounds-put_digits-end
slice_bounds-put_digits-end c = omega (arith, below c.args.n c.args.at _ c.digit_count.ensures c.requires)

pub returns : goal.returns
returns c =
    line_put _ _ _ _ _ (ap (λ (k : ℕ). c.args.at + k) c.digit_count.ensures)
    (below c.args.n c.args.at _ c.digit_count.ensures c.requires) c.put_digits.ensures
