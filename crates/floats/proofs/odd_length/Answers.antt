-- `floats::odd_length` meets its contract: its two tests are the cases of `odd_length`, and between 3 and 2 ^ 53 the
-- raised estimate is made odd.
use Rattle.std.proofs.Common.{◌^◌, ap, ◌∙◌, le_trans, le_of_eq}
use lib.Ieee.{of_bits}
use lib.Ieee.Positive.{num, den, den_pos}
use Rattle.std.specs.Prelude.{Some}
use Rattle.floats.specs.Odd.{odd_from}
use Rattle.floats.proofs.Factor.{within_le}
use Rattle.floats.proofs.Odd.{ceiling_smallest, test_low, test_within, test_length, test_beyond}
use Rattle.floats.proofs.odd_length.Goals as goal

pub returns-then-estimate : goal.returns-then-estimate
unfolding of_bits
returns-then-estimate c = test_low c.args.estimate c.if-estimate.true

pub raised-requires : goal.raised-requires
unfolding of_bits
raised-requires c = test_within c.args.estimate c.if-estimate.false c.if-estimate-2.true

pub odd_from-requires : goal.odd_from-requires
unfolding of_bits
odd_from-requires c =
    let x = c.args.estimate in
    le_trans (le_of_eq c.raised.ensures)
    (ceiling_smallest (num x) (den x) (den_pos x) (2 ^ 53)
    (within_le (2 ^ 53) x (test_within x c.if-estimate.false c.if-estimate-2.true)))

pub returns-then-estimate-2 : goal.returns-then-estimate-2
unfolding of_bits
returns-then-estimate-2 c =
    let x = c.args.estimate in
    ap Some (c.odd_from.ensures ∙ ap odd_from c.raised.ensures)
    ∙ test_length x c.if-estimate.false (test_within x c.if-estimate.false c.if-estimate-2.true)

pub returns : goal.returns
unfolding of_bits
returns c = test_beyond c.args.estimate c.if-estimate.false c.if-estimate-2.false
