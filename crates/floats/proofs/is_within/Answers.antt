-- `floats::is_within` meets its contract: what is not below 0.0 and at most the limit as a double is what refusal 8
-- takes.
use Rattle.std.proofs.Common.{pos, sym, arith}
use lib.Ieee.{of_bits, of_int, binary64}
use Rattle.floats.proofs.Values.{of_int_value}
use Rattle.floats.proofs.Factor.{test_below, test_within}
use Rattle.floats.proofs.is_within.Goals as goal

pub returns-then-factor : goal.returns-then-factor
unfolding of_bits
returns-then-factor c = sym (test_below c.args.limit c.args.factor c.if-factor.true)

pub returns : goal.returns
unfolding of_bits
returns c =
    let x = c.args.factor in
    let l = c.args.limit in
    test_within l x (of_int binary64 (pos l)) (of_int_value l (omega arith)) c.if-factor.false
