-- `floats::quantize` meets its contract: the test picks the case of `quantized`.
use Rattle.std.proofs.Common.{sym, ap, ◌∙◌, arith}
use denote.Floats.{passes}
use Rattle.std.specs.Prelude.{Some}
use Rattle.floats.specs.Factor.{within}
use Rattle.floats.proofs.Factor.{within_more, quantized_taken, quantized_refused}
use Rattle.floats.proofs.quantize.Goals as goal

pub round_q16-requires : goal.round_q16-requires
round_q16-requires c =
    let x = c.args.factor in
    let l = c.args.limit in
    within_more l 255 (omega arith) x (passes (within l x) (sym c.is_within.ensures ∙ c.if-is_within.true))

pub returns-then-is_within : goal.returns-then-is_within
returns-then-is_within c =
    let args = c.args in
    ap Some c.round_q16.ensures
    ∙ sym (quantized_taken args.limit args.factor
    (sym c.is_within.ensures ∙ c.if-is_within.true))

pub returns-else-is_within : goal.returns-else-is_within
returns-else-is_within c =
    let args = c.args in
    sym (quantized_refused args.limit args.factor (sym c.is_within.ensures ∙ c.if-is_within.false))
