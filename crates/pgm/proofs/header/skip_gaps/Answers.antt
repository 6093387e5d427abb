-- `pgm::header::skip_gaps` meets its contract: what stands behind the gaps is the same at each turn.
use Rattle.std.proofs.Common.{drop, length-drop, sym, ◌∙◌, arith}
use lib.Seq.{take_all}
use Rattle.pgm.proofs.Reading.{gaps_on, gaps_stop, gaps_end}
use Rattle.pgm.proofs.header.skip_gaps.Goals as goal

pub returns-then-not-skips : goal.returns-then-not-skips
returns-then-not-skips c =
    let k = c.loop-i in
    let bytes = c.args.bytes.now in
    take_all _ (drop k.i bytes) (omega (arith, length-drop k.i bytes))
    ∙ gaps_stop bytes k.i c.loop-i-test.true k.comment (sym c.skips.ensures ∙ c.if-not-skips.true)
    ∙ k.invariant

pub loop-i-preserved : goal.loop-i-preserved
loop-i-preserved c =
    let k = c.loop-i in
    rw c.comments-comment.ensures
    (gaps_on c.args.bytes.now k.i c.loop-i-test.true k.comment (sym c.skips.ensures ∙ c.if-not-skips.false))
    ∙ k.invariant

pub returns : goal.returns
returns c =
    let k = c.loop-i in
    gaps_end c.args.bytes.now k.i k.auto.i-end c.loop-i-test.false k.comment ∙ k.invariant
