-- `summary::summarize` meets its contract.
use Rattle.std.proofs.Common.{sym, ap, ◌∙◌}
use Rattle.std.proofs.lemmas.Result.{err_from_is_err_and}
use Rattle.std.specs.Prelude.{Ok}
use Rattle.summary.proofs.Answer.{finished, finishes}
use Rattle.summary.proofs.summarize.Goals as goal

pub returns-in_err-tally : goal.returns-in_err-tally
returns-in_err-tally c =
    let p = err_from_is_err_and c.from_residual.result c.from_residual.ensures.1 in
    rw (p.1, p.2) (ap finished (sym c.in_err-tally.was) ∙ finishes _ c.empty.ensures c.add_all.ensures)

pub returns : goal.returns
returns c =
    ap Ok c.sheet.ensures ∙ ap finished (sym c.in_ok-tally.was) ∙ finishes _ c.empty.ensures c.add_all.ensures
