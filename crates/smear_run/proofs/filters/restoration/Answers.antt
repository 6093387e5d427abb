-- `smear_run::filters::restoration` meets its contract.
use Rattle.std.proofs.Common.{ℤ, pos, rules}
use Rattle.std.proofs.lemmas.Result.{err_from_is_err_and}
use lib.ListN.{length-replicate}
use Rattle.deblur.specs.Settings.{restoration_of}
use Rattle.smear_run.specs.Stage.{line_scratch, record_restoration}
use Rattle.smear_run.proofs.Stages.{moved, line_refused, line_filtered}
use Rattle.smear_run.proofs.filters.restoration.Goals as goal

pub returns-in_err-done : goal.returns-in_err-done
returns-in_err-done c =
    let p = err_from_is_err_and c.from_residual.result c.from_residual.ensures.1 in
    let o = c.van_cittert_line_into.ensures in
    let o = rw (c.source-from.ensures, c.destination-to.ensures) at o in
    rw (p.1, p.2)
    (moved c.args.«record» (search rules)
    (line_refused c.args.«record» c.args.picture.now c.requires (restoration_of (record_restoration c.args.«record» c.args.relaxation)) _
    (length-replicate {A = ℤ} line_scratch (pos 0)) o c.in_err-done.was))

pub returns : goal.returns
returns c =
    let o = c.van_cittert_line_into.ensures in
    let o = rw (c.source-from.ensures, c.destination-to.ensures) at o in
    moved c.args.«record» (search rules)
    (line_filtered c.args.«record» c.args.picture.now c.requires (restoration_of (record_restoration c.args.«record» c.args.relaxation)) _
    (length-replicate {A = ℤ} line_scratch (pos 0)) o c.in_ok-done.was c.used.ensures)
