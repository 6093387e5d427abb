-- `smear_run::run` meets its contract.
use Rattle.std.proofs.Common.{sym, ap, ◌∙◌}
use Rattle.image.specs.Call.{told}
use Rattle.smear_run.proofs.Printed.{of_record, of_refused}
use Rattle.smear_run.proofs.run.Goals as goal

pub returns-in-Ok : goal.returns-in-Ok
returns-in-Ok c =
    rw (of_record c.args.job.now c.args.picture.now (sym c.read.ensures ∙ ap told c.in-Ok.is)) c.run_record.ensures

pub returns-in-Err : goal.returns-in-Err
returns-in-Err c =
    rw (of_refused c.args.job.now c.args.picture.now (sym c.read.ensures ∙ ap told c.in-Err.is)) c.put_refusal.ensures
