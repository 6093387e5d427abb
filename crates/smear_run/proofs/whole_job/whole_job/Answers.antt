-- `smear_run::whole_job::whole_job` meets its contract.
use Rattle.std.proofs.Common.{rules, refl, ℤ, pos}
use Rattle.std.proofs.lemmas.Result.{err_from_is_err_and}
use lib.ListN.{length-replicate}
use Rattle.std.specs.Float.{binary64}
use Rattle.std.specs.Float.Ieee.{of_bits}
use Rattle.swings.specs.declared.Swing.{Swing}
use Rattle.smear_run.specs.Stage.{line_scratch}
use Rattle.smear_run.proofs.Stages.{moved, job_refused, job_filtered, measured_short}
use Rattle.smear_run.proofs.whole_job.whole_job.Goals as goal

pub returns-in_err-done : goal.returns-in_err-done
returns-in_err-done c =
    let p = err_from_is_err_and c.from_residual.result c.from_residual.ensures.1 in
    let o = c.restore.ensures in
    let o = rw (c.source-from.ensures, c.destination-to.ensures) at o in
    rw (p.1, p.2)
    (moved c.args.«record» (search rules)
    (job_refused c.args.«record» c.args.picture.now c.requires c.args.relaxation _ (rw c.default.ensures refl)
    (length-replicate {A = ℤ} line_scratch (pos 0)) (length-replicate {A = Swing} 4096 (record { width = of_bits binary64 0; swing = pos 0 }))
    o c.in_err-done.was))

pub overflow_cast-done : goal.overflow_cast-done
overflow_cast-done c = record { fits = measured_short _ _ c.restore.ensures.answered c.in_ok-done.was }

pub returns : goal.returns
returns c =
    let o = c.restore.ensures in
    let o = rw (c.source-from.ensures, c.destination-to.ensures) at o in
    moved c.args.«record» (search rules)
    (job_filtered c.args.«record» c.args.picture.now c.requires c.args.relaxation _ (rw c.default.ensures refl)
    (length-replicate {A = ℤ} line_scratch (pos 0)) (length-replicate {A = Swing} 4096 (record { width = of_bits binary64 0; swing = pos 0 }))
    o c.in_ok-done.was c.used.ensures)
