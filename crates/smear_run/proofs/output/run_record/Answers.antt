-- `smear_run::output::run_record` meets its contract.
use Rattle.std.proofs.Common.{sym, ◌∙◌}
use Rattle.smear_run.proofs.Printed.{no_job, of_large, of_stage}
use Rattle.smear_run.proofs.output.run_record.Goals as goal

pub returns-then-not-is_job : goal.returns-then-not-is_job
returns-then-not-is_job c =
    rw (no_job c.args.«record» c.args.picture.now (sym c.is_job.ensures ∙ c.if-not-is_job.true)) c.put_refusal.ensures

pub returns-then-n-gt-MOST_PIXELS : goal.returns-then-n-gt-MOST_PIXELS
returns-then-n-gt-MOST_PIXELS c =
    rw (of_large c.args.«record» c.args.picture.now (sym c.is_job.ensures ∙ c.if-not-is_job.false)
    c.if-n-gt-MOST_PIXELS.true) c.put_too_large.ensures

pub returns-then-out-n : goal.returns-then-out-n
returns-then-out-n c =
    rw (of_stage c.args.«record» c.args.picture.now (sym c.is_job.ensures ∙ c.if-not-is_job.false)
    c.if-n-gt-MOST_PIXELS.false) c.run_short.ensures

pub returns : goal.returns
returns c =
    rw (of_stage c.args.«record» c.args.picture.now (sym c.is_job.ensures ∙ c.if-not-is_job.false)
    c.if-n-gt-MOST_PIXELS.false) c.run_whole.ensures
