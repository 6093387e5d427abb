-- `smear_run::filters::filter` meets its contract.
use Rattle.smear_run.proofs.Stages.{stage_job, stage_restoration, stage_unsharp, stage_binomial}
use Rattle.smear_run.proofs.filters.filter.Goals as goal

pub returns-in-WholeJob : goal.returns-in-WholeJob
returns-in-WholeJob c = rw (stage_job c.args.«record» c.args.picture.now c.in-WholeJob.is) c.whole_job.ensures

pub returns-in-Restoration : goal.returns-in-Restoration
returns-in-Restoration c =
    rw (stage_restoration c.args.«record» c.args.picture.now c.in-Restoration.is) c.restoration.ensures

pub returns-in-Unsharp : goal.returns-in-Unsharp
returns-in-Unsharp c = rw (stage_unsharp c.args.«record» c.args.picture.now c.in-Unsharp.is) c.unsharp.ensures

pub returns-in-Binomial : goal.returns-in-Binomial
returns-in-Binomial c = rw (stage_binomial c.args.«record» c.args.picture.now c.in-Binomial.is) c.binomial.ensures
