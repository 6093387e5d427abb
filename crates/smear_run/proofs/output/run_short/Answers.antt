-- `smear_run::output::run_short` meets its contract.
use Rattle.smear_run.proofs.Straight.{short_done}
use Rattle.smear_run.proofs.output.run_short.Goals as goal

pub returns-in-Ok : goal.returns-in-Ok
returns-in-Ok c =
    short_done c.args.«record» c.args.n c.requires.0 c.args.picture.now c.filter.ensures c.in-Ok.is c.requires.1
