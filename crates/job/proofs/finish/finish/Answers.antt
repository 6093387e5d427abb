-- The factor has a q, and the lines ask for what an accepted job has.
use Rattle.job.proofs.Assembly.{finish_factor, finish_asked}
use Rattle.job.proofs.finish.finish.Goals as goal

pub line_kernel-kernel-requires : goal.line_kernel-kernel-requires
line_kernel-kernel-requires c = finish_factor c.requires.runnable

pub restore_along-requires-clause-asked : goal.restore_along-requires-clause-asked
restore_along-requires-clause-asked c =
    rw c.line_kernel-kernel.ensures (finish_asked c.requires.runnable c.args.plan c.requires.taken)
