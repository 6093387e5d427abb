-- `job::JobConfig::default` meets its contract.
use Rattle.std.proofs.Common.{refl}
use Rattle.std.specs.Float.Ieee.{of_bits}
use Rattle.job.specs.Job.{job_default}
use Rattle.job.proofs.JobConfigDefault.default.Goals as goal

pub returns : goal.returns
unfolding of_bits job_default
returns c = refl
