-- Document 02, K6: the floor of the whole job, and the job without one.
use Rattle.std.specs.Prelude.{ℕ}
use Rattle.image.specs.Call.{Decision, unless}
use Rattle.job.specs.declared.JobConfig.{JobConfig}
use Rattle.job.specs.declared.JobResult.{JobResult}
use Rattle.job.specs.Job.{Job, job_of, job_refusal, plan_length, job_direction, job_length}

-- the same settings, and the same job, with the floor c
abbrev pub config_floor : ℕ → JobConfig → JobConfig
config_floor c config =
    record {
      minimum_transitions = config.minimum_transitions;
      minimum_amplitude = config.minimum_amplitude;
      minimum_confidence = c;
      iterations = config.iterations;
      relaxation = config.relaxation;
      border = config.border;
    }

abbrev pub with_floor : ℕ → Job → Job
with_floor c j = job_of j.source j.destination (config_floor c j.config) j.scratch_len j.swings_len

-- document 01's plan: the rules of `plan`, and no 17
abbrev pub plan_without : Job → Decision JobResult
plan_without j =
    unless (job_refusal j) (plan_length j.source.width j.source.height (job_direction j) (job_length j))
