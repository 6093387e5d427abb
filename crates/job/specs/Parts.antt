-- What the parts of the whole job state. Only contracts inside the crate cite these.
use Rattle.image.specs.Call.{Decision, decided}
use Rattle.raster.specs.declared.direction.RasterDirection4.{RasterDirection4}
use Rattle.job.specs.Job.{Job, start_refusal, job_direction}

-- the refusal of a job, or the direction of one that is not refused
abbrev pub start_decision : Job → Decision RasterDirection4
start_decision j = decided (start_refusal j) (job_direction j)
