-- What the picture decides is what the job starts with.
use Rattle.std.proofs.Common.{◌≡◌, arith, rules}
use Rattle.std.proofs.lemmas.Grind.{common_steps}
use Rattle.image.specs.Call.{refuses, number_of_refusal}
use Rattle.image.specs.View.{seen}
use Rattle.job.specs.Job.{job_of}
use Rattle.job.specs.Parts.{start_decision}
use Rattle.job.proofs.Assembly.{start_found, start_unclear}
use Rattle.job.proofs.plan.start_job.Goals as goal

pub returns-in_err-estimate-clause-decided : goal.returns-in_err-estimate-clause-decided
returns-in_err-estimate-clause-decided c =
    let a = c.args in
    let j = job_of (seen a.src) a.dst a.config a.scratch_len a.swings_len in
    let number = number_of_refusal c.in_err-estimate.field-0.0 in
    let e : refuses number ≡ start_decision j =
    start_unclear j number (search rules) (search rules) c.in_err-estimate.ensures in
    grind (arith, common_steps, e)

pub returns-clause-decided : goal.returns-clause-decided
returns-clause-decided c =
    let a = c.args in
    let j = job_of (seen a.src) a.dst a.config a.scratch_len a.swings_len in
    start_found j _ (search rules) (search rules) c.in_ok-estimate.ensures
