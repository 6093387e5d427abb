-- `job::restore` meets its contract: the start, the length, the plan and the end, put together.
use Rattle.std.proofs.Common.{◌≡◌, arith, refl, sym}
use Rattle.std.proofs.lemmas.Grind.{common_steps}
use Rattle.std.specs.Prelude.{Ok, Err}
use Rattle.image.specs.Call.{refuses, told, number_of_refusal}
use Rattle.image.specs.View.{seen, lent}
use Rattle.image.proofs.Call.{accepts_not_refuses}
use Rattle.job.proofs.Assembly.{job_refused, length_told, late_refused, length_long, job_done}
use Rattle.job.proofs.restore.Goals as goal

pub returns-in_err-direction : goal.returns-in_err-direction
returns-in_err-direction c =
    let a = c.args in
    let e = c.in_err-direction in
    let start = rw c.layout.ensures at e.ensures.decided in
    let t : told c.from_residual.result ≡ refuses (number_of_refusal e.field-0.0) = grind (arith, common_steps) in
    job_refused (seen a.src) (lent a.dst) a.config a.scratch.now a.swings.now _ _ start t

pub returns-in_err-measured : goal.returns-in_err-measured
returns-in_err-measured c =
    let a = c.args in
    let d = c.in_ok-direction.ensures in
    let start = rw c.layout.ensures at d.decided in
    let taken = rw c.layout.ensures at d.accepted in
    let m = rw c.thresholds.ensures at c.in_err-measured.ensures in
    let refusal = c.in_err-measured.field-0.0 in
    absurd (accepts_not_refuses {n = number_of_refusal refusal}
    (sym (length_told (seen a.src) (lent a.dst) a.config a.scratch.now a.swings.now start taken (Err refusal) m)))

pub returns-in_err-result : goal.returns-in_err-result
returns-in_err-result c =
    let a = c.args in
    let d = c.in_ok-direction.ensures in
    let start = rw c.layout.ensures at d.decided in
    let taken = rw c.layout.ensures at d.accepted in
    let m = rw c.thresholds.ensures at c.in_ok-measured.ensures in
    let e = c.in_err-result in
    let t : told c.from_residual-in_err-result.result ≡ refuses (number_of_refusal e.field-0.0) =
    grind (arith, common_steps) in
    late_refused (seen a.src) (lent a.dst) a.config a.scratch.now a.swings.now start taken m _ _ e.ensures t

pub finish-requires-clause-taken : goal.finish-requires-clause-taken
finish-requires-clause-taken c =
    let a = c.args in
    let d = c.in_ok-direction.ensures in
    let start = rw c.layout.ensures at d.decided in
    let taken = rw c.layout.ensures at d.accepted in
    let m = rw c.thresholds.ensures at c.in_ok-measured.ensures in
    length_long (seen a.src) (lent a.dst) a.config a.scratch.now a.swings.now start taken m c.in_ok-result.ensures

pub returns : goal.returns
returns c =
    let a = c.args in
    let d = c.in_ok-direction.ensures in
    let start = rw c.layout.ensures at d.decided in
    let taken = rw c.layout.ensures at d.accepted in
    let m = rw c.thresholds.ensures at c.in_ok-measured.ensures in
    job_done (seen a.src) (lent a.dst) a.config a.scratch.now a.swings.now start taken m c.in_ok-result.ensures _ _
    (Ok c.in_ok-result.result) c.finish.ensures refl
