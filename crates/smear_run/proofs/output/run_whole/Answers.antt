-- `smear_run::output::run_whole` meets its contract.
use Rattle.std.proofs.Common.{sym, ap, ◌∙◌, arith}
use lib.Seq.{length-take-le}
use Rattle.image.specs.Call.{told}
use Rattle.image.proofs.Call.{accepts_not_refuses}
use Rattle.smear_run.proofs.Straight.{whole_written, whole_done}
use Rattle.smear_run.proofs.output.run_whole.Goals as goal

pub returns-in_err-write-in-Ok : goal.returns-in_err-write-in-Ok
returns-in_err-write-in-Ok c =
    let a = c.args in
    let done = whole_written a.«record» a.n c.requires.0 a.picture.now c.filter.ensures c.in-Ok.is a.out.now _ c.requires.1
    (c.filter.auto.dst ∙ length-take-le _ _ (omega (arith, c.requires.1))) c.write.ensures in
    absurd (accepts_not_refuses (sym done ∙ ap told c.in_err-write-in-Ok.was))

pub returns-in_ok-write-in-Ok : goal.returns-in_ok-write-in-Ok
returns-in_ok-write-in-Ok c =
    let a = c.args in
    whole_done a.«record» a.n c.requires.0 a.picture.now c.filter.ensures c.in-Ok.is a.out.now _ c.requires.1
    (c.filter.auto.dst ∙ length-take-le _ _ (omega (arith, c.requires.1)))
    c.write.ensures c.write.auto.bytes
