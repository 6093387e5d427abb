-- `line::step::line_step` meets its contract.
use borrow.Author.Rules.{rules}
use mir.Facts.{to_z-of_z}
use mir.Syntax.{w32}
use mir.Val.{to_z, of_z}
use Rattle.line.proofs.KernelSum.{told}
use Rattle.line.proofs.KernelStep.{stepped_none, step_asked, stepped_next}
use Rattle.line.proofs.step.line_step.Goals as goal

pub loop-i-init : goal.loop-i-init
loop-i-init c = stepped_none c.requires

pub step_from-requires : goal.step_from-requires
step_from-requires c =
    step_asked c.requires c.loop-i.invariant c.loop-i-test.true
    (to_z-of_z {w = w32} (search rules)) (to_z-of_z {w = w32} (search rules)) (to_z-of_z {w = w32} (search rules))

pub loop-i-preserved : goal.loop-i-preserved
loop-i-preserved c =
    stepped_next c.requires c.loop-i.invariant c.loop-i-test.true (to_z w32 (of_z w32 c.step_from.result))
    (to_z-of_z {w = w32} (search rules)) (to_z-of_z {w = w32} (search rules)) (to_z-of_z {w = w32} (search rules))
    (told {w = w32} (search rules) c.step_from.ensures)
