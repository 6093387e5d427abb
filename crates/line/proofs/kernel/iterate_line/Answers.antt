-- `line::kernel::iterate_line` meets its contract.
use borrow.Author.Rules.{rules}
use Prim.Native.Nat.{◌≤◌}
use Rattle.raster.specs.Border.{border_value}
use Rattle.line.specs.Kernel.{line_at}
use Rattle.line.proofs.KernelIteration.{mean_asked, step_asked, iterated_next}
use Rattle.line.proofs.kernel.iterate_line.Goals as goal

pub line_mean-requires : goal.line_mean-requires
line_mean-requires c =
    let a = c.requires in
    let value : border_value c.args.kernel.border ≤ 255 = search rules in
    mean_asked c.args.kernel c.args.n a.some value a.taken a.short
    (line_at 0 c.args.scratch.now) a.bytes a.more c.reciprocal_of.ensures a.room a.iterated

pub line_step-requires : goal.line_step-requires
line_step-requires c =
    let a = c.requires in
    let value : border_value c.args.kernel.border ≤ 255 = search rules in
    step_asked c.args.kernel c.args.n a.some value a.taken a.short
    (line_at 0 c.args.scratch.now) a.bytes a.more c.reciprocal_of.ensures a.room a.iterated
    c.line_mean.ensures

pub returns : goal.returns
returns c =
    let a = c.requires in
    let value : border_value c.args.kernel.border ≤ 255 = search rules in
    iterated_next c.args.kernel c.args.n a.some value a.taken a.short
    (line_at 0 c.args.scratch.now) a.bytes a.more c.reciprocal_of.ensures a.room a.iterated
    c.line_mean.ensures c.line_step.ensures
