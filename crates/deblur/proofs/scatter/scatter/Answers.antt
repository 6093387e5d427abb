-- `deblur::scatter::scatter` meets its contract.
use Rattle.std.proofs.Common.{ap, ◌∙◌, rules}
use mir.Syntax.{w32}
use mir.Facts.{to_z-of_z}
use Rattle.deblur.proofs.Scattering.{scatter_none, scatter_next}
use Rattle.deblur.proofs.scatter.scatter.Goals as goal

pub loop-i-init : goal.loop-i-init
loop-i-init g c =
    let at = c.args.places in scatter_none g.E.Estimated.of_estimate at.len c.args.scratch.now at.start at.step

pub loop-i-preserved : goal.loop-i-preserved
loop-i-preserved g c =
    let f = g.E.Estimated.of_estimate in
    let at = c.args.places in
    scatter_next f at.len c.args.scratch.now at.start at.step c.requires c.loop-i-test.true _
    (c.from_estimate.ensures ∙ ap f (to_z-of_z {w = w32} (search rules))) c.loop-i.invariant
