-- `MeanSettings::sample` meets its contract.
use Rattle.std.proofs.Common.{◌≤◌, sym, arith, rules, tests}
use mir.Syntax.{w32}
use Rattle.raster.specs.Border.{border_value}
use Rattle.raster.proofs.BorderMap.{border_lawful}
use Rattle.line.specs.Kernel.{line_at}
use Rattle.line.proofs.KernelSum.{told}
use Rattle.line.proofs.LineLaws.{sample_at_lem}
use Rattle.line.proofs.mean.MeanSettings.sample.Goals as goal

pub returns-then-this-ne0 : goal.returns-then-this-ne0
returns-then-this-ne0 g c =
    let s = c.args.self in
    let on = c.requires.inside (search (rules, tests)) in
    let value : border_value s.border ≤ 255 = search rules in
    told {w = w32} (search rules)
    (sym (sample_at_lem (border_lawful s.border s.n c.requires.asked.0 value)
    (line_at s.n c.args.scratch.now) c.args.u _ on.0 (omega (arith, on.1))))
