-- `MeanSettings::opening_sum` meets its contract.
use borrow.Author.Rules.{rules}
use mathlib.Core.Path.{sym, ◌∙◌}
use native.Mathlib.Nat.{mul-le-mul}
use native.Mathlib.Omega.{arith}
use mir.Syntax.{w32, w64}
use Rattle.numbers.proofs.Sum.{total_zero}
use Rattle.line.specs.Kernel.{longest_blur}
use Rattle.line.proofs.KernelSum.{told, largest_most, total_on}
use Rattle.line.proofs.KernelMean.{opening_size}
use Rattle.line.proofs.mean.MeanSettings.opening_sum.Goals as goal

pub loop-u-init : goal.loop-u-init
loop-u-init c = sym (total_zero _ 0)

pub slide-sum-requires : goal.slide-sum-requires
slide-sum-requires c =
    let l = c.loop-u in
    let a = c.requires.0 in
    let r = c.args.self.reciprocal in
    let most = mul-le-mul {n₁ = l.u} {n₂ = longest_blur} (omega (arith, a.divides)) (largest_most r) in
    rw l.invariant (omega (arith, opening_size c.args.self a l.u, most))

pub loop-u-preserved : goal.loop-u-preserved
loop-u-preserved c =
    told {w = w64} (search rules)
    (c.slide-sum.ensures ∙ total_on _ c.loop-u.u c.loop-u.invariant (told {w = w32} (search rules) c.sample_at.ensures))
