-- `MeanSettings::line_sum` meets its contract.
use borrow.Author.Rules.{rules}
use mathlib.Core.Path.{sym, ◌∙◌}
use native.Mathlib.Nat.{mul-le-mul}
use native.Mathlib.Omega.{arith}
use mir.Syntax.{w32, w64}
use mir.Facts.{to_z-of_z}
use Rattle.numbers.proofs.Sum.{total_zero, total_within}
use Rattle.image.specs.Refusal.{max_side}
use Rattle.line.specs.Kernel.{line_at, largest}
use Rattle.line.proofs.KernelSum.{told, largest_most, total_on}
use Rattle.line.proofs.mean.MeanSettings.line_sum.Goals as goal

pub loop-i-init : goal.loop-i-init
loop-i-init c = sym (total_zero _ 0)

pub slide-sum-requires : goal.slide-sum-requires
slide-sum-requires c =
    let l = c.loop-i in
    let a = c.requires.0 in
    let line = line_at c.args.self.n c.args.scratch.now in
    let r = c.args.self.reciprocal in
    rw l.invariant
    (omega (
      arith,
      total_within line 0 l.i (largest r) (λ i _ h. a.small i (omega (arith, c.requires))),
      mul-le-mul {n₁ = l.i} {n₂ = max_side} (omega (arith, a.short)) (largest_most r),
    ))

pub loop-i-preserved : goal.loop-i-preserved
loop-i-preserved c =
    let l = c.loop-i in
    let line = line_at c.args.self.n c.args.scratch.now in
    told {w = w64} (search rules) (c.slide-sum.ensures ∙ total_on line l.i l.invariant (to_z-of_z {w = w32} (search rules)))
