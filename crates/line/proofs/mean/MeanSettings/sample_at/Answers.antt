-- `MeanSettings::sample_at` meets its contract.
use borrow.Author.Rules.{rules}
use mathlib.Core.Path.{◌≡◌, sym, subst, ◌∙◌}
use Prim.Native.Nat.{ℕ, ◌≤◌, ◌<◌}
use native.Mathlib.Omega.{arith}
use lib.IntN.{ℤ}
use mir.Syntax.{w32}
use Rattle.raster.specs.Border.{border_map}
use Rattle.raster.specs.declared.border.BorderSample.TheVariants.{Inside}
use Rattle.raster.specs.declared.border.LineBorderMode.{LineBorderMode}
use Rattle.raster.proofs.BorderMap.{SourceOf, border_range}
use Rattle.line.proofs.KernelSum.{told}
use Rattle.line.proofs.LineLaws.{sample_inside, sample_outside}
use Rattle.line.proofs.mean.MeanSettings.sample_at.Goals as goal

-- a source on the line
on_line : (b : LineBorderMode) (n : ℕ) (p : ℤ) (i : ℕ) → 1 ≤ n → Inside i ≡ border_map b n p → i < n
on_line b n p i some e = subst (SourceOf b n) (sym e) (border_range b n p some)

pub overflow_add-result : goal.overflow_add-result
overflow_add-result c = omega (arith, on_line _ _ _ _ c.requires.0 c.in-Inside.ensures)

pub offset_bounds-scratch-self : goal.offset_bounds-scratch-self
offset_bounds-scratch-self c = omega (arith, on_line _ _ _ _ c.requires.0 c.in-Inside.ensures)

pub bounds-scratch-self : goal.bounds-scratch-self
bounds-scratch-self c = omega (arith, on_line _ _ _ _ c.requires.0 c.in-Inside.ensures)

pub returns-in-Inside : goal.returns-in-Inside
returns-in-Inside c = told {w = w32} (search rules) (sym (sample_inside _ _ _ (sym c.in-Inside.ensures)))

pub returns-in-Outside : goal.returns-in-Outside
returns-in-Outside c =
    told {w = w32} (search rules) (c.from.ensures ∙ sym (sample_outside _ _ _ (sym c.in-Outside.ensures)))
