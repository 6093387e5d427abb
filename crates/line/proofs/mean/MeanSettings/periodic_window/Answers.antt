-- `MeanSettings::periodic_window` meets its contract.
use borrow.Author.Rules.{rules}
use mathlib.Core.Path.{◌≡◌, sym, ap, ap₂, ◌∙◌}
use Prim.Native.Nat.{◌/◌, ◌%◌}
use native.Mathlib.Nat.{div-add-mod', div-le_self, mul-le-mul}
use native.Mathlib.Omega.{arith}
use lib.IntN.{pos, ◌+ℤ◌, ◌*ℤ◌}
use mir.Syntax.{w64}
use mir.Val.{to_z, of_z}
use Rattle.numbers.proofs.Int.Machine.{fits_as, held}
use Rattle.line.specs.Kernel.{longest_blur, window_at}
use Rattle.line.proofs.KernelSum.{told, largest_most}
use Rattle.line.proofs.KernelMean.{window_fits, opening_size, opening_whole}
use Rattle.line.proofs.KernelFirst.{periodic_window}
use Rattle.line.proofs.mean.MeanSettings.periodic_window.Goals as goal

pub returns-then-self-period : goal.returns-then-self-period
returns-then-self-period c =
    told {w = w64} (search rules) (c.opening_sum.ensures ∙ opening_whole c.args.self c.args.scratch.now)

pub times-whole-requires : goal.times-whole-requires
times-whole-requires c =
    let a = c.requires.0 in
    let period = c.args.period in
    let r = c.args.self.reciprocal in
    let most = mul-le-mul {n₁ = period} {n₂ = longest_blur} (omega (arith, a.divides)) (largest_most r) in (
      omega (arith, div-le_self c.args.self.blur_length period, a.divides),
      rw (told {w = w64} (search rules) c.opening_sum-2.ensures)
          (omega (arith, opening_size c.args.self a period, most)),
    )

module _ (c : goal.After-opening_sum-3) where
  sum_is : to_z w64 (of_z w64 c.times-whole.result) +ℤ to_z w64 (of_z w64 c.opening_sum-3.result)
      ≡ window_at c.args.self c.args.scratch.now 0
  sum_is =
      let l = c.args.self.blur_length in
      let period = c.args.period in
      ap₂ ◌+ℤ◌
      (told {w = w64} (search rules)
      (c.times-whole.ensures
      ∙ ap (pos (l / period) *ℤ◌) (told {w = w64} (search rules) c.opening_sum-2.ensures)))
      (told {w = w64} (search rules) c.opening_sum-3.ensures)
      ∙ periodic_window c.args.self c.requires.0 period (l / period) (l % period) c.requires.1
      (sym (div-add-mod' l period))

pub overflow_add-result : goal.overflow_add-result
overflow_add-result c = fits_as (sum_is c) (window_fits c.args.self c.requires.0 0)

pub returns : goal.returns
returns c = held {w = w64} (sum_is c) (window_fits c.args.self c.requires.0 0)
