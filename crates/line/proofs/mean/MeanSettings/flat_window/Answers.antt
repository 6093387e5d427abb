-- `MeanSettings::flat_window` meets its contract.
use borrow.Author.Rules.{rules}
use mathlib.Core.Path.{◌≡◌, ap, ap₂, ◌∙◌}
use Prim.Native.Nat.{ℕ, ◌+◌, ◌-◌, ◌/◌}
use native.Mathlib.Omega.{arith}
use lib.IntN.{ℤ, pos, ◌+ℤ◌, ◌*ℤ◌}
use mir.Syntax.{w32, w64}
use mir.Val.{SFits, to_z, of_z}
use Rattle.numbers.specs.Sum.{total}
use Rattle.numbers.proofs.Int.Machine.{fits_as, held}
use Rattle.line.specs.Kernel.{line_at, sample_at, window_at}
use Rattle.line.proofs.KernelSum.{told}
use Rattle.line.proofs.KernelMean.{window_fits}
use Rattle.line.proofs.KernelFirst.{flat_window, flat_fits}
use Rattle.line.proofs.mean.MeanSettings.flat_window.Goals as goal

-- the three parts as they stand in the machine
module _ (c : goal.After-line_sum) where
  abbrev half : ℕ
  half = c.args.self.blur_length / 2

  abbrev rest : ℕ
  rest = c.args.self.blur_length - half - c.min-inside.result

  abbrev sampled : ℕ → ℤ
  sampled = sample_at c.args.self c.args.scratch.now

  before_is : to_z w64 (of_z w64 c.from.result) ≡ sampled 0
  before_is =
      told {w = w64} (search rules) (c.from.ensures ∙ told {w = w32} (search rules) c.sample_at.ensures)

  before_sum : to_z w64 (of_z w64 c.times-before.result) ≡ pos half *ℤ sampled 0
  before_sum = told {w = w64} (search rules) (c.times-before.ensures ∙ ap (pos half *ℤ◌) before_is)

  abbrev inside : ℤ
  inside = total (line_at c.args.self.n c.args.scratch.now) 0 c.min-inside.result

  inside_sum : to_z w64 (of_z w64 c.line_sum.result) ≡ inside
  inside_sum = told {w = w64} (search rules) c.line_sum.ensures

  behind_is : to_z w64 (of_z w64 c.from-2.result) ≡ sampled (half + c.args.self.n)
  behind_is =
      told {w = w64} (search rules) (c.from-2.ensures ∙ told {w = w32} (search rules) c.sample_at-2.ensures)

  behind_sum : to_z w64 (of_z w64 c.times-behind.result) ≡ pos rest *ℤ sampled (half + c.args.self.n)
  behind_sum = told {w = w64} (search rules) (c.times-behind.ensures ∙ ap (pos rest *ℤ◌) behind_is)

  -- the first two
  two : to_z w64 (of_z w64 c.times-before.result) +ℤ to_z w64 (of_z w64 c.line_sum.result)
      ≡ pos half *ℤ sampled 0 +ℤ inside
  two = ap₂ ◌+ℤ◌ before_sum inside_sum

  two_fit : SFits w64 (to_z w64 (of_z w64 c.times-before.result) +ℤ to_z w64 (of_z w64 c.line_sum.result))
  two_fit =
      let count = c.min-inside in
      fits_as two (flat_fits c.args.self c.requires.0 count.result (omega (arith, count.ensures)))

  -- all three
  sum_is : to_z w64 (of_z w64 (to_z w64 (of_z w64 c.times-before.result) +ℤ to_z w64 (of_z w64 c.line_sum.result)))
      +ℤ to_z w64 (of_z w64 c.times-behind.result) ≡ window_at c.args.self c.args.scratch.now 0
  sum_is =
      let count = c.min-inside in
      ap₂ ◌+ℤ◌ (told {w = w64} two_fit two) behind_sum
      ∙ flat_window c.args.self c.requires.0 c.requires.1 count.result count.ensures

pub overflow_add-result : goal.overflow_add-result
overflow_add-result c = two_fit c

pub overflow_add-result-2 : goal.overflow_add-result-2
overflow_add-result-2 c = fits_as (sum_is c) (window_fits c.args.self c.requires.0 0)

pub returns : goal.returns
returns c = held {w = w64} (sum_is c) (window_fits c.args.self c.requires.0 0)
