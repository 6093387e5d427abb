-- `line::step::step_from` meets its contract.
use borrow.Author.Rules.{rules}
use mathlib.Core.Path.{◌≡◌, ◌∙◌}
use mir.Syntax.{w64}
use mir.Val.{to_z, of_z}
use mir.Facts.{to_z-of_z}
use Rattle.line.proofs.KernelSum.{told}
use Rattle.line.proofs.KernelStep.{whole_is, cut_muls, cut_adds, cut_narrows, cut_narrow}
use Rattle.line.proofs.step.step_from.Goals as goal

pub returns-then-q-eq-SCALE : goal.returns-then-q-eq-SCALE
returns-then-q-eq-SCALE c = whole_is c.ranges.y c.ranges.observed c.ranges.mean c.requires c.if-q-eq-SCALE.true

-- the three numbers, widened
module _ (c : goal.After-from-3) where
  observed_is : to_z w64 (of_z w64 c.from.result) ≡ c.args.observed
  observed_is = told {w = w64} (search rules) (c.from.ensures ∙ to_z-of_z c.ranges.observed)

  mean_is : to_z w64 (of_z w64 c.from-2.result) ≡ c.args.mean
  mean_is = told {w = w64} (search rules) (c.from-2.ensures ∙ to_z-of_z c.ranges.mean)

  y_is : to_z w64 (of_z w64 c.from-3.result) ≡ c.args.y
  y_is = told {w = w64} (search rules) (c.from-3.ensures ∙ to_z-of_z c.ranges.y)

pub overflow_mul-result : goal.overflow_mul-result
overflow_mul-result c = cut_muls c.requires (observed_is c) (mean_is c) (y_is c)

pub overflow_add-result-2 : goal.overflow_add-result-2
overflow_add-result-2 c = cut_adds c.requires (observed_is c) (mean_is c) (y_is c)

pub overflow_cast-result-2 : goal.overflow_cast-result-2
overflow_cast-result-2 c = cut_narrows c.requires (observed_is c) (mean_is c) (y_is c)

pub returns : goal.returns
returns c = cut_narrow c.requires (observed_is c) (mean_is c) (y_is c)
