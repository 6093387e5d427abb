-- `swings::run::steep_from`: at each turn the runs from sample a on that change enough are those from sample b on.
use mathlib.Core.Path.{refl, sym, ◌∙◌, ap₂}
use Prim.Native.Nat.{ℕ, ◌+◌, ◌-◌}
use native.Mathlib.Nat.{le_refl}
use native.Mathlib.Omega.{arith}
use lib.Dec.{ltb}
use Rattle.swings.specs.Samples.{samples_of}
use Rattle.swings.specs.Runs.{runs_from, slope_of}
use Rattle.swings.proofs.Runs.{level_slope, left_on}
use Rattle.swings.proofs.run.steep_from.Goals as goal

pub loop-at-init : goal.loop-at-init
loop-at-init c =
    let a = c.args in
    let x = samples_of a.x in
    let i = c.level_end-i.result in
    let v = c.level_end-i.ensures in
    record {
      past = omega (arith, v.from);
      within = omega arith;
      here = c.at-v.ensures;
      there = c.at-value.ensures;
      began = le_refl _;
      runs =
          v.runs
          ∙ level_slope x a.x.last a.b i c.if-x-i.false (v.differs c.if-x-i.false)
          ∙ ap₂ (λ (p q : ℕ). runs_from x a.b (slope_of (ltb p q)) (i + 1) (a.x.last - (i + 1)))
          (sym c.at.ensures) (sym c.at-v.ensures);
      passed = refl;
    }

pub loop-at-preserved : goal.loop-at-preserved
loop-at-preserved c =
    let a = c.args in
    let l = c.loop-at in
    rw (c.choose-a.ensures, c.choose-value.ensures, c.choose-rises.ensures)
    (left_on (samples_of a.x) a.least a.x.last a.b l.a l.value l.rises l.v l.at l.invariant c.loop-at-test.true
    c.at-w.result c.at-w.ensures c.turns-turned.result c.turns-turned.ensures c.abs_diff.result c.abs_diff.ensures
    c.if-least-abs_diff.false)
