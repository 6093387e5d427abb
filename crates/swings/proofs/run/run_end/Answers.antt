-- `swings::run::run_end`: the run is level up to sample i, and from the next one on it rises or falls to its end.
use mathlib.Core.Path.{◌≡◌, ◌∙◌}
use Prim.Native.Nat.{ℕ}
use native.Mathlib.Omega.{arith}
use lib.Dec.{ltb}
use lib.IntN.{ℤ, pos, ◌-ℤ◌}
use lib.Signed.{lt_z}
use mir.Syntax.{w32}
use mir.Facts.{to_z-of_z}
use Rattle.swings.specs.Samples.{samples_of}
use Rattle.swings.proofs.Slopes.{change_up}
use Rattle.swings.proofs.Runs.{level_last, level_slope}
use Rattle.swings.proofs.run.run_end.Goals as goal

pub returns-then-x-i : goal.returns-then-x-i
returns-then-x-i c =
    let a = c.args in
    record {
      runs = c.level_end-i.ensures.runs
          ∙ level_last (samples_of a.x) a.x.last a.a c.level_end-i.result c.if-x-i.true;
      within = tt;
    }

-- whether the run rises, by the line's samples
rising-is : (held change : ℤ) (a b v w : ℕ) → held ≡ change → change ≡ pos a -ℤ pos b → a ≡ w → b ≡ v
    → lt_z (pos 0) held ≡ ltb v w
rising-is held change a b v w h e p q = rw (h, e, p, q) (change_up v w)

pub returns : goal.returns
returns c =
    let a = c.args in
    let v = c.level_end-i.ensures in
    let rising = rising-is _ _ _ _ _ _ (to_z-of_z {w = w32} (record { sfits = c.amplitude-slope.type_inv }))
    c.amplitude-slope.ensures c.at-2.ensures c.at.ensures in
    let r = rw rising at c.slope_end.ensures in
    record {
      runs =
          v.runs
          ∙ level_slope (samples_of a.x) a.x.last a.a c.level_end-i.result c.if-x-i.false (v.differs c.if-x-i.false)
          ∙ r.same a.a
          ∙ r.ends a.a;
      within = (omega (arith, v.from, r.from), r.within);
    }
