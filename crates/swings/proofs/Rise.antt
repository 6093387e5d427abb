-- How far apart two samples are, as std has it. Laws of `crossing_of` over the steps from sample i to sample b: at the first step that crosses the level, past one
-- that does not, and after the last. Laws of `rise_of`: for a run that changes by less than the least swing, and for any
-- other.
use Prim.Native.Nat.{ℕ, ◌+◌, ◌-◌, ◌≤◌, ◌<◌}
use native.Mathlib.Numerals.{add-one}
use mathlib.Core.Path.{◌≡◌, refl}
use mathlib.Core.Bool.{Bool, true, false, cond}
use native.Mathlib.Omega.{arith}
use lib.Dec.{ltb}
use Rattle.std.specs.Int.{abs_diff}
use lib.Ieee.{Float}
use borrow.Author.Tests.{ltb-true, ltb-false, lt-ltb, le-ltb}
use Rattle.swings.proofs.Line.{left_more, left_none}
use Rattle.std.specs.Prelude.{Some, None}
use Rattle.swings.specs.Rise.{double, crossed_at, place_at, crossing_of, swing_of, level_of, low_part, high_part}
use Rattle.swings.specs.Rise.{rise_between, rise_of}

pub swing_is : (v w : ℕ) → abs_diff v w ≡ swing_of v w
swing_is v w = go (ltb v w) refl
  where
    go : (t : Bool) → ltb v w ≡ t → abs_diff v w ≡ cond t (w - v) (v - w)
    go true e = omega (arith, ltb-true v w e)
    go false e = omega (arith, ltb-false v w e)

module _ (x : ℕ → ℕ) (rising : Bool) (level : Float) (i b : ℕ) where
  pub crossing_here : i < b → crossed_at rising level (double x i) (double x (i + 1)) ≡ true
      → crossing_of x rising level i (b - i) ≡ Some (place_at i level (double x i) (double x (i + 1)))
  unfolding crossing_of
  crossing_here h e = rw (left_more i b h, ← add-one i, e)

  pub crossing_later : i < b → crossed_at rising level (double x i) (double x (i + 1)) ≡ false
      → crossing_of x rising level i (b - i) ≡ crossing_of x rising level (i + 1) (b - (i + 1))
  unfolding crossing_of
  crossing_later h e = rw (left_more i b h, ← add-one i, e)

  pub crossing_none : b ≤ i → crossing_of x rising level i (b - i) ≡ None
  unfolding crossing_of
  crossing_none h = rw (left_none i b h)

module _ (least : ℕ) (x : ℕ → ℕ) (a b : ℕ) where
  pub rise_small : swing_of (x a) (x b) < least → rise_of least x a b ≡ None
  unfolding rise_of
  rise_small h = rw (lt-ltb (swing_of (x a) (x b)) least h)

  pub rise_is : least ≤ swing_of (x a) (x b)
      → rise_of least x a b
      ≡ rise_between (crossing_of x (ltb (x a) (x b)) (level_of (x a) (x b) low_part) a (b - a))
      (crossing_of x (ltb (x a) (x b)) (level_of (x a) (x b) high_part) a (b - a)) (swing_of (x a) (x b))
  unfolding rise_of
  rise_is h = rw (le-ltb (swing_of (x a) (x b)) least h)
