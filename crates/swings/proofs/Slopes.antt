-- When a run turns, by its slope, by the signs of a change, and by a product; and its slope where it does not turn.
use Prim.Native.Nat.{ℕ, zero, suc, ◌+◌, ◌*◌, ◌≤◌, ◌<◌, zero-le}
use native.Mathlib.Nat.{zero-lt-suc, mul-zero, mul-pos}
use mathlib.Core.Path.{◌≡◌, refl, sym, ◌∙◌}
use native.Mathlib.Omega.{arith}
use mathlib.Core.Bool.{Bool, true, false, cond, true≢false}
use lib.Dec.{ltb}
use lib.IntN.{ℤ, pos, negsuc, nat_abs, neg_ℤ, ◌-ℤ◌, ◌*ℤ◌}
use lib.Signed.{lt_z}
use borrow.Author.Tests.{ltb-true, ltb-false, lt-ltb, le-ltb}
use Rattle.numbers.proofs.Int.Linear.{up, dn, linear, up_sub}
use Rattle.swings.specs.Runs.{Slope, Level, Rising, Falling, slope_between, turns_at, onward_from}
use Rattle.swings.specs.Runs.{slope_of}

not_both : (v w : ℕ) → ltb v w ≡ true → ltb w v ≡ true → ⊥
not_both v w p q = omega (arith, ltb-true v w p, ltb-true w v q)

pub turns_slope : (rising : Bool) (v w : ℕ)
    → turns_at (slope_of rising) (slope_between v w) ≡ cond rising (ltb w v) (ltb v w)
turns_slope rising v w = go rising (ltb v w) (ltb w v) (not_both v w)
  where
    go : (r p q : Bool) → (p ≡ true → q ≡ true → ⊥)
        → turns_at (slope_of r) (cond p Rising (cond q Falling Level)) ≡ cond r q p
    go true true true n = absurd (n refl refl)
    go true true false n = refl
    go true false true n = refl
    go true false false n = refl
    go false true q n = refl
    go false false true n = refl
    go false false false n = refl

-- .. told by a product: a change against a slope that is not 0
below_zero : (k : ℕ) → 0 < k → lt_z (neg_ℤ (pos k)) (pos 0) ≡ true
below_zero zero h = absurd (omega arith)
below_zero (suc k) h = refl

sign_up : (n : ℕ) (z : ℤ) → lt_z (pos (suc n) *ℤ z) (pos 0) ≡ lt_z z (pos 0)
sign_up n (pos m) = rw (le-ltb (suc n * m) 0 zero-le, le-ltb m 0 zero-le) refl
sign_up n (negsuc m) = below_zero (suc n * suc m) (mul-pos (zero-lt-suc n) (zero-lt-suc m))

sign_down : (n : ℕ) (z : ℤ) → lt_z (negsuc n *ℤ z) (pos 0) ≡ lt_z (pos 0) z
sign_down n (pos zero) = rw (mul-zero (suc n)) refl
sign_down n (pos (suc m)) = below_zero (suc n * suc m) (mul-pos (zero-lt-suc n) (zero-lt-suc m))
    ∙ sym (lt-ltb 0 (suc m) (zero-lt-suc m))
sign_down n (negsuc m) = rw (le-ltb (suc n * suc m) 0 zero-le) refl

change_down : (v w : ℕ) → lt_z (pos w -ℤ pos v) (pos 0) ≡ ltb w v
change_down v w = go (ltb w v) refl
  where
    go : (t : Bool) → ltb w v ≡ t → lt_z (pos w -ℤ pos v) (pos 0) ≡ t
    go true e = omega (arith, linear, up_sub (pos w) (pos v), ltb-true w v e)
    go false e = omega (arith, linear, up_sub (pos w) (pos v), ltb-false w v e)

pub change_up : (v w : ℕ) → lt_z (pos 0) (pos w -ℤ pos v) ≡ ltb v w
change_up v w = go (ltb v w) refl
  where
    go : (t : Bool) → ltb v w ≡ t → lt_z (pos 0) (pos w -ℤ pos v) ≡ t
    go true e = omega (arith, linear, up_sub (pos w) (pos v), ltb-true v w e)
    go false e = omega (arith, linear, up_sub (pos w) (pos v), ltb-false v w e)

-- a change of bytes is small
pub change_small : (v w : ℕ) → v ≤ 255 → w ≤ 255 → nat_abs (pos w -ℤ pos v) ≤ 255
change_small v w h k = go (pos w -ℤ pos v) (up_sub (pos w) (pos v))
  where
    go : (z : ℤ) → up z + (0 + v) ≡ dn z + (w + 0) → nat_abs z ≤ 255
    go (pos n) e = omega arith
    go (negsuc n) e = omega arith

pub turns_product : (slope : ℤ) → (slope ≡ pos 0 → ⊥) → (v w : ℕ)
    → lt_z (slope *ℤ (pos w -ℤ pos v)) (pos 0) ≡ turns_at (slope_of (lt_z (pos 0) slope)) (slope_between v w)
turns_product (pos zero) n v w = absurd (n refl)
turns_product (pos (suc k)) n v w =
    rw (lt-ltb 0 (suc k) (zero-lt-suc k)) (sign_up k (pos w -ℤ pos v) ∙ change_down v w ∙ sym (turns_slope true v w))
turns_product (negsuc k) n v w = sign_down k (pos w -ℤ pos v) ∙ change_up v w ∙ sym (turns_slope false v w)

pub onward_level : (step : Slope) → onward_from Level step ≡ step
onward_level Level = refl
onward_level Rising = refl
onward_level Falling = refl

pub onward_slope : (rising : Bool) (step : Slope) → turns_at (slope_of rising) step ≡ false
    → onward_from (slope_of rising) step ≡ slope_of rising
onward_slope true Level e = refl
onward_slope true Rising e = refl
onward_slope true Falling e = absurd (true≢false e)
onward_slope false Level e = refl
onward_slope false Rising e = absurd (true≢false e)
onward_slope false Falling e = refl

pub step_level : (v w : ℕ) → w ≡ v → slope_between v w ≡ Level
step_level v w e = rw (le-ltb v w (omega arith), le-ltb w v (omega arith))

pub step_slope : (v w : ℕ) → (v ≡ w → ⊥) → slope_between v w ≡ slope_of (ltb v w)
step_slope v w d = go (ltb v w) refl
  where
    go : (t : Bool) → ltb v w ≡ t → cond t Rising (cond (ltb w v) Falling Level) ≡ slope_of t
    go true e = refl
    go false e = let h = ltb-false v w e in rw (lt-ltb w v (omega arith))
