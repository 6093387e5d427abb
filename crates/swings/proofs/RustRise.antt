-- 001's `rise_of` with its one loop is `rise_of` on every run of a line of bytes (`rust_rises`). The loop moves its high
-- mark as long as its low one is not set: on a monotonic run such a high mark is never used, since what is past the
-- upper level does not cross the lower one any more.
use Prim.Native.Nat.{ℕ, zero, suc, ◌+◌, ◌-◌, ◌≤◌, ◌<◌}
use native.Mathlib.Nat.{le_refl}
use native.Mathlib.Omega.{arith}
use mathlib.Core.Path.{◌≡◌, refl, sym, ap, subst}
use mathlib.Core.Bool.{Bool, true, false, cond, ◌&&◌}
use lib.Dec.{T, ltb}
use lib.Ieee.{Float, le}
use lib.Ieee.Fits.{and_l, and_r}
use borrow.Author.Tests.{lt-ltb, le-ltb}
use Rattle.numbers.proofs.Test.{by_test, false_of_not}
use Rattle.std.specs.Prelude.{Option, Some, None}
use Rattle.swings.specs.declared.Swing.{Swing}
use Rattle.swings.specs.Rise.{double, swing_of, level_of, crossed_at, place_at, crossing_of, low_part, high_part}
use Rattle.swings.specs.Rise.{rise_between, rise_of}
use Rattle.swings.specs.RustRise.{marks_from, rust_rise}
use Rattle.swings.specs.Runs.{Run, Rising, Falling, runs_after, slope_of}
use Rattle.std.specs.List.{AllByRecursion as Each}
use Rattle.numbers.proofs.Each.{each_map}
use Rattle.swings.proofs.Monotonic.{Monotonic, along, RunMonotonic, runs_monotonic}
use Rattle.swings.proofs.Levels.{rising_apart, falling_apart}

-- the step from sample i crosses the level
abbrev crosses : (ℕ → ℕ) → Bool → Float → ℕ → Bool
crosses x rising level i = crossed_at rising level (double x i) (double x (suc i))

-- ---- the loop
module _ (x : ℕ → ℕ) (rising : Bool) (lo hi : Float) where
  -- once the low mark is set, the high one is that of the first crossing
  low-set : (p : Float) (i k : ℕ)
      → marks_from x rising lo hi (Some p) None i k ≡ record { low = Some p; high = crossing_of x rising hi i k }
  unfolding marks_from crossing_of
  low-set p i zero = refl
  low-set p i (suc k) = go (crosses x rising hi i) (low-set p (suc i) k)
    where
      go : (t : Bool) → marks_from x rising lo hi (Some p) None (suc i)
          k ≡ record { low = Some p; high = crossing_of x rising hi (suc i) k }
          → cond (t && true) (record {
            low = Some p;
            high =
                cond t (Some (place_at i hi (double x i) (double x (suc i)))) None;
          })
          (marks_from x rising lo hi (Some p) (cond t (Some (place_at i hi (double x i) (double x (suc i)))) None) (suc i) k)
          ≡ record {
            low = Some p;
            high =
                cond t (Some (place_at i hi (double x i) (double x (suc i)))) (crossing_of x rising hi (suc i) k);
          }
      go true e = refl
      go false e = e

  -- where no step crosses the low level
  module _ (a b : ℕ) (never : (j : ℕ) → a ≤ j → j < b → crosses x rising lo j ≡ false) where
    never-crossing : (i k : ℕ) → a ≤ i → i + k ≤ b → crossing_of x rising lo i k ≡ None
    unfolding crossing_of
    never-crossing i zero h l = refl
    never-crossing i (suc k) h l = rw (never i h (omega arith)) (never-crossing (suc i) k (omega arith) (omega arith))

    never-set : (high : Option Float) (i k : ℕ) → a ≤ i → i + k ≤ b → (marks_from x rising lo hi None high i k).low ≡ None
    unfolding marks_from
    never-set high i zero h l = refl
    never-set high i (suc k) h l =
        rw (never i h (omega arith))
        (go (crosses x rising hi i) (λ m. never-set m (suc i) k (omega arith) (omega arith)))
      where
        go : (t : Bool) → ((m : Option Float) → (marks_from x rising lo hi None m (suc i) k).low ≡ None)
            → (cond (t && false) (record {
              low = None;
              high =
                  cond t (Some (place_at i hi (double x i) (double x (suc i)))) high;
            })
            (marks_from x rising lo hi None (cond t (Some (place_at i hi (double x i) (double x (suc i)))) high) (suc i)
            k)).low
            ≡ None
        go true e = e (Some (place_at i hi (double x i) (double x (suc i))))
        go false e = e high

  -- where no step crosses the low level after one that crosses the high level
  module _ (a b size : ℕ)
      (apart : (i j : ℕ) → a ≤ i → i < j → j < b → crosses x rising hi i ≡ true → crosses x rising lo j ≡ false) where
    same-rise : (i k : ℕ) → a ≤ i → i + k ≤ b
        → rise_between (marks_from x rising lo hi None None i k).low (marks_from x rising lo hi None None i k).high
        size
        ≡ rise_between (crossing_of x rising lo i k) (crossing_of x rising hi i k) size
    unfolding marks_from crossing_of rise_between
    same-rise i zero h l = refl
    same-rise i (suc k) h l =
        by_test (crosses x rising lo i)
        (λ e. by_test (crosses x rising hi i) (λ f. rw (e, f))
        (λ f. rw (e, f, low-set (place_at i lo (double x i) (double x (suc i))) (suc i) k)))
        (λ e.
        by_test (crosses x rising hi i)
        (λ f.
        let never : (j : ℕ) → suc i ≤ j → j < b → crosses x rising lo j ≡ false = λ j p q. apart i j h p q f in
        rw (
          e,
          f,
          never-set (suc i) b never (Some (place_at i hi (double x i) (double x (suc i)))) (suc i) k (le_refl (suc i))
              (omega arith),
          never-crossing (suc i) b never (suc i) k (le_refl (suc i)) (omega arith),
        ))
        (λ f. rw (e, f) (same-rise (suc i) k (omega arith) (omega arith))))

-- ---- monotonic runs

-- the two tests of a crossing
crossed_rising : (level v0 v1 : Float) → crossed_at true level v0 v1 ≡ true → T (le v0 level) × T (le level v1)
unfolding crossed_at
crossed_rising level v0 v1 e = let t = subst T (sym e) tt in
    (and_l (le v0 level) (le level v1) t, and_r (le v0 level) (le level v1) t)

crossed_falling : (level v0 v1 : Float) → crossed_at false level v0 v1 ≡ true → T (le v1 level) × T (le level v0)
unfolding crossed_at
crossed_falling level v0 v1 e = let t = subst T (sym e) tt in
    (and_l (le v1 level) (le level v0) t, and_r (le v1 level) (le level v0) t)

module _ (x : ℕ → ℕ) (byte : (j : ℕ) → x j ≤ 255) where
  -- no step crosses the lower level after one that crosses the upper level
  not_after : (rising : Bool) (a b : ℕ) → Monotonic x (slope_of rising) a b → (i j : ℕ) → a ≤ i → i < j → j < b
      → crosses x rising (level_of (x a) (x b) high_part) i ≡ true
      → crosses x rising (level_of (x a) (x b) low_part) j ≡ true → ⊥
  not_after true a b m i j h k l e f =
      let high = crossed_rising (level_of (x a) (x b) high_part) (double x i) (double x (suc i)) e in
      let low = crossed_rising (level_of (x a) (x b) low_part) (double x j) (double x (suc j)) f in
      let less = rising_apart (x a) (x b) (x (suc i)) (x j) (byte a) (byte b) (byte (suc i)) (byte j) m.ends
      high.1 low.0 in
      omega (arith, less, along x Rising a b m (suc i) j (omega arith) k (omega arith))
  not_after false a b m i j h k l e f =
      let high = crossed_falling (level_of (x a) (x b) high_part) (double x i) (double x (suc i)) e in
      let low = crossed_falling (level_of (x a) (x b) low_part) (double x j) (double x (suc j)) f in
      let more = falling_apart (x a) (x b) (x (suc i)) (x j) (byte a) (byte b) (byte (suc i)) (byte j) m.ends
      high.0 low.1 in
      omega (arith, more, along x Falling a b m (suc i) j (omega arith) k (omega arith))

  -- the run's direction is that of its ends
  run-rising : (rising : Bool) (a b : ℕ) → Monotonic x (slope_of rising) a b → ltb (x a) (x b) ≡ rising
  run-rising true a b m = lt-ltb (x a) (x b) m.ends
  run-rising false a b m = let h = m.ends in le-ltb (x a) (x b) (omega arith)

  pub rust_rise_holds : (least : ℕ) (rising : Bool) (a b : ℕ) → Monotonic x (slope_of rising) a b
      → rust_rise least x a b ≡ rise_of least x a b
  unfolding rust_rise rise_of
  rust_rise_holds least rising a b m =
      let t = ltb (x a) (x b) in
      let lo = level_of (x a) (x b) low_part in
      let m1 : Monotonic x (slope_of t) a b =
      subst (λ (u : Bool). Monotonic x (slope_of u) a b) (sym (run-rising rising a b m)) m in
      ap (λ (r : Option Swing). cond (ltb (swing_of (x a) (x b)) least) None r)
      (same-rise x t lo (level_of (x a) (x b) high_part) a (a + (b - a)) (swing_of (x a) (x b))
      (λ i j h k l e. false_of_not (crosses x t lo j) (not_after t a b m1 i j h k (omega arith) e)) a (b - a)
      (le_refl a) (le_refl (a + (b - a))))

  -- each run of a line of n samples, from the one that starts at sample a on
  pub rust_rises : (least n a : ℕ)
      → Each (λ (r : Run). rust_rise least x r.first r.last ≡ rise_of least x r.first r.last)
      (runs_after x n a)
  rust_rises least n a =
      each_map (RunMonotonic x)
      (λ (r : Run). rust_rise least x r.first r.last ≡ rise_of least x r.first r.last)
      (λ r m. rust_rise_holds least m.0 r.first r.last m.1) (runs_after x n a) (runs_monotonic x n a)
