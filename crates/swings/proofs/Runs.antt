-- Laws of `runs_from` at sample i of a line up to sample `last`: where a run starts, where it turns, where it goes on,
-- and at the line's end; that small runs may be passed; and that every run lies in the line.
use Prim.Native.Nat.{ℕ, zero, suc, ◌+◌, ◌-◌, ◌≤◌, ◌<◌}
use native.Mathlib.Numerals.{add-one}
use mathlib.Core.Path.{◌≡◌, refl, sym, ap, ap₂, ◌∙◌, subst}
use native.Mathlib.Omega.{arith}
use mathlib.Core.Bool.{Bool, true, false, cond, not, ◌&&◌, true≢false}
use mathlib.Core.List.{List, [], ◌∷◌}
use lib.Dec.{leb, ltb}
use borrow.Author.Tests.{leb-false, lt-ltb}
use Rattle.std.specs.Int.{abs_diff}
use Rattle.numbers.proofs.Test.{cond_both}
use Rattle.swings.specs.Runs.{Run, Slope, Level, Rising, Falling, slope_between, turns_at, onward_from, last_run}
use Rattle.swings.specs.Runs.{runs_from, runs_up_to, slope_of, SlopeEnd, steep}
use Rattle.swings.specs.Rise.{swing_of}
use Rattle.swings.proofs.Line.{left_more, left_none}
use Rattle.swings.proofs.Rise.{swing_is}
use Rattle.swings.proofs.Slopes.{onward_level, onward_slope, step_level, step_slope}

module _ (x : ℕ → ℕ) (last a : ℕ) where
  pub runs_none : last ≤ a → runs_up_to x last a ≡ []
  unfolding runs_from
  runs_none h = rw (left_none a last h)

  pub runs_start : a < last → runs_up_to x last a ≡ runs_from x a (slope_between (x a) (x (a + 1))) (a + 1) (last - (a + 1))
  unfolding runs_from
  runs_start h = rw (left_more a last h, ← add-one a)
      (ap (λ (s : Slope). runs_from x a s (a + 1) (last - (a + 1))) (onward_level (slope_between (x a) (x (a + 1)))))

module _ (x : ℕ → ℕ) (last a : ℕ) (slope : Slope) (i : ℕ) (h : i < last) where
  pub runs_turn : turns_at slope (slope_between (x i) (x (i + 1))) ≡ true
      → runs_from x a slope i (last - i) ≡ record { first = a; last = i } ∷ runs_up_to x last i
  unfolding runs_from
  runs_turn e = rw (runs_start x last i h) (rw (left_more i last h, ← add-one i, e))

  pub runs_longer : turns_at slope (slope_between (x i) (x (i + 1))) ≡ false
      → runs_from x a slope i (last - i) ≡ runs_from x a (onward_from slope (slope_between (x i) (x (i + 1)))) (i + 1)
      (last - (i + 1))
  unfolding runs_from
  runs_longer e = rw (left_more i last h, ← add-one i, e)

-- ---- a run that is level so far: it goes on, ends with the line, or rises or falls
module _ (x : ℕ → ℕ) (last a i : ℕ) where
  pub level_on : i < last → x (i + 1) ≡ x i
      → runs_from x a Level i (last - i) ≡ runs_from x a Level (i + 1) (last - (i + 1))
  level_on h e =
      runs_longer x last a Level i h refl
      ∙ ap (λ (s : Slope). runs_from x a s (i + 1) (last - (i + 1)))
      (onward_level (slope_between (x i) (x (i + 1))) ∙ step_level (x i) (x (i + 1)) e)

  pub level_last : last ≤ i → runs_from x a Level i (last - i) ≡ []
  unfolding runs_from
  level_last h = rw (left_none i last h)

  pub level_slope : i < last → (x i ≡ x (i + 1) → ⊥)
      → runs_from x a Level i (last - i) ≡ runs_from x a (slope_of (ltb (x i) (x (i + 1)))) (i + 1) (last - (i + 1))
  level_slope h d =
      runs_longer x last a Level i h refl
      ∙ ap (λ (s : Slope). runs_from x a s (i + 1) (last - (i + 1)))
      (onward_level (slope_between (x i) (x (i + 1))) ∙ step_slope (x i) (x (i + 1)) d)

-- ---- a run that rises or falls: it goes on, or ends with the line
module _ (x : ℕ → ℕ) (last : ℕ) (rising : Bool) (i a : ℕ) where
  pub slope_on : i < last → turns_at (slope_of rising) (slope_between (x i) (x (i + 1))) ≡ false
      → runs_from x a (slope_of rising) i (last - i) ≡ runs_from x a (slope_of rising) (i + 1) (last - (i + 1))
  slope_on h e =
      runs_longer x last a (slope_of rising) i h e
      ∙ ap (λ (s : Slope). runs_from x a s (i + 1) (last - (i + 1)))
      (onward_slope rising (slope_between (x i) (x (i + 1))) e)

  pub slope_last : last ≤ i
      → runs_from x a (slope_of rising) i (last - i) ≡ record { first = a; last = i } ∷ runs_up_to x last i
  unfolding runs_from
  slope_last h = rw (runs_none x last i h, left_none i last h) (ended rising)
    where
      ended : (r : Bool) → last_run a (slope_of r) i ≡ record { first = a; last = i } ∷ []
      ended true = refl
      ended false = refl

-- .. so this is where it ends
module _ (x : ℕ → ℕ) (last from : ℕ) (rising : Bool) (i : ℕ) (past : from ≤ i) (within : i ≤ last)
    (same : (a : ℕ) → runs_from x a (slope_of rising) from (last - from) ≡ runs_from x a (slope_of rising) i (last - i)) where
  pub ends_turned : i < last → {v w : ℕ} → v ≡ x i → w ≡ x (i + 1)
      → turns_at (slope_of rising) (slope_between v w) ≡ true → SlopeEnd x last from rising i
  ends_turned h {v} {w} p q e =
      record { from = past; within = within; same = same; ends = λ a. runs_turn x last a (slope_of rising) i h (rw (p, q) at e) }

  pub ends_line : last ≤ i → SlopeEnd x last from rising last
  ends_line h =
      let end : i ≡ last = omega arith in
      let r : SlopeEnd x last from rising i =
      record { from = past; within = within; same = same; ends = λ a. slope_last x last rising i a h } in
      subst (SlopeEnd x last from rising) end r

-- ---- where it turns, the next run goes the other way
turned_slope : (rising : Bool) (step : Slope) → turns_at (slope_of rising) step ≡ true → step ≡ slope_of (not rising)
turned_slope true Level e = absurd (true≢false (sym e))
turned_slope true Rising e = absurd (true≢false (sym e))
turned_slope true Falling e = refl
turned_slope false Level e = absurd (true≢false (sym e))
turned_slope false Rising e = refl
turned_slope false Falling e = absurd (true≢false (sym e))

-- ---- the state of the loop of `steep_from`

-- At sample i, v, the current run began at sample a, value, and rises or falls. The runs from there on that change
-- enough are those from sample b on.
module _ (x : ℕ → ℕ) (least last b : ℕ) where
  pub record Left (a value : ℕ) (rises : Bool) (v i : ℕ) : Type 0 where
    pub past : b ≤ i
    pub within : i ≤ last
    pub here : v ≡ x i
    pub there : value ≡ x a
    pub began : b ≤ a
    pub runs : runs_up_to x last a ≡ runs_from x a (slope_of rises) i (last - i)
    pub passed : steep least x (runs_up_to x last b) ≡ steep least x (runs_up_to x last a)

  -- at the next sample, w, it goes on, or, if it turned and is small, it is passed, and the one that starts here goes
  -- on
  pub left_on : (a value : ℕ) (rises : Bool) (v i : ℕ) → Left a value rises v i → i < last → (w : ℕ) → w ≡ x (i + 1)
      → (t : Bool) → t ≡ turns_at (slope_of rises) (slope_between v w)
      → (change : ℕ) → change ≡ abs_diff value v → (leb least change && t) ≡ false
      → Left (cond t i a) (cond t v value) (cond t (not rises) rises) w (i + 1)
  unfolding steep
  left_on a value rises v i l h w next t e change d f = go t (rw (l.here, next) at (sym e)) f
    where
      size : change ≡ swing_of (x a) (x i)
      size = d ∙ swing_is value v ∙ ap₂ swing_of l.there l.here

      small : (t : Bool) → leb least change ≡ t → (t && true) ≡ false → ltb (swing_of (x a) (x i)) least ≡ true
      small true e f = absurd (true≢false f)
      small false e f = rw (← size) (lt-ltb change least (leb-false least change e))

      go : (t : Bool) → turns_at (slope_of rises) (slope_between (x i) (x (i + 1))) ≡ t → (leb least change && t) ≡ false
          → Left (cond t i a) (cond t v value) (cond t (not rises) rises) w (i + 1)
      go true e f =
          record {
            past = omega (arith, l.past);
            within = omega arith;
            here = next;
            there = l.here;
            began = l.past;
            runs = runs_start x last i h
                ∙ ap (λ (s : Slope). runs_from x i s (i + 1) (last - (i + 1)))
                (turned_slope rises (slope_between (x i) (x (i + 1))) e);
            passed =
                l.passed
                ∙ ap (steep least x) (l.runs ∙ runs_turn x last a (slope_of rises) i h e)
                ∙ ap (λ (t : Bool). cond t (steep least x (runs_up_to x last i))
                (record { first = a; last = i } ∷ steep least x (runs_up_to x last i)))
                (small (leb least change) refl f);
          }
      go false e f =
          record {
            past = omega (arith, l.past);
            within = omega arith;
            here = next;
            there = l.there;
            began = l.began;
            runs = l.runs ∙ slope_on x last rises i a h e;
            passed = l.passed;
          }

-- ---- the runs lie in the line
abbrev pub RunsWithin : ℕ → List Run → Type 0
RunsWithin N [] = Unit {0}
RunsWithin N (r ∷ rs) = (r.first ≤ N) × (r.last ≤ N) × RunsWithin N rs

last_within : (N a : ℕ) (slope : Slope) (i : ℕ) → a ≤ N → i ≤ N → RunsWithin N (last_run a slope i)
last_within N a Level i h k = tt
last_within N a Rising i h k = (h, k, tt)
last_within N a Falling i h k = (h, k, tt)

pub runs_within : (x : ℕ → ℕ) (N a : ℕ) (slope : Slope) (i k : ℕ) → a ≤ N → i + k ≤ N
    → RunsWithin N (runs_from x a slope i k)
unfolding runs_from
runs_within x N a slope i zero h l = last_within N a slope i h (omega arith)
runs_within x N a slope i (suc k) h l =
    cond_both (RunsWithin N) (turns_at slope (slope_between (x i) (x (suc i))))
    (record { first = a; last = i } ∷ runs_from x i (slope_between (x i) (x (suc i))) (suc i) k)
    (runs_from x a (onward_from slope (slope_between (x i) (x (suc i)))) (suc i) k)
    (h, omega arith, runs_within x N i (slope_between (x i) (x (suc i))) (suc i) k (omega arith) (omega arith))
    (runs_within x N a (onward_from slope (slope_between (x i) (x (suc i)))) (suc i) k h (omega arith))
