-- How many runs and swings there are: a line of n samples has at most n - 1 of each, and a picture at most as many
-- swings as samples.
use Prim.Native.Nat.{ℕ, zero, suc, ◌+◌, ◌-◌, ◌≤◌, ◌<◌, zero-le}
use native.Mathlib.Nat.{le_refl, add-zero, add-suc, suc-add, le_trans}
use native.Mathlib.Omega.{arith}
use native.Mathlib.Decide.{dec_lt}
use mathlib.Core.Bool.{Bool, true, false, cond}
use mathlib.Core.List.{List, [], ◌∷◌}
use lib.ListN.{length, length-append}
use lib.Ieee.{Float}
use Rattle.swings.specs.declared.Swing.{Swing}
use Rattle.std.specs.Prelude.{Option, Some, None}
use Rattle.swings.specs.Line.{Lines}
use Rattle.swings.specs.Rise.{rise_of}
use Rattle.swings.specs.Runs.{Run, Slope, Level, Rising, Falling, slope_between, turns_at, onward_from, last_run}
use Rattle.swings.specs.Runs.{runs_from, runs_up_to}
use Rattle.swings.specs.Swings.{with_rise, swings_of, line_swings, swings_from}
use Rattle.swings.proofs.Runs.{runs_none, runs_start}
use Rattle.swings.proofs.LineSwings.{swings_short, line_swings_holds}

-- ---- runs
last_count : (a : ℕ) (slope : Slope) (i : ℕ) → length (last_run a slope i) ≤ 1
last_count a Level i = zero-le
last_count a Rising i = le_refl 1
last_count a Falling i = le_refl 1

pick_count : (t : Bool) (r : Run) (turned longer : List Run) (k : ℕ) → length turned ≤ suc k → length longer ≤ suc k
    → length (cond t (r ∷ turned) longer) ≤ suc (suc k)
pick_count true r turned longer k h g = omega arith
pick_count false r turned longer k h g = omega arith

runs_from_count : (x : ℕ → ℕ) (a : ℕ) (slope : Slope) (i k : ℕ) → length (runs_from x a slope i k) ≤ suc k
unfolding runs_from
runs_from_count x a slope i zero = last_count a slope i
runs_from_count x a slope i (suc k) =
    pick_count (turns_at slope (slope_between (x i) (x (suc i)))) (record { first = a; last = i })
    (runs_from x i (slope_between (x i) (x (suc i))) (suc i) k)
    (runs_from x a (onward_from slope (slope_between (x i) (x (suc i)))) (suc i) k) k
    (runs_from_count x i (slope_between (x i) (x (suc i))) (suc i) k)
    (runs_from_count x a (onward_from slope (slope_between (x i) (x (suc i)))) (suc i) k)

pub runs_count : (x : ℕ → ℕ) (last a : ℕ) → length (runs_up_to x last a) ≤ last - a
runs_count x last a = go (dec_lt a last)
  where
    go : Dec (a < last) → length (runs_up_to x last a) ≤ last - a
    go (yes h) = rw (runs_start x last a h)
        (omega (arith, runs_from_count x a (slope_between (x a) (x (a + 1))) (a + 1) (last - (a + 1))))
    go (no h) = rw (runs_none x last a (omega arith)) zero-le

-- ---- swings
rise_count : (pixel : Float) (r : Option Swing) (others : List Swing) → length (with_rise pixel r others) ≤ suc (length others)
rise_count pixel (Some s) others = le_refl (suc (length others))
rise_count pixel None others = omega arith

pub swings_count : (least : ℕ) (pixel : Float) (x : ℕ → ℕ) (rs : List Run)
    → length (swings_of least pixel x rs) ≤ length rs
unfolding swings_of
swings_count least pixel x [] = zero-le
swings_count least pixel x (r ∷ rs) =
    le_trans (rise_count pixel (rise_of least x r.first r.last) (swings_of least pixel x rs))
    (omega (arith, swings_count least pixel x rs))

pub line_count : (least : ℕ) (pixel : Float) (x : ℕ → ℕ) (n a : ℕ) → length (line_swings least pixel x n a) ≤ n - 1
line_count least pixel x n a = go (dec_lt n 3)
  where
    go : Dec (n < 3) → length (line_swings least pixel x n a) ≤ n - 1
    go (yes h) = rw (swings_short least pixel x n a h) zero-le
    go (no h) = rw (line_swings_holds least pixel x n a (omega arith))
        (omega (arith, swings_count least pixel x (runs_up_to x (n - 1) a), runs_count x (n - 1) a))

-- S k is at least as many as the first k lines have samples, if it is so from line to line
pub picture_count : (least : ℕ) (pixel : Float) (lines : Lines) (S : ℕ → ℕ) → ((k : ℕ) → S k + lines.len k ≤ S (suc k))
    → (k a j : ℕ) → S k + length (swings_from least pixel lines k a j) ≤ S (k + j)
unfolding swings_from
picture_count least pixel lines S grows k a zero = rw (add-zero k) (omega arith)
picture_count least pixel lines S grows k a (suc j) =
    rw (
      add-suc k j,
      length-append (line_swings least pixel (lines.line k) (lines.len k) a)
          (swings_from least pixel lines (suc k) 0 j),
    )
    (le_trans (omega (arith, line_count least pixel (lines.line k) (lines.len k) a, grows k))
    (rw (suc-add k j) at (picture_count least pixel lines S grows (suc k) 0 j)))
