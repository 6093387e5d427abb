-- The swings of a line depend on its samples alone, and those of a picture on its pixels: `line_same`,
-- `remaining_same`, `swings_same`.
use Prim.Native.Nat.{ℕ, zero, suc, ◌+◌, ◌-◌, ◌≤◌, ◌<◌}
use native.Mathlib.Omega.{arith}
use native.Mathlib.Decide.{dec_lt}
use mathlib.Core.Path.{◌≡◌, refl, sym, ◌∙◌, ap, ap₂}
use mathlib.Core.Bool.{Bool, cond}
use mathlib.Core.List.{List, [], ◌∷◌, ◌++◌}
use lib.Dec.{ltb}
use lib.Ieee.{Float}
use Rattle.swings.specs.declared.Swing.{Swing}
use Rattle.std.specs.Prelude.{Option, Some, None}
use Rattle.swings.specs.Line.{Lines}
use Rattle.swings.specs.Rise.{double, level_of, crossed_at, place_at, crossing_of, low_part, high_part, rise_of}
use Rattle.swings.specs.Runs.{Run, Slope, Level, slope_between, turns_at, onward_from, runs_from, runs_up_to}
use Rattle.swings.specs.Swings.{with_rise, swings_of, line_swings, swings_from}
use Rattle.swings.specs.Scan.{remaining_on_line}
use Rattle.swings.proofs.Runs.{RunsWithin, runs_within}
use Rattle.swings.proofs.LineSwings.{swings_short, swings_end, line_swings_holds}

-- two lines with the same samples up to place N
module _ {x y : ℕ → ℕ} (N : ℕ) (same : (j : ℕ) → j ≤ N → x j ≡ y j) where
  runs_same : (a : ℕ) (slope : Slope) (i k : ℕ) → i + k ≤ N → runs_from x a slope i k ≡ runs_from y a slope i k
  unfolding runs_from
  runs_same a slope i zero h = refl
  runs_same a slope i (suc k) h =
      rw (same i (omega arith), same (suc i) (omega arith))
      (ap₂ (λ (next longer : List Run). cond (turns_at slope (slope_between (y i) (y (suc i))))
      (record { first = a; last = i } ∷ next) longer)
      (runs_same i (slope_between (y i) (y (suc i))) (suc i) k (omega arith))
      (runs_same a (onward_from slope (slope_between (y i) (y (suc i)))) (suc i) k (omega arith)))

  crossing-same : (rising : Bool) (level : Float) (i k : ℕ) → i + k ≤ N
      → crossing_of x rising level i k ≡ crossing_of y rising level i k
  unfolding crossing_of
  crossing-same rising level i zero h = refl
  crossing-same rising level i (suc k) h =
      rw (same i (omega arith), same (suc i) (omega arith))
      (ap (λ (later : Option Float). cond (crossed_at rising level (double y i) (double y (suc i)))
      (Some (place_at i level (double y i) (double y (suc i)))) later)
      (crossing-same rising level (suc i) k (omega arith)))

  rise-same : (least a b : ℕ) → a ≤ N → b ≤ N → rise_of least x a b ≡ rise_of least y a b
  unfolding rise_of
  rise-same least a b h k =
      rw (
        same a h,
        same b k,
        crossing-same (ltb (y a) (y b)) (level_of (y a) (y b) low_part) a (b - a) (omega arith),
        crossing-same (ltb (y a) (y b)) (level_of (y a) (y b) high_part) a (b - a) (omega arith),
      )

  runs-swings-same : (least : ℕ) (pixel : Float) (rs : List Run) → RunsWithin N rs
      → swings_of least pixel x rs ≡ swings_of least pixel y rs
  unfolding swings_of
  runs-swings-same least pixel [] h = refl
  runs-swings-same least pixel (r ∷ rs) h =
      ap₂ (with_rise pixel) (rise-same least r.first r.last h.0 h.1) (runs-swings-same least pixel rs h.2)

pub line_same : (least : ℕ) (pixel : Float) {x y : ℕ → ℕ} (n a : ℕ) → ((j : ℕ) → j < n → x j ≡ y j)
    → line_swings least pixel x n a ≡ line_swings least pixel y n a
line_same least pixel {x} {y} n a same = go (dec_lt n 3) (dec_lt a (n - 1))
  where
    within : 3 ≤ n → (j : ℕ) → j ≤ n - 1 → x j ≡ y j
    within h j k = same j (omega arith)

    go : Dec (n < 3) → Dec (a < n - 1) → line_swings least pixel x n a ≡ line_swings least pixel y n a
    go (yes s) d = swings_short least pixel x n a s ∙ sym (swings_short least pixel y n a s)
    go (no s) (no l) = swings_end least pixel x n a (omega arith) (omega arith)
        ∙ sym (swings_end least pixel y n a (omega arith) (omega arith))
    go (no s) (yes l) =
        line_swings_holds least pixel x n a (omega arith)
        ∙ ap (swings_of least pixel x) (runs_same (n - 1) (within (omega arith)) a Level a (n - 1 - a) (omega arith))
        ∙ runs-swings-same (n - 1) (within (omega arith)) least pixel (runs_up_to y (n - 1) a)
        (runs_within y (n - 1) a Level a (n - 1 - a) (omega arith) (omega arith))
        ∙ sym (line_swings_holds least pixel y n a (omega arith))

-- what a scan of a line says, of another with the same samples
pub remaining_same : (least : ℕ) (pixel : Float) {x y : ℕ → ℕ} (n a : ℕ) (o : Option (Swing × ℕ)) → ((j : ℕ) → j < n → x j ≡ y j)
    → line_swings least pixel x n a ≡ remaining_on_line least pixel x n o
    → line_swings least pixel y n a ≡ remaining_on_line least pixel y n o
remaining_same least pixel n a (Some r) same e = sym (line_same least pixel n a same) ∙ e
    ∙ ap (λ (l : List Swing). r.0 ∷ l) (line_same least pixel n r.1 same)
remaining_same least pixel n a None same e = sym (line_same least pixel n a same) ∙ e

-- j lines from line k on
pub swings_same : (least : ℕ) (pixel : Float) (p q : Lines) → ((k : ℕ) → p.len k ≡ q.len k)
    → (k a j : ℕ) → ((m i : ℕ) → m < k + j → i < p.len m → p.line m i ≡ q.line m i)
    → swings_from least pixel p k a j ≡ swings_from least pixel q k a j
unfolding swings_from
swings_same least pixel p q lens k a zero same = refl
swings_same least pixel p q lens k a (suc j) same =
    ap₂ (◌++◌ {A = Swing})
    (line_same least pixel (p.len k) a (λ i. same k i (omega arith))
    ∙ ap (λ (n : ℕ). line_swings least pixel (q.line k) n a) (lens k))
    (swings_same least pixel p q lens (suc k) 0 j (λ m i h. same m i (omega arith)))
