-- What holds of the rise of each run, in pixels, holds of each swing of the lines.
use Prim.Native.Nat.{ℕ, zero, suc, ◌-◌, ◌≤◌, ◌<◌}
use native.Mathlib.Omega.{arith}
use native.Mathlib.Decide.{dec_lt}
use mathlib.Core.List.{List, [], ◌∷◌}
use lib.Ieee.{Float}
use Rattle.swings.specs.declared.Swing.{Swing}
use Rattle.std.specs.Prelude.{Option, Some, None}
use Rattle.swings.specs.Line.{Lines}
use Rattle.swings.specs.Rise.{rise_of}
use Rattle.swings.specs.Runs.{Run, Level, runs_up_to}
use Rattle.swings.specs.Swings.{scaled_by, with_rise, swings_of, line_swings, swings_from}
use Rattle.std.specs.List.{AllByRecursion as Each}
use Rattle.numbers.proofs.Each.{each_append}
use Rattle.swings.proofs.Runs.{RunsWithin, runs_within}
use Rattle.swings.proofs.LineSwings.{swings_short, swings_end, line_swings_holds}

abbrev pub RiseIs : (Swing → Type 0) → Option Swing → Type 0
RiseIs P None = Unit {0}
RiseIs P (Some s) = P s

pub rise_map : (P Q : Swing → Type 0) → ((s : Swing) → P s → Q s) → (r : Option Swing) → RiseIs P r → RiseIs Q r
rise_map P Q f None h = tt
rise_map P Q f (Some s) h = f s h

-- lines of at most N + 1 samples, each of the kind that `rise` speaks of
module _ (least : ℕ) (pixel : Float) (N : ℕ) (P : Swing → Type 0) (Kind : (ℕ → ℕ) → Type 0)
    (rise : (x : ℕ → ℕ) → Kind x → (a b : ℕ) → a ≤ N → b ≤ N
    → RiseIs (λ (s : Swing). P (scaled_by pixel s)) (rise_of least x a b)) where
  with-rise : (r : Option Swing) (ss : List Swing) → RiseIs (λ (s : Swing). P (scaled_by pixel s)) r → Each P ss
      → Each P (with_rise pixel r ss)
  with-rise None ss h k = k
  with-rise (Some s) ss h k = (h, k)

  runs-each : (x : ℕ → ℕ) → Kind x → (rs : List Run) → RunsWithin N rs → Each P (swings_of least pixel x rs)
  unfolding swings_of
  runs-each x is [] h = tt
  runs-each x is (r ∷ rs) h =
      with-rise (rise_of least x r.first r.last) (swings_of least pixel x rs)
      (rise x is r.first r.last h.0 h.1) (runs-each x is rs h.2)

  line-each : (x : ℕ → ℕ) → Kind x → (n a : ℕ) → n ≤ suc N → Each P (line_swings least pixel x n a)
  line-each x is n a h = go (dec_lt n 3) (dec_lt a (n - 1))
    where
      go : Dec (n < 3) → Dec (a < n - 1) → Each P (line_swings least pixel x n a)
      go (yes s) d = rw (swings_short least pixel x n a s) tt
      go (no s) (yes l) = rw (line_swings_holds least pixel x n a (omega arith))
          (runs-each x is (runs_up_to x (n - 1) a) (runs_within x N a Level a (n - 1 - a) (omega arith) (omega arith)))
      go (no s) (no l) = rw (swings_end least pixel x n a (omega arith) (omega arith)) tt

  pub picture_each : (lines : Lines) → ((k : ℕ) → Kind (lines.line k)) → ((k : ℕ) → lines.len k ≤ suc N) → (k a j : ℕ)
      → Each P (swings_from least pixel lines k a j)
  unfolding swings_from
  picture_each lines are short k a zero = tt
  picture_each lines are short k a (suc j) =
      each_append P (line_swings least pixel (lines.line k) (lines.len k) a) (swings_from least pixel lines (suc k) 0 j)
      (line-each (lines.line k) (are k) (lines.len k) a (short k)) (picture_each lines are short (suc k) 0 j)
