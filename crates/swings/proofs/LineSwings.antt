-- Laws of `line_swings` at sample a of a line of n samples: a run with its rise or without, and none left. Laws of
-- `swings_from`: a line with a swing, a line without, and none left.
use Prim.Native.Nat.{ℕ, ◌+◌, ◌-◌, ◌≤◌, ◌<◌}
use native.Mathlib.Numerals.{add-one}
use mathlib.Core.Path.{◌≡◌, refl, sym, ◌∙◌, ap}
use native.Mathlib.Omega.{arith}
use mathlib.Core.Bool.{Bool, true, false, cond}
use mathlib.Core.List.{List, [], ◌∷◌, ◌++◌}
use lib.Dec.{ltb}
use borrow.Author.Tests.{ltb-true, lt-ltb, le-ltb}
use lib.Ieee.{Float}
use Rattle.swings.specs.declared.Swing.{Swing}
use Rattle.std.specs.Prelude.{Some, None}
use Rattle.swings.specs.Line.{Lines}
use Rattle.swings.specs.Rise.{swing_of, rise_of}
use Rattle.swings.specs.Runs.{Run, runs_up_to, runs_after, steep, RunTo, SteepFrom}
use Rattle.swings.specs.Swings.{scaled_by, with_rise, swings_of, line_swings, swings_from}
use Rattle.swings.proofs.Line.{left_more, left_none}
use Rattle.swings.proofs.Rise.{rise_small}
use Rattle.swings.proofs.Runs.{runs_none}

module _ (least : ℕ) (pixel : Float) (x : ℕ → ℕ) (n a : ℕ) where
  pub swings_short : n < 3 → line_swings least pixel x n a ≡ []
  unfolding line_swings swings_of runs_after
  swings_short h = rw (lt-ltb n 3 h)

  pub line_swings_holds : 3 ≤ n → line_swings least pixel x n a ≡ swings_of least pixel x (runs_up_to x (n - 1) a)
  unfolding line_swings runs_after
  line_swings_holds h = rw (le-ltb n 3 h)

  pub swings_end : 3 ≤ n → n - 1 ≤ a → line_swings least pixel x n a ≡ []
  unfolding swings_of
  swings_end h k = rw (line_swings_holds h, runs_none x (n - 1) a k)

-- runs that change by less than the least swing have none
swings_steep : (least : ℕ) (pixel : Float) (x : ℕ → ℕ) (rs : List Run)
    → swings_of least pixel x rs ≡ swings_of least pixel x (steep least x rs)
unfolding swings_of steep
swings_steep least pixel x [] = refl
swings_steep least pixel x (r ∷ rs) =
    go (ltb (swing_of (x r.first) (x r.last)) least) refl (swings_steep least pixel x rs)
  where
    go : (t : Bool) → ltb (swing_of (x r.first) (x r.last)) least ≡ t
        → swings_of least pixel x rs ≡ swings_of least pixel x (steep least x rs)
        → with_rise pixel (rise_of least x r.first r.last) (swings_of least pixel x rs) ≡ swings_of least pixel x
        (cond t (steep least x rs) (r ∷ steep least x rs))
    go true e h = rw (rise_small least x r.first r.last (ltb-true _ _ e)) h
    go false e h = ap (with_rise pixel (rise_of least x r.first r.last)) h

-- ---- the swings of a line up to sample `last`
module _ (least : ℕ) (pixel : Float) (x : ℕ → ℕ) (last : ℕ) (h : 2 ≤ last) where
  abbrev swings-at : ℕ → List Swing
  swings-at a = line_swings least pixel x (last + 1) a

  along : (a : ℕ) → swings-at a ≡ swings_of least pixel x (runs_up_to x last a)
  along a =
      let end : last + 1 - 1 ≡ last = omega arith in
      line_swings_holds least pixel x (last + 1) a (omega arith)
      ∙ ap (λ (k : ℕ). swings_of least pixel x (runs_up_to x k a)) end

  pub swings_past : (a : ℕ) → last ≤ a → swings-at a ≡ []
  unfolding swings_of
  swings_past a k = rw (along a, runs_none x last a k)

  pub swings_level : (a : ℕ) → RunTo x last a None → swings-at a ≡ []
  unfolding swings_of
  swings_level a r = rw (along a, r.runs)

  pub swings_passed : (b r : ℕ) → SteepFrom x least last b r → swings-at b ≡ swings-at r
  swings_passed b r s =
      along b
      ∙ swings_steep least pixel x (runs_up_to x last b)
      ∙ ap (swings_of least pixel x) s.runs
      ∙ sym (swings_steep least pixel x (runs_up_to x last r))
      ∙ sym (along r)

  module _ (a b : ℕ) (r : RunTo x last a (Some b)) where
    swings-run : swings-at a ≡ with_rise pixel (rise_of least x a b) (swings-at b)
    unfolding swings_of
    swings-run = rw (along a, along b, r.runs)

    pub swings_found : (s : Swing) → rise_of least x a b ≡ Some s → swings-at a ≡ scaled_by pixel s ∷ swings-at b
    swings_found s e = rw (swings-run, e)

    pub swings_nothing : rise_of least x a b ≡ None → swings-at a ≡ swings-at b
    swings_nothing e = rw (swings-run, e)

module _ (least : ℕ) (pixel : Float) (lines : Lines) (k a : ℕ) where
  pub lines_none : lines.count ≤ k → swings_from least pixel lines k a (lines.count - k) ≡ []
  unfolding swings_from
  lines_none h = rw (left_none k lines.count h)

  lines_more : k < lines.count
      → swings_from least pixel lines k a (lines.count - k) ≡ line_swings least pixel (lines.line k) (lines.len k)
      a ++ swings_from least pixel lines (k + 1) 0 (lines.count - (k + 1))
  unfolding swings_from
  lines_more h = rw (left_more k lines.count h, ← add-one k)

  pub lines_next : k < lines.count → line_swings least pixel (lines.line k) (lines.len k) a ≡ []
      → swings_from least pixel lines k a (lines.count - k) ≡ swings_from least pixel lines (k + 1) 0
      (lines.count - (k + 1))
  lines_next h e = rw (lines_more h, e)

pub lines_found : (least : ℕ) (pixel : Float) (lines : Lines) (k a b : ℕ) (s : Swing) → k < lines.count
    → line_swings least pixel (lines.line k) (lines.len k) a ≡ s ∷ line_swings least pixel (lines.line k)
    (lines.len k) b
    → swings_from least pixel lines k a (lines.count - k) ≡ s ∷ swings_from least pixel lines k b (lines.count - k)
lines_found least pixel lines k a b s h e =
    rw (lines_more least pixel lines k a h, lines_more least pixel lines k b h, e)
