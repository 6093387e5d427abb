-- A scan stores no swing below half of the strongest before it, and so has its least swing raised as it goes. That the
-- swings that stay are the same is in `blur/proofs/Thinned`.
use mathlib.Core.Path.{◌≡◌, refl, sym, ◌∙◌, ap, ap₂, subst}
use mathlib.Core.Bool.{Bool, true, false, cond, true≢false}
use mathlib.Core.List.{List, [], ◌∷◌, ◌++◌}
use Prim.Native.Nat.{ℕ, zero, suc, ◌≤◌, ◌<◌, max, zero-le}
use native.Mathlib.Nat.{le_refl, le_trans}
use native.Mathlib.Omega.{arith}
use native.Mathlib.Decide.{dec_lt}
use lib.Dec.{leb}
use lib.IntN.{ℤ, pos, negsuc}
use lib.Signed.{le_z}
use lib.ListN.{length}
use lib.Ieee.{Float, binary64, sub, lt}
use borrow.Author.Tests.{le-leb, lt-leb}
use Rattle.numbers.proofs.Int.Linear.{linear}
use Rattle.swings.specs.declared.Swing.{Swing}
use Rattle.std.specs.Prelude.{Option, Some, None}
use Rattle.swings.specs.Line.{Lines}
use Rattle.swings.specs.Rise.{swing_of, rise_between, rise_of}
use Rattle.swings.specs.Runs.{Run, runs_after}
use Rattle.swings.specs.Swings.{with_rise, swings_of, line_swings, swings_from, larger}
use Rattle.swings.specs.Scan.{half_of, thinned}
use Rattle.std.specs.List.{AllByRecursion as Each}
use Rattle.swings.proofs.Rise.{rise_small, rise_is}

-- ---- the swings of at least u
abbrev pub at_least : ℕ → List Swing → List Swing
at_least u [] = []
at_least u (s ∷ l) = cond (le_z (pos u) s.swing) (s ∷ at_least u l) (at_least u l)

at_least_append : (u : ℕ) (l m : List Swing) → at_least u (l ++ m) ≡ at_least u l ++ at_least u m
at_least_append u [] m = refl
at_least_append u (s ∷ l) m = go (le_z (pos u) s.swing) (at_least_append u l m)
  where
    go : (t : Bool) → at_least u (l ++ m) ≡ at_least u l ++ at_least u m
        → cond t (s ∷ at_least u (l ++ m)) (at_least u (l ++ m)) ≡ cond t (s ∷ at_least u l) (at_least u l) ++ at_least u m
    go true e = ap (λ (k : List Swing). s ∷ k) e
    go false e = e

at_least_each : (u : ℕ) (l : List Swing) → Each (λ (s : Swing). le_z (pos u) s.swing ≡ true) (at_least u l)
at_least_each u [] = tt
at_least_each u (s ∷ l) = go (le_z (pos u) s.swing) refl (at_least_each u l)
  where
    go : (t : Bool) → le_z (pos u) s.swing ≡ t → Each (λ (s : Swing). le_z (pos u) s.swing ≡ true) (at_least u l)
        → Each (λ (s : Swing). le_z (pos u) s.swing ≡ true) (cond t (s ∷ at_least u l) (at_least u l))
    go true e h = (e, h)
    go false e h = h

module _ (least u : ℕ) (pixel : Float) where
  between-raised : (t : Bool) (low high : Option Float) (v : ℕ) (others : List Swing) → leb u v ≡ t
      → at_least u (with_rise pixel (rise_between low high v) others) ≡ cond t
      (with_rise pixel (rise_between low high v) (at_least u others)) (at_least u others)
  unfolding rise_between
  between-raised true None high v others e = refl
  between-raised false None high v others e = refl
  between-raised true (Some p) None v others e = refl
  between-raised false (Some p) None v others e = refl
  between-raised true (Some p) (Some q) v others e = go (lt p q)
    where
      go : (b : Bool) → at_least u
          (with_rise pixel (cond b (Some (record { width = sub binary64 q p; swing = pos v })) None) others)
          ≡ with_rise pixel (cond b (Some (record { width = sub binary64 q p; swing = pos v })) None)
          (at_least u others)
      go true = rw e refl
      go false = refl
  between-raised false (Some p) (Some q) v others e = go (lt p q)
    where
      go : (b : Bool) → at_least u
          (with_rise pixel (cond b (Some (record { width = sub binary64 q p; swing = pos v })) None) others)
          ≡ at_least u others
      go true = rw e refl
      go false = refl

  rise-raised : (x : ℕ → ℕ) (a b : ℕ) (others : List Swing)
      → with_rise pixel (rise_of (max least u) x a b) (at_least u others) ≡ at_least u
      (with_rise pixel (rise_of least x a b) others)
  rise-raised x a b others = go (dec_lt (swing_of (x a) (x b)) least) (dec_lt (swing_of (x a) (x b)) u)
    where
      go : Dec (swing_of (x a) (x b) < least) → Dec (swing_of (x a) (x b) < u)
          → with_rise pixel (rise_of (max least u) x a b) (at_least u others) ≡ at_least u
          (with_rise pixel (rise_of least x a b) others)
      go (yes h) d = rw (rise_small least x a b h, rise_small (max least u) x a b (omega arith)) refl
      go (no h) (yes k) = rw (rise_small (max least u) x a b (omega arith), rise_is least x a b (omega arith))
          (sym (between-raised false _ _ (swing_of (x a) (x b)) others (lt-leb u (swing_of (x a) (x b)) k)))
      go (no h) (no k) = rw (rise_is (max least u) x a b (omega arith), rise_is least x a b (omega arith))
          (sym (between-raised true _ _ (swing_of (x a) (x b)) others (le-leb u (swing_of (x a) (x b)) (omega arith))))

  runs-raised : (x : ℕ → ℕ) (rs : List Run) → swings_of (max least u) pixel x rs ≡ at_least u (swings_of least pixel x rs)
  unfolding swings_of
  runs-raised x [] = refl
  runs-raised x (r ∷ rs) = ap (with_rise pixel (rise_of (max least u) x r.first r.last)) (runs-raised x rs)
      ∙ rise-raised x r.first r.last (swings_of least pixel x rs)

  line-raised : (x : ℕ → ℕ) (n a : ℕ) → line_swings (max least u) pixel x n a ≡ at_least u (line_swings least pixel x n a)
  unfolding line_swings
  line-raised x n a = runs-raised x (runs_after x n a)

  pub raised_swings : (lines : Lines) (k a j : ℕ)
      → swings_from (max least u) pixel lines k a j ≡ at_least u (swings_from least pixel lines k a j)
  unfolding swings_from
  raised_swings lines k a zero = refl
  raised_swings lines k a (suc j) =
      ap₂ (◌++◌ {A = Swing}) (line-raised (lines.line k) (lines.len k) a) (raised_swings lines (suc k) 0 j)
      ∙ sym (at_least_append u (line_swings least pixel (lines.line k) (lines.len k) a)
      (swings_from least pixel lines (suc k) 0 j))

-- ---- half of the strongest
pub half_larger : (top z : ℤ) → half_of top ≤ half_of (larger top z)
unfolding half_of
half_larger top z = go (le_z top z) refl
  where
    go : (t : Bool) → le_z top z ≡ t → half_of top ≤ half_of (cond t z top)
    go true e = grows top z e
      where
        grows : (a b : ℤ) → le_z a b ≡ true → half_of a ≤ half_of b
        grows (pos m) (pos n) e = omega (arith, linear)
        grows (pos m) (negsuc n) e = omega (arith, linear)
        grows (negsuc m) b e = zero-le
    go false e = le_refl _

-- ---- a thinned list: it goes on after a swing with the strongest so far, or with the same
module _ (top : ℤ) (s : Swing) (l : List Swing) where
  abbrev pub onward : Bool → List Swing
  onward t = cond t (s ∷ thinned (larger top s.swing) l) (thinned top l)

pub thinned_again : (u : ℕ) (top : ℤ) → u ≤ half_of top → (l : List Swing) → thinned top (at_least u l) ≡ thinned top l
unfolding thinned
thinned_again u top h [] = refl
thinned_again u top h (s ∷ l) =
    go (le_z (pos u) s.swing) (le_z (pos (half_of top)) s.swing) refl refl
    (thinned_again u (larger top s.swing) (le_trans h (half_larger top s.swing)) l) (thinned_again u top h l)
  where
    go : (t v : Bool) → le_z (pos u) s.swing ≡ t → le_z (pos (half_of top)) s.swing ≡ v
        → thinned (larger top s.swing) (at_least u l) ≡ thinned (larger top s.swing) l
        → thinned top (at_least u l) ≡ thinned top l
        → thinned top (cond t (s ∷ at_least u l) (at_least u l)) ≡ onward top s l v
    go true true d e p q = rw e (ap (λ (k : List Swing). s ∷ k) p)
    go true false d e p q = rw e q
    go false true d e p q = absurd (true≢false (sym e ∙ omega (arith, linear)))
    go false false d e p q = q

-- the first of them has its record
pub thinned_first : (top : ℤ) (l m : List Swing) (s : Swing) → at_least (half_of top) l ≡ s ∷ m
    → thinned top (s ∷ m) ≡ s ∷ thinned (larger top s.swing) m
unfolding thinned
thinned_first top l m s e =
    ap (onward top s m) (subst (Each (λ (s : Swing). le_z (pos (half_of top)) s.swing ≡ true)) e
    (at_least_each (half_of top) l)).0

pub thinned_few : (top : ℤ) (l : List Swing) → length (thinned top l) ≤ length l
unfolding thinned
thinned_few top [] = zero-le
thinned_few top (s ∷ l) =
    go (le_z (pos (half_of top)) s.swing) (thinned_few (larger top s.swing) l) (thinned_few top l)
  where
    go : (t : Bool) → length (thinned (larger top s.swing) l) ≤ length l → length (thinned top l) ≤ length l
        → length (onward top s l t) ≤ suc (length l)
    go true p q = omega arith
    go false p q = omega arith

pub thinned_each : (P : Swing → Type 0) (top : ℤ) (l : List Swing) → Each P l → Each P (thinned top l)
unfolding thinned
thinned_each P top [] h = tt
thinned_each P top (s ∷ l) h =
    go (le_z (pos (half_of top)) s.swing) (thinned_each P (larger top s.swing) l h.1)
    (thinned_each P top l h.1)
  where
    go : (t : Bool) → Each P (thinned (larger top s.swing) l) → Each P (thinned top l) → Each P (onward top s l t)
    go true p q = (h.0, p)
    go false p q = q
