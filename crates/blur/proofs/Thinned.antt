-- The swings that a scan does not store, those below half of the strongest before them, do not stay: without them the
-- length is the same (`thinned_length`).
use mathlib.Core.Path.{◌≡◌, refl, sym, ◌∙◌, ap}
use mathlib.Core.Bool.{Bool, true, false, cond, true≢false}
use mathlib.Core.List.{List, [], ◌∷◌}
use Prim.Native.Nat.{ℕ, suc, ◌+◌, ◌*◌}
use native.Mathlib.Omega.{arith}
use lib.IntN.{ℤ, pos, negsuc, ◌*ℤ◌}
use lib.Signed.{le_z}
use lib.Ieee.{Float}
use borrow.Author.Tests.{lt-leb, leb-false}
use Rattle.numbers.proofs.Int.Linear.{linear}
use Rattle.swings.specs.declared.Swing.{Swing}
use Rattle.swings.specs.Swings.{larger, strongest}
use Rattle.swings.specs.Scan.{half_of, thinned}
use Rattle.swings.proofs.Strongest.{larger_comm, larger_assoc}
use Rattle.swings.proofs.Thinned.{onward}
use Rattle.blur.specs.Median.{stays, kept, length_from, length_of}

-- ---- half of the strongest: a swing below it does not stay, and is not the strongest
twice_suc : (m : ℕ) → 2 * suc m ≡ suc (2 * m + 1)
twice_suc m = omega arith

below_half : (all top z : ℤ) → le_z (pos 0) all ≡ true → le_z top all ≡ true → le_z (pos (half_of top)) z ≡ false
    → le_z all (pos 2 *ℤ z) ≡ false
unfolding half_of
below_half (pos n) (pos m) (pos k) g h e = omega (arith, linear)
below_half (pos n) (negsuc m) (pos k) g h e = omega (arith, linear)
below_half (pos n) top (negsuc k) g h e = rw (twice_suc k) refl
below_half (negsuc n) top z g h e = absurd (true≢false (sym g))

not_strongest : (top z : ℤ) → le_z (pos 0) top ≡ true → le_z (pos (half_of top)) z ≡ false → larger top z ≡ top
unfolding half_of
not_strongest (pos m) (pos k) h e = rw (lt-leb m k (omega (arith, leb-false _ k e))) refl
not_strongest (pos m) (negsuc k) h e = refl
not_strongest (negsuc m) z h e = absurd (true≢false (sym h))

-- ---- the larger of two
larger_above : (a b : ℤ) → le_z (pos 0) a ≡ true → le_z (pos 0) (larger a b) ≡ true
larger_above a b h = go (le_z a b) refl
  where
    go : (t : Bool) → le_z a b ≡ t → le_z (pos 0) (cond t b a) ≡ true
    go true e = omega (arith, linear)
    go false e = h

larger_below : (a b c : ℤ) → le_z a c ≡ true → le_z b c ≡ true → le_z (larger a b) c ≡ true
larger_below a b c h k = go (le_z a b)
  where
    go : (t : Bool) → le_z (cond t b a) c ≡ true
    go true = k
    go false = h

both_below : (a b c : ℤ) → le_z (larger a b) c ≡ true → (le_z a c ≡ true) × (le_z b c ≡ true)
both_below a b c = go (le_z a b) refl
  where
    go : (t : Bool) → le_z a b ≡ t → le_z (cond t b a) c ≡ true → (le_z a c ≡ true) × (le_z b c ≡ true)
    go true e h = (omega (arith, linear), h)
    go false e h = (h, omega (arith, linear))

strongest_above : (l : List Swing) → larger (pos 0) (strongest l) ≡ strongest l
strongest_above [] = refl
strongest_above (s ∷ l) =
    larger_assoc (pos 0) s.swing (strongest l)
    ∙ ap (λ (z : ℤ). larger z (strongest l)) (larger_comm (pos 0) s.swing)
    ∙ sym (larger_assoc s.swing (pos 0) (strongest l))
    ∙ ap (larger s.swing) (strongest_above l)

-- ---- a thinned list
thinned_strongest : (top : ℤ) → le_z (pos 0) top ≡ true → (l : List Swing)
    → larger top (strongest (thinned top l)) ≡ larger top (strongest l)
unfolding thinned
thinned_strongest top h [] = refl
thinned_strongest top h (s ∷ l) =
    go (le_z (pos (half_of top)) s.swing) refl
    (thinned_strongest (larger top s.swing) (larger_above top s.swing h) l) (thinned_strongest top h l)
    ∙ sym (larger_assoc top s.swing (strongest l))
  where
    more : ℤ
    more = larger top s.swing

    go : (t : Bool) → le_z (pos (half_of top)) s.swing ≡ t
        → larger more (strongest (thinned more l)) ≡ larger more (strongest l)
        → larger top (strongest (thinned top l)) ≡ larger top (strongest l)
        → larger top (strongest (onward top s l t)) ≡ larger more (strongest l)
    go true e p q = larger_assoc top s.swing (strongest (thinned more l)) ∙ p
    go false e p q = q ∙ ap (λ (z : ℤ). larger z (strongest l)) (sym (not_strongest top s.swing h e))

thinned_kept : (all : ℤ) → le_z (pos 0) all ≡ true → (top : ℤ) → le_z top all ≡ true → (l : List Swing)
    → le_z (strongest l) all ≡ true → kept all (thinned top l) ≡ kept all l
unfolding thinned
thinned_kept all g top h [] k = refl
thinned_kept all g top h (s ∷ l) k =
    let each = both_below s.swing (strongest l) all k in
    go (le_z (pos (half_of top)) s.swing) refl
    (thinned_kept all g (larger top s.swing) (larger_below top s.swing all h each.0) l each.1)
    (thinned_kept all g top h l each.1)
  where
    go : (t : Bool) → le_z (pos (half_of top)) s.swing ≡ t → kept all (thinned (larger top s.swing) l) ≡ kept all l
        → kept all (thinned top l) ≡ kept all l
        → kept all (onward top s l t) ≡ cond (stays all s) (s.width ∷ kept all l) (kept all l)
    go true e p q = ap (λ (ws : List Float). cond (stays all s) (s.width ∷ ws) ws) p
    go false e p q = q ∙ ap (λ (t : Bool). cond t (s.width ∷ kept all l) (kept all l))
        (sym (below_half all top s.swing g h e))

-- ---- the length is the same
pub thinned_length : (l : List Swing) (m : ℕ) → length_of (thinned (pos 0) l) m ≡ length_of l m
thinned_length l m = ap (λ (z : ℤ). length_from (kept z (thinned (pos 0) l)) m) same
    ∙ ap (λ (ws : List Float). length_from ws m)
    (thinned_kept (strongest l) above (pos 0) above l (omega (arith, linear)))
  where
    same : strongest (thinned (pos 0) l) ≡ strongest l
    same = sym (strongest_above (thinned (pos 0) l)) ∙ thinned_strongest (pos 0) refl l ∙ strongest_above l

    above : le_z (pos 0) (strongest l) ≡ true
    above = ap (le_z (pos 0)) (sym (strongest_above l)) ∙ larger_above (pos 0) (strongest l) refl
