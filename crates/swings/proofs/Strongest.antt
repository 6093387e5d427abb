-- The strongest swing, found record by record. The stronger of two is std's greater one.
use mathlib.Core.Path.{◌≡◌, refl, sym, ap, ◌∙◌}
use mathlib.Core.Bool.{Bool, true, false, not, cond}
use mathlib.Core.List.{List, [], ◌∷◌, ◌++◌}
use lib.Dec.{T, leb, leb→le, nleb→lt}
use lib.IntN.{ℤ, pos, negsuc}
use lib.Signed.{lt_z, le_z}
use Rattle.std.specs.Int.{int_max}
use Rattle.numbers.proofs.Int.Linear.{linear}
use native.Mathlib.Omega.{arith}
use Prim.Native.Nat.{ℕ, ◌≤◌, ◌<◌, max, min}
use Rattle.swings.specs.declared.Swing.{Swing}
use Rattle.swings.specs.Swings.{larger, strongest}

larger_pos : (a b : ℕ) → larger (pos a) (pos b) ≡ pos (max a b)
larger_pos a b = go (leb a b) (leb→le a b) (nleb→lt a b)
  where
    go : (t : Bool) → (T t → a ≤ b) → (T (not t) → b < a) → cond t (pos b) (pos a) ≡ pos (max a b)
    go true f g = ap pos (least (f tt))
      where
        least : a ≤ b → b ≡ max a b
        least h = omega arith
    go false f g = ap pos (most (g tt))
      where
        most : b < a → a ≡ max a b
        most h = omega arith

larger_neg : (a b : ℕ) → larger (negsuc a) (negsuc b) ≡ negsuc (min a b)
larger_neg a b = go (leb b a) (leb→le b a) (nleb→lt b a)
  where
    go : (t : Bool) → (T t → b ≤ a) → (T (not t) → a < b) → cond t (negsuc b) (negsuc a) ≡ negsuc (min a b)
    go true f g = ap negsuc (least (f tt))
      where
        least : b ≤ a → b ≡ min a b
        least h = omega arith
    go false f g = ap negsuc (most (g tt))
      where
        most : a < b → a ≡ min a b
        most h = omega arith

pub larger_is : (a b : ℤ) → int_max a b ≡ larger a b
larger_is a b = go (lt_z b a) (le_z a b) refl refl
  where
    go : (s t : Bool) → lt_z b a ≡ s → le_z a b ≡ t → cond s a b ≡ cond t b a
    go true true e f = absurd (omega (arith, linear))
    go true false e f = refl
    go false true e f = refl
    go false false e f = absurd (omega (arith, linear))

pub larger_comm : (a b : ℤ) → larger a b ≡ larger b a
larger_comm (pos a) (pos b) = larger_pos a b ∙ ap pos (swap a b) ∙ sym (larger_pos b a)
  where
    swap : (m n : ℕ) → max m n ≡ max n m
    swap m n = omega arith
larger_comm (pos a) (negsuc b) = refl
larger_comm (negsuc a) (pos b) = refl
larger_comm (negsuc a) (negsuc b) = larger_neg a b ∙ ap negsuc (swap a b) ∙ sym (larger_neg b a)
  where
    swap : (m n : ℕ) → min m n ≡ min n m
    swap m n = omega arith

pub larger_assoc : (a b c : ℤ) → larger a (larger b c) ≡ larger (larger a b) c
larger_assoc (pos a) (pos b) (pos c) =
    rw (larger_pos b c, larger_pos a b, larger_pos a (max b c), larger_pos (max a b) c) (ap pos (regroup a b c))
  where
    regroup : (m n k : ℕ) → max m (max n k) ≡ max (max m n) k
    regroup m n k = omega arith
larger_assoc (pos a) (pos b) (negsuc c) = rw (larger_pos a b) refl
larger_assoc (pos a) (negsuc b) (pos c) = refl
larger_assoc (pos a) (negsuc b) (negsuc c) = rw (larger_neg b c) refl
larger_assoc (negsuc a) (pos b) (pos c) = rw (larger_pos b c) refl
larger_assoc (negsuc a) (pos b) (negsuc c) = refl
larger_assoc (negsuc a) (negsuc b) (pos c) = rw (larger_neg a b) refl
larger_assoc (negsuc a) (negsuc b) (negsuc c) =
    rw (larger_neg b c, larger_neg a b, larger_neg a (min b c), larger_neg (min a b) c) (ap negsuc (regroup a b c))
  where
    regroup : (m n k : ℕ) → min m (min n k) ≡ min (min m n) k
    regroup m n k = omega arith

-- one swing more: the list so far has its strongest, and `stronger` takes in the next
pub strongest_snoc : (l : List Swing) (s : Swing) → strongest (l ++ (s ∷ [])) ≡ larger (strongest l) s.swing
strongest_snoc [] s = larger_comm s.swing (pos 0)
strongest_snoc (t ∷ l) s = ap (larger t.swing) (strongest_snoc l s)
    ∙ larger_assoc t.swing (strongest l) s.swing
