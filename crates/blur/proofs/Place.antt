-- The element at a place of a list of keys in ascending order: the one key with at most k keys below it and more than k
-- keys up to it. Everything goes by one count, `under t l`: how many keys of l are below t.
use mathlib.Core.Path.{◌≡◌, refl, ap, ◌∙◌}
use mathlib.Core.Bool.{Bool, true, false, not, cond}
use mathlib.Core.List.{List, [], ◌∷◌}
use Prim.Native.Nat.{ℕ, zero, suc, ◌+◌, ◌≤◌, ◌<◌}
use native.Mathlib.Nat.{le_trans}
use native.Mathlib.Omega.{arith}
use lib.Dec.{T, ltb, leb, ltb→lt, nltb→le, leb→le, nleb→lt}
use lib.ListN.{length, get_or}
use borrow.Author.Tests.{lt-ltb, le-ltb}
use Rattle.blur.specs.Median.{insert, sort}
use Rattle.std.specs.List.{AllByRecursion as Each}
use Rattle.numbers.proofs.Each.{each_map, each_at}
use Rattle.numbers.proofs.Test.{cond_both}
use Rattle.blur.proofs.Sorting.{each_insert, length_sort}

abbrev pub bit : Bool → ℕ
bit true = 1
bit false = 0

abbrev pub count : {A : Type 0} → (A → Bool) → List A → ℕ
count p [] = 0
count p (x ∷ l) = bit (p x) + count p l

abbrev pub under : ℕ → List ℕ → ℕ
under t l = count (λ y. ltb y t) l

-- x is the k-th smallest key, counted from 0
pub record At (k x : ℕ) (l : List ℕ) : Type 0 where
  pub below : under x l ≤ k
  pub up_to : k < under (suc x) l

pub count_le : {A : Type 0} (p : A → Bool) (l : List A) → count p l ≤ length l
count_le p [] = omega arith
count_le p (x ∷ l) = let h = count_le p l in go (p x) h
  where
    go : (b : Bool) → count p l ≤ length l → bit b + count p l ≤ suc (length l)
    go true h = omega arith
    go false h = omega arith

-- ---- `under` grows with its bound
less : (y t u : ℕ) → t ≤ u → bit (ltb y t) ≤ bit (ltb y u)
less y t u h = go (ltb y t) (ltb→lt y t)
  where
    go : (b : Bool) → (T b → y < t) → bit b ≤ bit (ltb y u)
    go true k = let a : y < u = le_trans (k tt) h in rw (lt-ltb y u a) (omega arith)
    go false k = omega arith

pub under_mono : (t u : ℕ) (l : List ℕ) → t ≤ u → under t l ≤ under u l
under_mono t u [] h = omega arith
under_mono t u (y ∷ l) h = omega (arith, less y t u h, under_mono t u l h)

pub at_unique : (k x y : ℕ) (l : List ℕ) → At k x l → At k y l → x ≡ y
at_unique k x y l a b = go (ltb x y) (ltb y x) (ltb→lt x y) (nltb→le x y) (ltb→lt y x) (nltb→le y x)
  where
    go : (p q : Bool) → (T p → x < y) → (T (not p) → y ≤ x) → (T q → y < x) → (T (not q) → x ≤ y) → x ≡ y
    go true q f f' g g' = absurd (omega (arith, under_mono (suc x) y l (f tt), a.up_to, b.below))
    go false true f f' g g' = absurd (omega (arith, under_mono (suc y) x l (g tt), b.up_to, a.below))
    go false false f f' g g' = omega (arith, f' tt, g' tt)

-- ---- sorting keeps `under`, and gives an ascending list
pub count_insert : (p : ℕ → Bool) (x : ℕ) (l : List ℕ) → count p (insert leb x l) ≡ bit (p x) + count p l
count_insert p x [] = refl
count_insert p x (y ∷ l) =
    cond_both (λ (k : List ℕ). count p k ≡ bit (p x) + count p (y ∷ l)) (leb x y) (x ∷ (y ∷ l)) (y ∷ insert leb x l)
    refl
    (omega (arith, count_insert p x l))

pub count_sort : (p : ℕ → Bool) (l : List ℕ) → count p (sort leb l) ≡ count p l
count_sort p [] = refl
count_sort p (x ∷ l) = count_insert p x (sort leb l) ∙ ap (bit (p x) +◌) (count_sort p l)

abbrev Ascending : List ℕ → Type 0
Ascending [] = Unit {0}
Ascending (x ∷ l) = Each (x ≤◌) l × Ascending l

insert_ascending : (x : ℕ) (l : List ℕ) → Ascending l → Ascending (insert leb x l)
insert_ascending x [] a = (tt, tt)
insert_ascending x (y ∷ l) a = go (leb x y) (leb→le x y) (nleb→lt x y) (insert_ascending x l a.1)
  where
    go : (b : Bool) → (T b → x ≤ y) → (T (not b) → y < x) → Ascending (insert leb x l)
        → Ascending (cond b (x ∷ (y ∷ l)) (y ∷ insert leb x l))
    go true f g i = ((f tt, each_map (y ≤◌) (x ≤◌) (λ z h. le_trans (f tt) h) l a.0), a)
    go false f g i = (each_insert (y ≤◌) leb x l (omega (arith, g tt)) a.0, i)

sort_ascending : (l : List ℕ) → Ascending (sort leb l)
sort_ascending [] = tt
sort_ascending (x ∷ l) = insert_ascending x (sort leb l) (sort_ascending l)

-- ---- the place in an ascending list
pub under_none : (x : ℕ) (l : List ℕ) → Each (x ≤◌) l → under x l ≡ 0
under_none x [] e = refl
under_none x (y ∷ l) e = rw (le-ltb y x e.0) (omega (arith, under_none x l e.1))

ascending_at : (l : List ℕ) (k d : ℕ) → Ascending l → k < length l → At k (get_or l k d) l
ascending_at [] k d a h = absurd (omega arith)
ascending_at (x ∷ l) zero d a h =
    record {
      below = rw (le-ltb x x (omega arith)) (omega (arith, under_none x l a.0));
      up_to =
          rw (lt-ltb x (suc x) (omega arith)) (omega arith);
    }
ascending_at (x ∷ l) (suc k) d a h =
    let z = get_or l k d in
    let r : At k z l = ascending_at l k d a.1 (omega arith) in
    let w : x ≤ z = each_at (x ≤◌) l k d a.0 (omega arith) in
    record {
      below = omega (arith, bit_le (ltb x z), r.below);
      up_to =
          rw (lt-ltb x (suc z) (omega arith)) (omega (arith, r.up_to));
    }
  where
    bit_le : (b : Bool) → bit b ≤ 1
    bit_le true = omega arith
    bit_le false = omega arith

-- ---- the theorem: in either direction
-- d is what stands past the list's end, and never comes into it
pub sorted_at : (l : List ℕ) (k d : ℕ) → k < length l → At k (get_or (sort leb l) k d) l
sorted_at l k d h =
    let x = get_or (sort leb l) k d in
    let r = ascending_at (sort leb l) k d (sort_ascending l) (omega (arith, length_sort leb l)) in
    record {
      below = omega (arith, count_sort (λ y. ltb y x) l, r.below);
      up_to =
          omega (arith, count_sort (λ y. ltb y (suc x)) l, r.up_to);
    }

pub at_sorted : (l : List ℕ) (k d x : ℕ) → k < length l → At k x l → x ≡ get_or (sort leb l) k d
at_sorted l k d x h a = at_unique k x (get_or (sort leb l) k d) l a (sorted_at l k d h)
