-- What insertion sort keeps: the facts of the elements, so that the median has them, the length, and the order under a
-- map that respects it.
use mathlib.Core.Path.{◌≡◌, refl, ap, ◌∙◌}
use mathlib.Core.Bool.{Bool, true, false, cond}
use mathlib.Core.List.{List, [], ◌∷◌, map}
use Prim.Native.Nat.{suc, ◌/◌, ◌<◌}
use native.Mathlib.Omega.{arith}
use lib.ListN.{length}
use lib.Ieee.{Float, nan, le}
use Rattle.std.specs.List.{AllByRecursion as Each}
use Rattle.numbers.proofs.Each.{each_at}
use Rattle.blur.specs.Median.{insert, sort, median}

module _ {A : Type 0} (P : A → Type 0) where
  each-pick : (b : Bool) (l r : List A) → Each P l → Each P r → Each P (cond b l r)
  each-pick true l r e f = e
  each-pick false l r e f = f

  pub each_insert : (before : A → A → Bool) (x : A) (l : List A) → P x → Each P l → Each P (insert before x l)
  each_insert before x [] p e = (p, tt)
  each_insert before x (y ∷ l) p e =
      each-pick (before x y) (x ∷ (y ∷ l)) (y ∷ insert before x l) (p, e) (e.0, each_insert before x l p e.1)

  pub each_sort : (before : A → A → Bool) (l : List A) → Each P l → Each P (sort before l)
  each_sort before [] e = tt
  each_sort before (x ∷ l) e = each_insert before x (sort before l) e.0 (each_sort before l e.1)

-- ---- sorting keeps the length
module _ {A : Type 0} (before : A → A → Bool) where
  length-insert : (x : A) (l : List A) → length (insert before x l) ≡ suc (length l)
  length-insert x [] = refl
  length-insert x (y ∷ l) = go (before x y) (length-insert x l)
    where
      go : (b : Bool) → length (insert before x l) ≡ suc (length l)
          → length (cond b (x ∷ (y ∷ l)) (y ∷ insert before x l)) ≡ suc (suc (length l))
      go true e = refl
      go false e = ap suc e

  pub length_sort : (l : List A) → length (sort before l) ≡ length l
  length_sort [] = refl
  length_sort (x ∷ l) = length-insert x (sort before l) ∙ ap suc (length_sort l)

pub median_each : (P : Float → Type 0) (ws : List Float) → Each P ws → 0 < length ws → P (median ws)
median_each P ws e h =
    each_at P (sort le ws) (length ws / 2) nan (each_sort P le ws e) (omega (arith, length_sort le ws))

-- ---- a map that respects the order maps the sorted list to the sorted list
module _ {A B : Type 0} (f : A → B) (P : A → Type 0) (r : A → A → Bool) (q : B → B → Bool)
    (same : (x y : A) → P x → P y → r x y ≡ q (f x) (f y)) where
  map-cond : (b : Bool) (l m : List A) → map f (cond b l m) ≡ cond b (map f l) (map f m)
  map-cond true l m = refl
  map-cond false l m = refl

  map-insert : (x : A) (l : List A) → P x → Each P l → map f (insert r x l) ≡ insert q (f x) (map f l)
  map-insert x [] p e = refl
  map-insert x (y ∷ l) p e =
      map-cond (r x y) (x ∷ (y ∷ l)) (y ∷ insert r x l)
      ∙ ap (λ (b : Bool). cond b (f x ∷ (f y ∷ map f l)) (f y ∷ map f (insert r x l))) (same x y p e.0)
      ∙ ap (λ (m : List B). cond (q (f x) (f y)) (f x ∷ (f y ∷ map f l)) (f y ∷ m)) (map-insert x l p e.1)

  pub map_sort : (l : List A) → Each P l → map f (sort r l) ≡ sort q (map f l)
  map_sort [] e = refl
  map_sort (x ∷ l) e = map-insert x (sort r l) e.0 (each_sort P r l e.1) ∙ ap (insert q (f x)) (map_sort l e.1)
