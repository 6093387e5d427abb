-- Laws of what holds of each element of a list, taken from its front.
use mathlib.Core.List.{List, [], ◌∷◌, ◌++◌}
use Prim.Native.Nat.{ℕ, zero, suc, ◌<◌}
use native.Mathlib.Omega.{arith}
use lib.ListN.{length, get_or, take}
use Rattle.std.specs.List.{AllByRecursion as Each}

module _ {A : Type 0} (P : A → Type 0) where
  pub each_map : (Q : A → Type 0) → ((x : A) → P x → Q x) → (l : List A) → Each P l → Each Q l
  each_map Q f [] e = tt
  each_map Q f (x ∷ l) e = (f x e.0, each_map Q f l e.1)

  pub each_both : (Q R : A → Type 0) → ((x : A) → P x → Q x → R x) → (l : List A) → Each P l → Each Q l → Each R l
  each_both Q R f [] e d = tt
  each_both Q R f (x ∷ l) e d = (f x e.0 d.0, each_both Q R f l e.1 d.1)

  pub each_append : (l m : List A) → Each P l → Each P m → Each P (l ++ m)
  each_append [] m e d = d
  each_append (x ∷ l) m e d = (e.0, each_append l m e.1 d)

  pub each_at : (l : List A) (k : ℕ) (d : A) → Each P l → k < length l → P (get_or l k d)
  each_at [] k d e h = absurd (omega arith)
  each_at (x ∷ l) zero d e h = e.0
  each_at (x ∷ l) (suc k) d e h = each_at l k d e.1 (omega arith)

  pub each_take : (n : ℕ) (l : List A) → Each P l → Each P (take n l)
  each_take zero l e = tt
  each_take (suc n) [] e = tt
  each_take (suc n) (x ∷ l) e = (e.0, each_take n l e.1)
