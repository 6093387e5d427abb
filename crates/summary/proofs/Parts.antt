-- The parts of a file, from the front (`parts_next`), and those of records back to back (`parts_joined`).
use mathlib.Core.List.{List, [], ◌∷◌, ◌++◌, flatten}
use mathlib.Core.Path.{◌≡◌, refl, sym, ap, ◌∙◌}
use Prim.Native.Nat.{ℕ, zero, suc, ◌+◌, ◌-◌, ◌/◌, ◌<◌, min}
use native.Mathlib.Omega.{arith, min_cases}
use lib.ListN.{length, take, drop, length-drop, length-append, drop_of_length-le}
use lib.Seq.{take_all, take-length, drop-length, take_at, drop_at}
use Rattle.summary.specs.File.{parts_of, parts, Whole, All}

-- ---- up to k of a list

module _ (k : ℕ) (xs : List ℕ) where
  pub take_min : take (min k (length xs)) xs ≡ take k xs
  take_min =
      min_cases k (length xs) (take (min k (length xs)) xs ≡ take k xs) (λ _ e. rw e refl)
      (λ h e. rw e (take-length xs ∙ sym (take_all k xs h)))

  pub drop_min : drop (min k (length xs)) xs ≡ drop k xs
  drop_min =
      min_cases k (length xs) (drop (min k (length xs)) xs ≡ drop k xs) (λ _ e. rw e refl)
      (λ h e. rw e (drop-length xs ∙ sym (drop_of_length-le xs h)))

-- ---- parts

pub parts_none : (xs : List ℕ) → length xs ≡ 0 → parts xs ≡ []
unfolding parts_of
parts_none xs e = rw e refl

count_next : (n : ℕ) → 0 < n → (n + 31) / 32 ≡ suc ((n - 32 + 31) / 32)
count_next n some = omega arith

pub parts_next : (xs : List ℕ) → 0 < length xs → parts xs ≡ take 32 xs ∷ parts (drop 32 xs)
unfolding parts_of
parts_next xs some = rw (count_next (length xs) some, length-drop 32 xs) refl

-- .. and as the pieces of a slice come, of 32 bytes or what is left
pub parts_step : (xs x ys : List ℕ) → xs ≡ x ++ ys → length x ≡ min 32 (length xs) → 0 < length xs
    → parts xs ≡ x ∷ parts ys
parts_step xs x ys e l some =
    let first : take 32 xs ≡ x =
    sym (take_min 32 xs) ∙ ap (λ (n : ℕ). take n xs) (sym l) ∙ ap (take (length x)) e ∙ take_at x ys (length x) refl in
    let rest : drop 32 xs ≡ ys =
    sym (drop_min 32 xs) ∙ ap (λ (n : ℕ). drop n xs) (sym l) ∙ ap (drop (length x)) e ∙ drop_at x ys (length x) refl in
    parts_next xs some ∙ rw (first, rest) refl

parts_of_length : (n : ℕ) (xs : List ℕ) → length (parts_of n xs) ≡ n
unfolding parts_of
parts_of_length zero xs = refl
parts_of_length (suc n) xs = ap suc (parts_of_length n (drop 32 xs))

pub parts_length : (xs : List ℕ) → length (parts xs) ≡ (length xs + 31) / 32
parts_length xs = parts_of_length ((length xs + 31) / 32) xs

pub parts_some : (xs : List ℕ) → 0 < length xs → 0 < length (parts xs)
parts_some xs some = rw (parts_length xs) (omega arith)

-- ---- records back to back

pub parts_joined : (ps : List (List ℕ)) → All Whole ps → parts (flatten ps) ≡ ps
unfolding parts_of flatten
parts_joined [] w = refl
parts_joined (p ∷ ps) w =
    let n = length-append p (flatten ps) in
    parts_next (p ++ flatten ps) (omega (arith, n, w.0))
    ∙ rw (take_at p (flatten ps) 32 w.0, drop_at p (flatten ps) 32 w.0)
    (ap (λ (qs : List (List ℕ)). p ∷ qs) (parts_joined ps w.1))
