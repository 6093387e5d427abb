-- Laws of lists that `lib.Seq` and `lib.ListN` lack. In order: a part, n places from a on; a list whose part has come
-- back, `&mut s[a..e]` after the call; what holds of every element.
--
-- Not here: `List·getD-eq-default`, a load past the end (`lib.ListN`); `same_len_mid`, `put_same`, `set_mid_at`,
-- `take_put`, `drop-put`, of a list whose part has come back (`borrow.Rule.Slice.PartMut`).
use mathlib.Core.Path.{◌≡◌, ap, ◌∙◌}
use mathlib.Core.List.{List, ◌++◌}
use Prim.Native.Nat.{ℕ, ◌+◌, ◌-◌, ◌≤◌, ◌<◌}
use native.Mathlib.Omega.{arith}
use lib.ListN.{length, get_or, take, drop, length-drop, get_or-append}
use lib.Seq.{get_or-take, get_or-drop, get_or-append-add, length-take-le}

module _ {ℓ} {A : Type ℓ} where
  -- ---- a part

  pub get_d_part : (a n : ℕ) (l : List A) (i : ℕ) (d : A) → i < n → get_or (take n (drop a l)) i d ≡ get_or l (a + i) d
  get_d_part a n l i d h = get_or-take n (drop a l) i d h ∙ get_or-drop a l i d

  pub length_part : (a n : ℕ) (l : List A) → a + n ≤ length l → length (take n (drop a l)) ≡ n
  length_part a n l h = length-take-le n (drop a l) (rw length-drop (omega arith))

  -- ---- a list whose part has come back as ys

  module _ (a n : ℕ) (l ys : List A) (fits : a + n ≤ length l) (same : length ys ≡ n) (j : ℕ) (d : A) where
    front_length : length (take a l) ≡ a
    front_length = length-take-le a l (omega arith)

    from-part : a ≤ j → get_or (take a l ++ (ys ++ drop n (drop a l))) j d ≡ get_or (ys ++ drop n (drop a l)) (j - a) d
    from-part h =
        let e : j ≡ length (take a l) + (j - a) = rw front_length (omega arith) in
        ap (λ (k : ℕ). get_or (take a l ++ (ys ++ drop n (drop a l))) k d) e
        ∙ get_or-append-add (take a l) (ys ++ drop n (drop a l)) (j - a) d

    pub get_or_back_before : j < a → get_or (take a l ++ (ys ++ drop n (drop a l))) j d ≡ get_or l j d
    get_or_back_before h =
        get_or-append (take a l) (ys ++ drop n (drop a l)) d j (rw front_length h) ∙ get_or-take a l j d h

    pub get_or_back_within : a ≤ j → j < a + n → get_or (take a l ++ (ys ++ drop n (drop a l))) j d ≡ get_or ys (j - a) d
    get_or_back_within h k = from-part h ∙ get_or-append ys (drop n (drop a l)) d (j - a) (omega arith)

    pub get_or_back_after : a + n ≤ j → get_or (take a l ++ (ys ++ drop n (drop a l))) j d ≡ get_or l j d
    get_or_back_after h =
        let e : j - a ≡ length ys + (j - a - n) = omega arith in
        let f : a + (n + (j - a - n)) ≡ j = omega arith in
        from-part (omega arith)
        ∙ ap (λ (k : ℕ). get_or (ys ++ drop n (drop a l)) k d) e
        ∙ get_or-append-add ys (drop n (drop a l)) (j - a - n) d
        ∙ get_or-drop n (drop a l) (j - a - n) d
        ∙ get_or-drop a l (n + (j - a - n)) d
        ∙ ap (λ (k : ℕ). get_or l k d) f

-- ---- what holds of every element of l

module _ {ℓ κ} {A : Type ℓ} (P : A → Type κ) (d : A) (l : List A) (each : (j : ℕ) → j < length l → P (get_or l j d)) where
  pub each_part : (a n : ℕ) → a + n ≤ length l → (i : ℕ) → i < n → P (get_or (take n (drop a l)) i d)
  each_part a n h i b = rw (get_d_part a n l i d b) (each (a + i) (omega arith))
