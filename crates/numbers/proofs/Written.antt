-- Laws of `Written`, over any type of element. In order: how a writing begins, goes on by a store and by another
-- writing, and is said otherwise; what the list then holds; what `Painted` says of a pixel; a writing into a part,
-- `&mut s[a..e]`, seen on the whole (`written_part`). The laws of its tests are in `Places`.
--
-- A loop's invariant is a `Written` from the list at the loop's start to the list now. An inner loop starts from
-- another list than the function: after it, `written_join` joins its writing to the outer one.
use mathlib.Core.Path.{◌≡◌, refl, sym, ap, ◌∙◌}
use mathlib.Core.Bool.{Bool, true, false, ◌||◌, cond}
use mathlib.Core.List.{List, ◌++◌}
use mathlib.Core.Logic.{⊎_elim}
use Prim.Native.Nat.{ℕ, ◌+◌, ◌-◌, ◌*◌, ◌/◌, ◌%◌, ◌≤◌, ◌<◌}
use native.Mathlib.Omega.{arith}
use borrow.Author.Tests.{ltb-true, ltb-false, eqb-true, eqb-false}
use borrow.Rule.Slice.PartMut.{same_len_mid}
use lib.Arith.{digits_div, digits_mod}
use lib.Dec.{ltb, eqb}
use lib.ListN.{length, get_or, set, take, drop, length-set, get_or-eq_default}
use lib.Seq.{get_or-set_same, get_or-set_other, ext_get_or}
use Rattle.numbers.specs.Written.{Written, Painted, part}
use Rattle.numbers.proofs.List.{get_d_part, length_part, get_or_back_before, get_or_back_within, get_or_back_after}
use Rattle.numbers.proofs.Places.{part_iff, within, within_iff, pixels_at, pixels_iff}
use Rattle.numbers.proofs.Test.{by_test, false_not_true, false_of_not, or_cases, or_false_left, or_false_right}

module _ {A : Type 0} {z : A} {g : ℕ → A} {old : List A} where
  -- ---- how a writing begins, goes on and is said otherwise

  pub written_none : {hit : ℕ → Bool} → ((j : ℕ) → j < length old → hit j ≡ false) → Written z hit g old old
  written_none miss =
      record { same_length = refl; hits = λ j b e. absurd (false_not_true (miss j b) e); rest = λ j b e. refl }

  -- another writing, of the same g
  pub written_join : {hit₁ hit₂ hit : ℕ → Bool} {mid new : List A} → Written z hit₁ g old mid → Written z hit₂ g mid new
      → ((j : ℕ) → hit j ≡ (hit₁ j || hit₂ j)) → Written z hit g old new
  written_join {hit₁} {hit₂} {hit} {mid} F S t =
      record {
        same_length = S.same_length ∙ F.same_length;
        hits = λ j b e.
            by_test (hit₂ j) (λ q. S.hits j (in-mid j b) q)
            (λ q. S.rest j (in-mid j b) q ∙ F.hits j b (first j e q));
        rest = λ j b e.
            S.rest j (in-mid j b) (or_false_right (hit₁ j) (hit₂ j) (sym (t j) ∙ e))
            ∙ F.rest j b (or_false_left (hit₁ j) (hit₂ j) (sym (t j) ∙ e));
      }
    where
      in-mid : (j : ℕ) → j < length old → j < length mid
      in-mid j b = rw F.same_length b

      first : (j : ℕ) → hit j ≡ true → hit₂ j ≡ false → hit₁ j ≡ true
      first j e q = ⊎_elim (λ p. p) (λ p. absurd (false_not_true q p)) (or_cases (hit₁ j) (hit₂ j) (sym (t j) ∙ e))

  -- a store of what g has there
  pub written_set : {hit hit' : ℕ → Bool} {new : List A} (i : ℕ) (v : A) → Written z hit g old new → i < length new
      → v ≡ g i
      → ((j : ℕ) → hit' j ≡ (hit j || eqb j i)) → Written z hit' g old (set new i v)
  written_set {new = new} i v W b e t = written_join W stored t
    where
      stored : Written z (λ j. eqb j i) g new (set new i v)
      stored =
          record {
            same_length = length-set new i v;
            hits = λ j c q. rw (eqb-true j i q) (get_or-set_same new i v z b ∙ e);
            rest = λ j c q. get_or-set_other new i j v z (eqb-false j i q);
          }

  -- a test that is equal below the length, values that are equal where they are written
  pub written_same : {hit hit' : ℕ → Bool} {g' : ℕ → A} {new : List A} → Written z hit g old new
      → ((j : ℕ) → j < length old → hit' j ≡ hit j) → ((j : ℕ) → j < length old → hit j ≡ true → g j ≡ g' j)
      → Written z hit' g' old new
  written_same W t v =
      record {
        same_length = W.same_length;
        hits = λ j b e. let h = sym (t j b) ∙ e in W.hits j b h ∙ v j b h;
        rest = λ j b e. W.rest j b (sym (t j b) ∙ e);
      }

  -- ---- what the list then holds

  module _ {hit : ℕ → Bool} {new : List A} (W : Written z hit g old new) where
    pub written_get : (j : ℕ) → j < length old → get_or new j z ≡ cond (hit j) (g j) (get_or old j z)
    written_get j b = by_test (hit j) (λ e. rw e (W.hits j b e)) (λ e. rw e (W.rest j b e))

    -- a place that is not hit, within the list or past it
    pub written_kept : (j : ℕ) → hit j ≡ false → get_or new j z ≡ get_or old j z
    written_kept j e =
        by_test (ltb j (length old))
        (λ q. W.rest j (ltb-true j (length old) q) e)
        (λ q.
        let b : length old ≤ j = ltb-false j (length old) q in
        get_or-eq_default new z (rw W.same_length b) ∙ sym (get_or-eq_default old z b))

    -- what holds of every old element and of all that is written holds of every new one
    pub written_each {ℓ} : (P : A → Type ℓ) → ((j : ℕ) → j < length old → P (get_or old j z))
        → ((j : ℕ) → j < length old → hit j ≡ true → P (g j)) → (j : ℕ) → j < length new → P (get_or new j z)
    written_each P o w j c =
        let b : j < length old = rw W.same_length at c in
        by_test (hit j) (λ e. rw (W.hits j b e) (w j b e)) (λ e. rw (W.rest j b e) (o j b))

-- one old list, one new list
pub written_one : {A : Type 0} {z : A} {hit : ℕ → Bool} {g : ℕ → A} {old new new' : List A} → Written z hit g old new
    → Written z hit g old new' → new ≡ new'
written_one {z = z} {old = old} {new} {new'} F S =
    ext_get_or z new new' (F.same_length ∙ sym S.same_length)
    (λ j b. let c : j < length old = rw F.same_length at b in written_get F j c ∙ sym (written_get S j c))

-- ---- a painted picture

-- what is written at column x of row y
pub painted_at : {A : Type 0} (f : ℕ → ℕ → A) (s x y : ℕ) → x < s → f x y ≡ f ((y * s + x) % s) ((y * s + x) / s)
painted_at f s x y h = rw (digits_mod y h, digits_div y h)

module _ {A : Type 0} {z : A} (f : ℕ → ℕ → A) (w h s : ℕ) {old new : List A} (P : Painted z f w h s old new) where
  pub painted_get : (x y : ℕ) → x < w → y < h → w ≤ s → y * s + x < length old → get_or new (y * s + x) z ≡ f x y
  painted_get x y p q r b = P.hits (y * s + x) b (pixels_at w h s x y p q r) ∙ sym (painted_at f s x y (omega arith))

  -- a function that is equal at the pixels
  pub painted_same : (f' : ℕ → ℕ → A) → ((x y : ℕ) → x < w → y < h → f x y ≡ f' x y) → Painted z f' w h s old new
  painted_same f' e =
      written_same P (λ j b. refl) (λ j b q. let c = (pixels_iff w h s j).0 q in e (j % s) (j / s) c.0 c.1)

pub written_part : {A : Type 0} {z : A} {hit hit' : ℕ → Bool} {g g' : ℕ → A} {ys : List A} (a n : ℕ) (xs : List A)
    → a + n ≤ length xs
    → Written z hit g (take n (drop a xs)) ys → ((j : ℕ) → hit' j ≡ within a n hit j)
    → ((i : ℕ) → i < n → hit i ≡ true → g i ≡ g' (a + i))
    → Written z hit' g' xs (take a xs ++ (ys ++ drop n (drop a xs)))
written_part {z = z} {hit} {hit'} {g} {g'} {ys} a n xs h W t v =
    record {
      same_length = same_len_mid a n xs ys W.same_length;
      hits = λ j _ e.
          let b = (within_iff a n hit j).0 (sym (t j) ∙ e) in
          let c = (part_iff a n j).0 b.0 in
          in-part j b.0
          ∙ W.hits (j - a) (shorter j b.0) b.1
          ∙ v (j - a) (omega arith) b.1
          ∙ ap g' (back j c.0);
      rest = λ j _ e.
          by_test (part a n j)
          (λ p.
          let c = (part_iff a n j).0 p in
          in-part j p
          ∙ W.rest (j - a) (shorter j p) (missed j p e)
          ∙ get_d_part a n xs (j - a) z (omega arith)
          ∙ ap (λ (m : ℕ). get_or xs m z) (back j c.0))
          (outside j);
    }
  where
    l : length ys ≡ n
    l = W.same_length ∙ length_part a n xs h

    back : (j : ℕ) → a ≤ j → a + (j - a) ≡ j
    back j b = omega arith

    shorter : (j : ℕ) → part a n j ≡ true → j - a < length (take n (drop a xs))
    shorter j p = let c = (part_iff a n j).0 p in rw (length_part a n xs h) (omega arith)

    in-part : (j : ℕ) → part a n j ≡ true → get_or (take a xs ++ (ys ++ drop n (drop a xs))) j z ≡ get_or ys (j - a) z
    in-part j p = let c = (part_iff a n j).0 p in get_or_back_within a n xs ys h l j z c.0 c.1

    missed : (j : ℕ) → part a n j ≡ true → hit' j ≡ false → hit (j - a) ≡ false
    missed j p e = false_of_not (hit (j - a)) λ q. false_not_true (sym (t j) ∙ e) ((within_iff a n hit j).1 (p, q))

    outside : (j : ℕ) → part a n j ≡ false → get_or (take a xs ++ (ys ++ drop n (drop a xs))) j z ≡ get_or xs j z
    outside j p =
        by_test (ltb j a)
        (λ q. get_or_back_before a n xs ys h l j z (ltb-true j a q))
        (λ q.
        by_test (ltb j (a + n))
        (λ r. absurd (false_not_true p ((part_iff a n j).1 (ltb-false j a q, ltb-true j (a + n) r))))
        (λ r. get_or_back_after a n xs ys h l j z (ltb-false j (a + n) r)))
