-- Tallies: one more record is one more in the list (`added_tally`), in whatever order (`tally_reordered`), and numbers
-- stay small (`added_held`).
use mathlib.Core.Bool.{Bool, true, false, cond, ◌&&◌}
use mathlib.Core.List.{List, [], ◌∷◌, Permᴰ}
use mathlib.Core.Path.{◌≡◌, refl, sym, ap, ◌∙◌}
use Prim.Native.Nat.{ℕ, zero, suc, ◌+◌, ◌*◌, ◌≤◌, ◌<◌, max}
use native.Mathlib.Nat.{add_comm, max_comm}
use native.Mathlib.Numerals.{add-one}
use native.Mathlib.Omega.{arith}
use lib.Dec.{eqb}
use lib.ListN.{length, get_or, set}
use Rattle.image.specs.Refusal.{max_side}
use Rattle.numbers.proofs.Test.{by_test}
use Rattle.raster.specs.Direction.{direction_index}
use Rattle.raster.specs.declared.direction.RasterDirection4.{RasterDirection4}
use Rattle.raster.specs.declared.direction.RasterDirection4.TheVariants.{Horizontal, DownRight, Vertical, DownLeft}
use Rattle.record.specs.declared.Record.{Record}
use Rattle.summary.specs.Sheet.{is_line, is_along, lengths_along, total_of, largest_of, lengths_of, lengths_at}
use Rattle.summary.specs.Sheet.{is_binomial, binomials_in, tally_of}
use Rattle.summary.specs.File.{max_records}
use Rattle.summary.specs.Tally.{added_length, added_lengths, added, HeldLengths, Held}
use Rattle.summary.specs.declared.kernel.Lengths.{Lengths}
use Rattle.summary.specs.declared.kernel.Tally.{Tally}

-- ---- one more record

one_length : (n : ℕ) (ns : List ℕ) → added_length n (lengths_of ns) ≡ lengths_of (n ∷ ns)
one_length n ns = rw (add-one (length ns), add_comm (total_of ns) n, max_comm (largest_of ns) n) refl

-- the lengths of the four directions, with one more of a line filter's record
lengths_added : (b : Bool) (e : RasterDirection4) (n : ℕ) (h r v l : List ℕ)
    → let ls = lengths_of h ∷ lengths_of r ∷ lengths_of v ∷ lengths_of l ∷ [] in
    cond b (set ls (direction_index e) (added_length n (lengths_at ls (direction_index e)))) ls
    ≡ lengths_of (cond (b && eqb (direction_index e) 0) (n ∷ h) h)
    ∷ lengths_of (cond (b && eqb (direction_index e) 1) (n ∷ r) r)
    ∷ lengths_of (cond (b && eqb (direction_index e) 2) (n ∷ v) v)
    ∷ lengths_of (cond (b && eqb (direction_index e) 3) (n ∷ l) l)
    ∷ []
lengths_added true Horizontal n h r v l =
    ap (λ (x : Lengths). x ∷ lengths_of r ∷ lengths_of v ∷ lengths_of l ∷ []) (one_length n h)
lengths_added true DownRight n h r v l =
    ap (λ (x : Lengths). lengths_of h ∷ x ∷ lengths_of v ∷ lengths_of l ∷ []) (one_length n r)
lengths_added true Vertical n h r v l =
    ap (λ (x : Lengths). lengths_of h ∷ lengths_of r ∷ x ∷ lengths_of l ∷ []) (one_length n v)
lengths_added true DownLeft n h r v l =
    ap (λ (x : Lengths). lengths_of h ∷ lengths_of r ∷ lengths_of v ∷ x ∷ []) (one_length n l)
lengths_added false e n h r v l = refl

binomial_added : (b : Bool) (n : ℕ) → cond b (n + 1) n ≡ cond b (suc n) n
binomial_added true n = add-one n
binomial_added false n = refl

pub added_tally : (r : Record) (rs : List Record) → added (tally_of rs) r ≡ tally_of (r ∷ rs)
unfolding added
added_tally r rs =
    let n : length rs + 1 ≡ suc (length rs) = add-one (length rs) in
    let ls = lengths_added (is_line r) r.direction r.blur_length (lengths_along Horizontal rs)
    (lengths_along DownRight rs) (lengths_along Vertical rs) (lengths_along DownLeft rs) in
    let b = binomial_added (is_binomial r) (binomials_in rs) in
    rw (n, b, ls) refl

-- ---- in whatever order

-- a length more, where the record lies along the direction
abbrev added_along : RasterDirection4 → Record → Lengths → Lengths
added_along d r l = cond (is_along d r) (added_length r.blur_length l) l

along_added : (d : RasterDirection4) (r : Record) (rs : List Record)
    → added_along d r (lengths_of (lengths_along d rs)) ≡ lengths_of (lengths_along d (r ∷ rs))
along_added d r rs =
    by_test (is_along d r) (λ e. rw e (one_length r.blur_length (lengths_along d rs))) (λ e. rw e refl)

lengths_swap : (a b : Bool) (m n : ℕ) (l : Lengths)
    → cond b (added_length n (cond a (added_length m l) l)) (cond a (added_length m l) l)
    ≡ cond a (added_length m (cond b (added_length n l) l)) (cond b (added_length n l) l)
lengths_swap true true m n l =
    let t : l.total + m + n ≡ l.total + n + m = omega arith in
    let s : max (max l.largest m) n ≡ max (max l.largest n) m = omega arith in
    rw (t, s) refl
lengths_swap true false m n l = refl
lengths_swap false true m n l = refl
lengths_swap false false m n l = refl

along_two : (d : RasterDirection4) (r q : Record) (rs : List Record)
    → lengths_of (lengths_along d (r ∷ q ∷ rs)) ≡ added_along d r (added_along d q (lengths_of (lengths_along d rs)))
along_two d r q rs = sym (along_added d r (q ∷ rs)) ∙ ap (added_along d r) (sym (along_added d q rs))

along_reordered : (d : RasterDirection4) {rs qs : List Record} → Permᴰ rs qs
    → lengths_of (lengths_along d rs) ≡ lengths_of (lengths_along d qs)
along_reordered d Permᴰ.nil = refl
along_reordered d (Permᴰ.cons {a} {b} {l₁} {l₂} e p) =
    sym (along_added d a l₁) ∙ ap (added_along d a) (along_reordered d p)
    ∙ ap (λ (r : Record). added_along d r (lengths_of (lengths_along d l₂))) e ∙ along_added d b l₂
along_reordered d (Permᴰ.swap {a} {b} {a'} {b'} {l} e f) =
    let ls = lengths_of (lengths_along d l) in
    along_two d a b l ∙ lengths_swap (is_along d b) (is_along d a) b.blur_length a.blur_length ls
    ∙ ap (λ (r : Record). added_along d b (added_along d r ls)) e
    ∙ ap (λ (r : Record). added_along d r (added_along d b' ls)) f ∙ sym (along_two d a' b' l)
along_reordered d (Permᴰ.trans p q) = along_reordered d p ∙ along_reordered d q

binomials_swap : (a b : Bool) (n : ℕ)
    → cond a (suc (cond b (suc n) n)) (cond b (suc n) n) ≡ cond b (suc (cond a (suc n) n)) (cond a (suc n) n)
binomials_swap true true n = refl
binomials_swap true false n = refl
binomials_swap false true n = refl
binomials_swap false false n = refl

binomials_reordered : {rs qs : List Record} → Permᴰ rs qs → binomials_in rs ≡ binomials_in qs
binomials_reordered Permᴰ.nil = refl
binomials_reordered (Permᴰ.cons {a} {b} {l₁} {l₂} e p) =
    ap (λ (n : ℕ). cond (is_binomial a) (suc n) n) (binomials_reordered p)
    ∙ ap (λ (r : Record). binomials_in (r ∷ l₂)) e
binomials_reordered (Permᴰ.swap {a} {b} {a'} {b'} {l} e f) =
    binomials_swap (is_binomial a) (is_binomial b) (binomials_in l)
    ∙ ap (λ (r : Record). binomials_in (b ∷ r ∷ l)) e ∙ ap (λ (r : Record). binomials_in (r ∷ b' ∷ l)) f
binomials_reordered (Permᴰ.trans p q) = binomials_reordered p ∙ binomials_reordered q

pub perm_length : {A : Type 0} {xs ys : List A} → Permᴰ xs ys → length xs ≡ length ys
perm_length Permᴰ.nil = refl
perm_length (Permᴰ.cons e p) = ap suc (perm_length p)
perm_length (Permᴰ.swap e f) = refl
perm_length (Permᴰ.trans p q) = perm_length p ∙ perm_length q

pub tally_reordered : {rs qs : List Record} → Permᴰ rs qs → tally_of rs ≡ tally_of qs
tally_reordered p =
    let n = perm_length p in
    let h = along_reordered Horizontal p in
    let r = along_reordered DownRight p in
    let v = along_reordered Vertical p in
    let l = along_reordered DownLeft p in
    let b = binomials_reordered p in
    cc

-- ---- the numbers stay small

module _ {n : ℕ} {l : Lengths} (h : HeldLengths n l) where
  pub one_held : (m : ℕ) → m ≤ 2 * max_side + 1 → HeldLengths (n + 1) (added_length m l)
  one_held m most = record { count = omega (arith, h.count); total = omega (arith, h.total, most) }

  more_held : HeldLengths (n + 1) l
  more_held = record { count = omega (arith, h.count); total = omega (arith, h.total) }

-- what holds of each element, and of one that is put in
set_each : {A : Type 0} (P : A → Type 0) (z : A) (xs : List A) (i : ℕ) (v : A) → ((j : ℕ) → P (get_or xs j z)) → P v
    → (j : ℕ) → P (get_or (set xs i v) j z)
set_each P z [] i v each here j = each j
set_each P z (x ∷ xs) zero v each here zero = here
set_each P z (x ∷ xs) zero v each here (suc j) = each (suc j)
set_each P z (x ∷ xs) (suc i) v each here zero = each 0
set_each P z (x ∷ xs) (suc i) v each here (suc j) = set_each P z xs i v (λ k. each (suc k)) here j

binomials_held : (b : Bool) {m n : ℕ} → n ≤ m → cond b (n + 1) n ≤ m + 1
binomials_held true h = omega (arith, h)
binomials_held false h = omega (arith, h)

module _ (t : Tally) (r : Record) (short : r.blur_length ≤ 2 * max_side + 1) where
  lengths_held : ((d : ℕ) → HeldLengths t.records (lengths_at t.lengths d)) → (d : ℕ)
      → HeldLengths (t.records + 1) (lengths_at (added_lengths r t.lengths) d)
  lengths_held h d =
      let i = direction_index r.direction in
      by_test (is_line r)
      (λ e. rw e (set_each (HeldLengths (t.records + 1)) (lengths_of []) t.lengths i
      (added_length r.blur_length (lengths_at t.lengths i)) (λ j. more_held (h j)) (one_held (h i) r.blur_length short) d))
      (λ e. rw e (more_held (h d)))

  pub added_held : t.records < max_records → Held t → Held (added t r)
  unfolding added
  added_held less h = record {
    records = omega (arith, less);
    lengths = lengths_held h.lengths;
    binomials = binomials_held (is_binomial r) h.binomials;
  }

none_at : (d : ℕ) → lengths_at (tally_of []).lengths d ≡ lengths_of []
none_at zero = refl
none_at (suc zero) = refl
none_at (suc (suc zero)) = refl
none_at (suc (suc (suc zero))) = refl
none_at (suc (suc (suc (suc d)))) = refl

pub empty_held : Held (tally_of [])
empty_held = record {
  records = omega arith;
  lengths = λ d. rw (none_at d) (record { count = omega arith; total = omega arith });
  binomials = omega arith;
}
