-- What is read as a header, field behind field; and what a header says of its file, with numbers that are cut.
use Prim.Native.Nat.{ℕ, ◌-◌, ◌*◌, ◌≤◌, ◌<◌}
use native.Mathlib.Omega.{arith}
use mathlib.Core.Bool.{true, false, ◌&&◌, and-true}
use Rattle.std.specs.Cmp.Lexicographic.{pointwise}
use mathlib.Core.List.{List, [], ◌∷◌}
use mathlib.Core.Path.{◌≡◌, refl, sym, ap, ◌∙◌}
use borrow.Author.Tests.{eqb-true, eq-eqb, eqb-false, ltb-true, ltb-false, lt-ltb}
use lib.Dec.{eqb, ltb}
use lib.ListN.{length, take, drop}
use Rattle.numbers.proofs.Test.{by_test, bool_ext, false_not_true, and_false_right}
use Rattle.std.proofs.Common.{None, Some, Bor}
use Rattle.image.specs.Call.{Decision, accepts, refuses, decided}
use Rattle.image.specs.Refusal.{max_side, sides_refusal}
use Rattle.image.proofs.Call.{then_accepts, decided_refuses, decided_accepts}
use Rattle.image.proofs.Chain.{first_own}
use Rattle.image.proofs.Accepted.{sides_few}
use Rattle.pgm.specs.Form.{is_white}
use Rattle.pgm.specs.Read.{Read, HeaderRead, is_marked, read_field, read_last, read_header, picture_refusal, picture_in}
use Rattle.pgm.specs.Read.{read_decision}
use Rattle.pgm.specs.Held.{cut, HeldNumber, HeldIf, HeldHeader, Shows, behind_white, picture_decision}
use Rattle.pgm.specs.declared.PgmPicture.{PgmPicture}
use Rattle.pgm.specs.declared.header.Header.{Header}
use Rattle.pgm.specs.declared.header.Number.{Number}
use Rattle.pgm.proofs.Reading.{cut_small, cut_is}

-- ---- the mark

pub short_unmarked : (file : List ℕ) → length file < 2 → false ≡ is_marked file
short_unmarked [] h = refl
short_unmarked (a ∷ []) h = sym (and_false_right (eqb a 80) refl)
short_unmarked (a ∷ (b ∷ bs)) h = absurd (omega arith)

pub marked_long : (file : List ℕ) → is_marked file ≡ true → 2 ≤ length file
marked_long file e =
    by_test (ltb (length file) 2)
    (λ t. absurd (false_not_true (sym (short_unmarked file (ltb-true _ 2 t))) e))
    (λ t. ltb-false _ 2 t)

pub is_mark : (file : List ℕ) → pointwise eqb (take 2 file) (80 ∷ 53 ∷ []) ≡ is_marked file
is_mark [] = refl
is_mark (a ∷ []) = refl
is_mark (a ∷ (b ∷ bs)) = ap (λ t. eqb a 80 && t) (and-true (eqb b 53))

-- ---- from fields to a header

-- what the code holds, and what it says was read
module _ {R A : Type 0} (Held : R → A → Type 0) where
  pub held_none : (d : Decision R) → HeldIf Held d None → d ≡ refuses 14
  held_none (accepts r) h = absurd h
  held_none (refuses k) h = ap refuses h

  pub held_some : (d : Decision R) {a : A} → HeldIf Held d (Some a) → (r : R) × ((d ≡ accepts r) × Held r a)
  held_some (accepts r) h = (r, (refl, h))
  held_some (refuses k) h = absurd h

-- the field that begins where the code is
module _ {xs ys : List ℕ} (e : xs ≡ ys) where
  pub field_none : HeldIf HeldNumber (read_field xs) None → read_field ys ≡ refuses 14
  field_none h = rw e at (held_none HeldNumber (read_field xs) h)

  pub field_some : {n : Number} → HeldIf HeldNumber (read_field xs) (Some n)
      → (r : Read) × ((read_field ys ≡ accepts r) × HeldNumber r n)
  field_some h = rw e at (held_some HeldNumber (read_field xs) h)

module _ (file : List ℕ) where
  pub header_unmarked : is_marked file ≡ false → HeldIf HeldHeader (read_header file) None
  unfolding read_header
  header_unmarked e = rw e refl

  module _ (marked : is_marked file ≡ true) where
    pub header_no_width : read_field (drop 2 file) ≡ refuses 14 → HeldIf HeldHeader (read_header file) None
    unfolding read_header
    header_no_width e = rw (marked, e) refl

    module _ {w : Read} (width : read_field (drop 2 file) ≡ accepts w) where
      pub header_no_height : read_field w.rest ≡ refuses 14 → HeldIf HeldHeader (read_header file) None
      unfolding read_header
      header_no_height e = rw (marked, width, e) refl

      module _ {h : Read} (height : read_field w.rest ≡ accepts h) where
        pub header_no_maximum : read_field h.rest ≡ refuses 14 → HeldIf HeldHeader (read_header file) None
        unfolding read_header
        header_no_maximum e = rw (marked, width, height, e) refl

        pub header_fields : {m : Read} → read_field h.rest ≡ accepts m
            → read_header file ≡ read_last w.value h.value m.value m.rest
        unfolding read_header
        header_fields e = rw (marked, width, height, e) refl

-- the white byte behind the maximum
module _ {x y z : Read} {w h m : Number} (W : HeldNumber x w) (H : HeldNumber y h) (M : HeldNumber z m) where
  last-none : (rest : List ℕ) → HeldIf Shows (behind_white rest) None
      → HeldIf HeldHeader (read_last x.value y.value z.value rest) None
  last-none [] held = refl
  last-none (b ∷ pixels) held =
      by_test (is_white b) (λ e. absurd (rw e at held)) (λ e. rw e refl)

  last-some : (rest : List ℕ) (pixels : Bor (List ℕ)) → HeldIf Shows (behind_white rest) (Some pixels)
      → HeldIf HeldHeader (read_last x.value y.value z.value rest)
      (Some (record { width = w.value; height = h.value; maximum = m.value; pixels = pixels }))
  last-some [] pixels held = absurd held
  last-some (b ∷ bs) pixels held =
      by_test (is_white b)
      (λ e.
      let shown = rw e at held in
      rw e (record { width = W.value; height = H.value; maximum = M.value; pixels = shown }))
      (λ e. absurd (rw e at held))

  pub header_no_last : HeldIf Shows (behind_white m.rest.now) None
      → HeldIf HeldHeader (read_last x.value y.value z.value z.rest) None
  header_no_last held = last-none z.rest (rw M.rest at held)

  pub header_last : (pixels : Bor (List ℕ)) → HeldIf Shows (behind_white m.rest.now) (Some pixels)
      → HeldIf HeldHeader (read_last x.value y.value z.value z.rest)
      (Some (record { width = w.value; height = h.value; maximum = m.value; pixels = pixels }))
  header_last pixels held = last-some z.rest pixels (rw M.rest at held)

-- ---- numbers that are cut give the same refusal

module _ (n : ℕ) where
  cut-zero : eqb (cut n) 0 ≡ eqb n 0
  cut-zero =
      bool_ext _ _ (λ e. eq-eqb n 0 (omega (arith, cut_is n, eqb-true (cut n) 0 e)))
      (λ e. eq-eqb (cut n) 0 (omega (arith, cut_is n, eqb-true n 0 e)))

  cut-large : ltb max_side (cut n) ≡ ltb max_side n
  cut-large =
      bool_ext _ _ (λ e. lt-ltb max_side n (omega (arith, cut_is n, ltb-true max_side (cut n) e)))
      (λ e. lt-ltb max_side (cut n) (omega (arith, cut_is n, ltb-true max_side n e)))

  cut-maximum : eqb (cut n) 255 ≡ eqb n 255
  cut-maximum =
      bool_ext _ _ (λ e. eq-eqb n 255 (omega (arith, cut_is n, eqb-true (cut n) 255 e)))
      (λ e. eq-eqb (cut n) 255 (omega (arith, cut_is n, eqb-true n 255 e)))

cut_sides : (w h : ℕ) → sides_refusal (cut w) (cut h) ≡ sides_refusal w h
unfolding sides_refusal
cut_sides w h = rw (cut-zero w, cut-zero h, cut-large w, cut-large h) refl

-- ---- what a header says of its file

abbrev given : ℕ → ℕ → ℕ → PgmPicture
given width height start = record { width = width; height = height; start = start }

module _ (w h m n : ℕ) where
  pub picture_sides : (p : PgmPicture) → (sides_refusal w h ≡ 0 → ⊥)
      → decided (picture_refusal w h m n) p ≡ refuses (sides_refusal w h)
  unfolding picture_refusal
  picture_sides p some = rw (first_own (sides_refusal w h) _ some) (decided_refuses (sides_refusal w h) p some)

  pub picture_given : (p : PgmPicture) → sides_refusal w h ≡ 0 → m ≡ 255 → n ≡ w * h
      → decided (picture_refusal w h m n) p ≡ accepts p
  unfolding picture_refusal
  picture_given p taken is all = rw (taken, eq-eqb m 255 is, eq-eqb n (w * h) all) refl

  picture-alike : (m' : ℕ) (p : PgmPicture) → eqb m 255 ≡ eqb m' 255
      → decided (picture_refusal w h m n) p ≡ decided (picture_refusal w h m' n) p
  unfolding picture_refusal
  picture-alike m' p e = rw e refl

pub header_picture : (file : List ℕ) {r : HeaderRead} {h : Header} → HeldHeader r h
    → picture_decision h (length file)
    ≡ decided (picture_refusal r.width r.height r.maximum (length r.pixels)) (picture_in file r)
header_picture file {r} {h} held =
    by_test (eqb (sides_refusal r.width r.height) 0)
    (λ t. taken (eqb-true _ 0 t)) (λ t. refused (eqb-false _ 0 t))
  where
    taken : sides_refusal r.width r.height ≡ 0 → picture_decision h (length file)
        ≡ decided (picture_refusal r.width r.height r.maximum (length r.pixels)) (picture_in file r)
    taken e =
        let few = sides_few r.width r.height e in
        let width : h.width ≡ r.width = held.width ∙ cut_small r.width (omega arith) in
        let height : h.height ≡ r.height = held.height ∙ cut_small r.height (omega arith) in
        rw (held.pixels, width, height)
        (picture-alike r.width r.height h.maximum (length r.pixels) r.maximum (picture_in file r)
        (ap (λ (k : ℕ). eqb k 255) held.maximum ∙ cut-maximum r.maximum))

    refused : (sides_refusal r.width r.height ≡ 0 → ⊥) → picture_decision h (length file)
        ≡ decided (picture_refusal r.width r.height r.maximum (length r.pixels)) (picture_in file r)
    refused some =
        let same : sides_refusal h.width h.height ≡ sides_refusal r.width r.height =
        rw (held.width, held.height) (cut_sides r.width r.height) in
        picture_sides h.width h.height h.maximum (length h.pixels.now)
        (given h.width h.height (length file - length h.pixels.now)) (λ z. some (sym same ∙ z))
        ∙ ap refuses same
        ∙ sym (picture_sides r.width r.height r.maximum (length r.pixels) (picture_in file r) some)

-- ---- the answer

module _ (file : List ℕ) where
  pub answer_given : (h : Header) → HeldIf HeldHeader (read_header file) (Some h)
      → picture_decision h (length file) ≡ read_decision file
  unfolding read_decision
  answer_given h held =
      let k = held_some HeldHeader (read_header file) held in
      rw k.1.0 (header_picture file k.1.1)

  pub answer_broken : HeldIf HeldHeader (read_header file) None → refuses 14 ≡ read_decision file
  unfolding read_decision
  answer_broken held = rw (held_none HeldHeader (read_header file) held) refl

-- an accepted file's header
pub decision_header : (file : List ℕ) {p : PgmPicture} → read_decision file ≡ accepts p
    → (r : HeaderRead) × ((read_header file ≡ accepts r)
    × ((picture_refusal r.width r.height r.maximum (length r.pixels) ≡ 0) × (picture_in file r ≡ p)))
unfolding read_decision
decision_header file {p} e =
    let k = then_accepts (read_header file) _ e in
    (k.0, (k.1.0, decided_accepts _ (picture_in file k.0) p k.1.1))

-- ---- the pixels' part

module _ (file : List ℕ) where
  pub part_within : {p : PgmPicture} → accepts p ≡ read_decision file → p.start ≤ length file
  part_within {p} told =
      let e : length file - length (decision_header file (sym told)).0.pixels ≡ p.start =
      ap (λ (q : PgmPicture). q.start) (decision_header file (sym told)).1.1.1 in
      omega arith
