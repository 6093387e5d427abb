-- A file of the form is read: what was put together is found again, part by part.
use Prim.Native.Nat.{ℕ, ◌≤◌}
use native.Mathlib.Omega.{arith}
use mathlib.Core.Bool.{true, false}
use mathlib.Core.List.{List, [], ◌∷◌, ◌++◌, append_assoc}
use mathlib.Core.Path.{◌≡◌, refl, ap, ◌∙◌}
use lib.ListN.{length, length-append}
use lib.Seq.{append_snoc}
use Rattle.image.specs.Call.{accepts}
use Rattle.pgm.specs.Form.{is_end, is_digit, Each, Gap, blank, comment, gap_bytes, GapFormed, gaps_bytes, GapsFormed}
use Rattle.pgm.specs.Form.{Field, field_bytes, FieldFormed, field_value, Header, Formed}
use Rattle.pgm.specs.Read.{behind_gaps, digits_of, behind_digits, read_field, HeaderRead}
use Rattle.pgm.specs.Read.{read_header}
use Rattle.pgm.proofs.Bytes.{white_no_digit, white_no_hash, digit_no_gap}
use Rattle.pgm.proofs.Fields.{a_field}
use Rattle.pgm.proofs.Headers.{header_fields}

-- ---- gaps

comment_behind : (text : List ℕ) (end : ℕ) (xs : List ℕ) → Each is_end false text → is_end end ≡ true
    → behind_gaps true (text ++ (end ∷ xs)) ≡ behind_gaps false xs
unfolding behind_gaps
comment_behind [] end xs inner e = rw e refl
comment_behind (b ∷ text) end xs inner e = rw inner.0 (comment_behind text end xs inner.1 e)

gap_behind : (g : Gap) (xs : List ℕ) → GapFormed g → behind_gaps false (gap_bytes g ++ xs) ≡ behind_gaps false xs
unfolding behind_gaps
gap_behind (blank b) xs e = rw (e, white_no_hash b e) refl
gap_behind (comment text end) xs formed =
    ap (behind_gaps true) (append_snoc text end xs) ∙ comment_behind text end xs formed.0 formed.1

gaps_behind : (gs : List Gap) (xs : List ℕ) → GapsFormed gs
    → behind_gaps false (gaps_bytes gs ++ xs) ≡ behind_gaps false xs
gaps_behind [] xs formed = refl
gaps_behind (g ∷ gs) xs formed =
    ap (behind_gaps false) (append_assoc (gap_bytes g) (gaps_bytes gs) xs)
    ∙ gap_behind g (gaps_bytes gs ++ xs) formed.0
    ∙ gaps_behind gs xs formed.1

-- ---- digits

-- the list does not begin with a digit
abbrev pub NoDigit : List ℕ → Type 0
NoDigit [] = Unit {0}
NoDigit (b ∷ bs) = is_digit b ≡ false

digits_found : (ds rest : List ℕ) → Each is_digit true ds → NoDigit rest → digits_of (ds ++ rest) ≡ ds
unfolding digits_of
digits_found [] [] formed other = refl
digits_found [] (b ∷ bs) formed other = rw other refl
digits_found (d ∷ ds) rest formed other = rw formed.0 (ap (◌∷◌ d) (digits_found ds rest formed.1 other))

digits_behind : (ds rest : List ℕ) → Each is_digit true ds → NoDigit rest → behind_digits (ds ++ rest) ≡ rest
unfolding behind_digits
digits_behind [] [] formed other = refl
digits_behind [] (b ∷ bs) formed other = rw other refl
digits_behind (d ∷ ds) rest formed other = rw formed.0 (digits_behind ds rest formed.1 other)

gap_some : (g : Gap) → 1 ≤ length (gap_bytes g)
gap_some (blank b) = omega arith
gap_some (comment text end) = omega arith

pub gap_no_digit : (g : Gap) (xs : List ℕ) → GapFormed g → NoDigit (gap_bytes g ++ xs)
gap_no_digit (blank b) xs e = white_no_digit b e
gap_no_digit (comment text end) xs formed = refl

-- ---- a field

module _ (f : Field) (rest : List ℕ) (formed : FieldFormed f) (other : NoDigit rest) where
  abbrev number : List ℕ
  number = f.digit ∷ f.digits

  apart : field_bytes f ++ rest ≡ gap_bytes f.gap ++ (gaps_bytes f.gaps ++ (number ++ rest))
  apart =
      append_assoc (gap_bytes f.gap ++ gaps_bytes f.gaps) number rest
      ∙ append_assoc (gap_bytes f.gap) (gaps_bytes f.gaps) (number ++ rest)

  behind : behind_gaps false (field_bytes f ++ rest) ≡ number ++ rest
  unfolding behind_gaps
  behind =
      ap (behind_gaps false) apart
      ∙ gap_behind f.gap (gaps_bytes f.gaps ++ (number ++ rest)) formed.gap
      ∙ gaps_behind f.gaps (number ++ rest) formed.gaps
      ∙ rw (digit_no_gap f.digit formed.digit) refl

  found : digits_of (number ++ rest) ≡ number
  found = digits_found number rest (formed.digit, formed.digits) other

  pub field_read : read_field (field_bytes f ++ rest) ≡ accepts (record { value = field_value f; rest = rest })
  field_read =
      a_field (field_bytes f ++ rest) moved (λ e. let n = ap length (ap digits_of behind ∙ found) in omega arith)
      ∙ rw (behind, found, digits_behind number rest (formed.digit, formed.digits) other) refl
    where
      moved : length (behind_gaps false (field_bytes f ++ rest)) ≡ length (field_bytes f ++ rest) → ⊥
      moved e =
          let a = ap length apart ∙ length-append (gap_bytes f.gap) (gaps_bytes f.gaps ++ (number ++ rest)) in
          let b = length-append (gaps_bytes f.gaps) (number ++ rest) in
          omega (arith, a, b, ap length behind, gap_some f.gap)

  pub field_no_digit_before : NoDigit (field_bytes f ++ rest)
  field_no_digit_before = rw apart (gap_no_digit f.gap (gaps_bytes f.gaps ++ (number ++ rest)) formed.gap)

-- ---- a header

module _ {file : List ℕ} {h : Header} {pixels : List ℕ} (formed : Formed file h pixels) where
  abbrev w : List ℕ
  w = field_bytes h.width

  abbrev v : List ℕ
  v = field_bytes h.height

  abbrev m : List ℕ
  m = field_bytes h.maximum

  abbrev last : List ℕ
  last = h.last ∷ pixels

  all : file ≡ 80 ∷ 53 ∷ (w ++ (v ++ (m ++ last)))
  all =
      formed.bytes
      ∙ ap (λ (zs : List ℕ). 80 ∷ 53 ∷ zs)
      (append_assoc (w ++ v ++ m) (h.last ∷ []) pixels ∙ append_assoc (w ++ v) m last ∙ append_assoc w v (m ++ last))

  no-digit-last : NoDigit last
  no-digit-last = white_no_digit h.last formed.last

  no-digit-m : NoDigit (m ++ last)
  no-digit-m = field_no_digit_before h.maximum last formed.maximum no-digit-last

  no-digit-v : NoDigit (v ++ (m ++ last))
  no-digit-v = field_no_digit_before h.height (m ++ last) formed.height no-digit-m

  abbrev pub as_read : HeaderRead
  as_read = record {
    width = field_value h.width;
    height = field_value h.height;
    maximum = field_value h.maximum;
    pixels = pixels;
  }

  pub header_read : read_header file ≡ accepts as_read
  header_read =
      ap read_header all
      ∙ header_fields (80 ∷ 53 ∷ (w ++ (v ++ (m ++ last)))) refl
      (field_read h.width (v ++ (m ++ last)) formed.width no-digit-v)
      (field_read h.height (m ++ last) formed.height no-digit-m)
      (field_read h.maximum last formed.maximum no-digit-last)
      ∙ rw formed.last refl
