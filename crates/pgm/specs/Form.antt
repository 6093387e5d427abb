-- Document 02, K3, "Pictures as PGM": the form of a file, by its parts and their bytes.
use Rattle.std.specs.Prelude.{ℕ, ◌+◌, ◌-◌, ◌*◌, ◌≤◌, Bool, true, false, ◌&&◌, ◌||◌, List, [], ◌∷◌, ◌++◌, ◌≡◌, eqb, leb, length}
use Rattle.image.specs.Refusal.{max_side}
use Rattle.pgm.specs.declared.PgmPicture.{PgmPicture}

-- ---- "white bytes (space, tab, LF, CR) or comments from `#` through the next LF or CR"

abbrev pub is_white : ℕ → Bool
is_white b = eqb b 32 || eqb b 9 || eqb b 10 || eqb b 13

abbrev pub is_end : ℕ → Bool
is_end b = eqb b 10 || eqb b 13

abbrev pub is_digit : ℕ → Bool
is_digit b = leb 48 b && leb b 57

-- each byte's test gives `t`
abbrev pub Each : (ℕ → Bool) → Bool → List ℕ → Type 0
Each test t [] = Unit {0}
Each test t (b ∷ bs) = (test b ≡ t) × Each test t bs

-- a white byte, or a comment's text and the byte that ends it
pub data Gap : Type 0 where
  blank : ℕ → Gap
  comment : List ℕ → ℕ → Gap

abbrev pub gap_bytes : Gap → List ℕ
gap_bytes (blank b) = b ∷ []
gap_bytes (comment text end) = 35 ∷ text ++ (end ∷ [])

-- "the next": the text has no LF or CR
abbrev pub GapFormed : Gap → Type 0
GapFormed (blank b) = is_white b ≡ true
GapFormed (comment text end) = Each is_end false text × (is_end end ≡ true)

abbrev pub gaps_bytes : List Gap → List ℕ
gaps_bytes [] = []
gaps_bytes (g ∷ gs) = gap_bytes g ++ gaps_bytes gs

abbrev pub GapsFormed : List Gap → Type 0
GapsFormed [] = Unit {0}
GapsFormed (g ∷ gs) = GapFormed g × GapsFormed gs

-- ---- a number behind "one or more" of them

-- "Numbers of any length are read as numbers.": digits that go on from n
unfoldable pub on_from : ℕ → List ℕ → ℕ
on_from n [] = n
on_from n (d ∷ ds) = on_from (10 * n + (d - 48)) ds

abbrev pub value_of : List ℕ → ℕ
value_of digits = on_from 0 digits

-- one gap and more, one digit and more
pub record Field : Type 0 where
  pub gap : Gap
  pub gaps : List Gap
  pub digit : ℕ
  pub digits : List ℕ

abbrev pub field_bytes : Field → List ℕ
field_bytes f = gap_bytes f.gap ++ gaps_bytes f.gaps ++ (f.digit ∷ f.digits)

pub record FieldFormed (f : Field) : Type 0 where
  pub gap : GapFormed f.gap
  pub gaps : GapsFormed f.gaps
  pub digit : is_digit f.digit ≡ true
  pub digits : Each is_digit true f.digits

abbrev pub field_value : Field → ℕ
field_value f = value_of (f.digit ∷ f.digits)

-- ---- "magic, width, height and maximum .., then directly one white byte and the pixels"

pub record Header : Type 0 where
  pub width : Field
  pub height : Field
  pub maximum : Field
  pub last : ℕ

-- `P5`, and so on
abbrev pub header_bytes : Header → List ℕ
header_bytes h =
    80 ∷ 53 ∷ field_bytes h.width ++ field_bytes h.height ++ field_bytes h.maximum ++ (h.last ∷ [])

-- a file of this form
pub record Formed (file : List ℕ) (h : Header) (pixels : List ℕ) : Type 0 where
  pub width : FieldFormed h.width
  pub height : FieldFormed h.height
  pub maximum : FieldFormed h.maximum
  pub last : is_white h.last ≡ true
  pub bytes : file ≡ header_bytes h ++ pixels

-- .. that holds a picture
pub record Holds (file : List ℕ) (p : PgmPicture) : Type 0 where
  pub header : Header
  pub pixels : List ℕ
  pub formed : Formed file header pixels
  pub width : p.width ≡ field_value header.width
  pub height : p.height ≡ field_value header.height
  pub start : p.start ≡ length (header_bytes header)
  pub width_least : 1 ≤ p.width
  pub width_most : p.width ≤ max_side
  pub height_least : 1 ≤ p.height
  pub height_most : p.height ≤ max_side
  pub maximum : field_value header.maximum ≡ 255
  pub count : length pixels ≡ p.width * p.height
