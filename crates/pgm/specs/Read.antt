-- Document 02, K3: what the reader answers, by reading a file from its front. That it accepts exactly the files of the
-- form is a theorem (proofs/Accepted: read-iff).
use Rattle.std.specs.Prelude.{ℕ, ◌-◌, ◌*◌, Bool, false, not, ◌&&◌, ◌||◌, cond, List, [], ◌∷◌, eqb, length, drop, get_or}
use Rattle.image.specs.Call.{Decision, accepts, refuses, and_then, decided}
use Rattle.image.specs.Refusal.{first_refusal, sides_refusal}
use Rattle.pgm.specs.Form.{is_end, is_white, is_digit, value_of}
use Rattle.pgm.specs.declared.PgmPicture.{PgmPicture}

-- ---- gaps: white bytes and comments

-- a byte that is part of a gap, within a comment or not; and whether the next one is within a comment
abbrev pub skips : Bool → ℕ → Bool
skips comment b = comment || is_white b || eqb b 35

abbrev pub comments : Bool → ℕ → Bool
comments comment b = (comment || eqb b 35) && not (is_end b)

-- what stands behind the gaps that begin a list; behind a comment without an end, nothing
unfoldable pub behind_gaps : Bool → List ℕ → List ℕ
behind_gaps comment [] = []
behind_gaps comment (b ∷ bs) = cond (skips comment b) (behind_gaps (comments comment b) bs) (b ∷ bs)

-- ---- numbers

-- the digits that begin a list, and what stands behind them
unfoldable pub digits_of : List ℕ → List ℕ
digits_of [] = []
digits_of (b ∷ bs) = cond (is_digit b) (b ∷ digits_of bs) []

unfoldable pub behind_digits : List ℕ → List ℕ
behind_digits [] = []
behind_digits (b ∷ bs) = cond (is_digit b) (behind_digits bs) (b ∷ bs)

-- a number, and the rest of the file
pub record Read : Type 0 where
  pub value : ℕ
  pub rest : List ℕ

-- one gap or more, then one digit or more
unfoldable pub read_field : List ℕ → Decision Read
unfolding behind_gaps digits_of behind_digits
read_field xs =
    let ys = behind_gaps false xs in
    cond (eqb (length ys) (length xs) || eqb (length (digits_of ys)) 0) (refuses 14)
    (accepts (record { value = value_of (digits_of ys); rest = behind_digits ys }))

-- ---- "magic, width, height and maximum .., then directly one white byte and the pixels"

pub record HeaderRead : Type 0 where
  pub width : ℕ
  pub height : ℕ
  pub maximum : ℕ
  pub pixels : List ℕ

abbrev pub is_marked : List ℕ → Bool
is_marked file = eqb (get_or file 0 0) 80 && eqb (get_or file 1 0) 53

-- behind the maximum
abbrev pub read_last : ℕ → ℕ → ℕ → List ℕ → Decision HeaderRead
read_last width height maximum [] = refuses 14
read_last width height maximum (b ∷ pixels) =
    cond (is_white b) (accepts (record { width = width; height = height; maximum = maximum; pixels = pixels }))
    (refuses 14)

-- "14 for a header that breaks this form"
unfoldable pub read_header : List ℕ → Decision HeaderRead
unfolding read_field
read_header file =
    cond (is_marked file)
    (and_then (read_field (drop 2 file)) λ w.
    and_then (read_field w.rest) λ h.
    and_then (read_field h.rest) λ m.
    read_last w.value h.value m.value m.rest)
    (refuses 14)

-- ---- "Sides of 0 or above 1,024 give 1 and 2", "15 for a maximum other than 255, then 16 for missing or surplus pixel
-- bytes, both behind 2"

-- of a header's numbers, and how many bytes stand behind it
unfoldable pub picture_refusal : ℕ → ℕ → ℕ → ℕ → ℕ
picture_refusal width height maximum count =
    first_refusal (sides_refusal width height)
    (cond (eqb maximum 255) (cond (eqb count (width * height)) 0 16) 15)

-- "the reader answers width, height and the part that holds the pixels": where it starts
abbrev pub picture_in : List ℕ → HeaderRead → PgmPicture
picture_in file h = record { width = h.width; height = h.height; start = length file - length h.pixels }

unfoldable pub read_decision : List ℕ → Decision PgmPicture
unfolding read_header picture_refusal
read_decision file =
    and_then (read_header file) λ h.
    decided (picture_refusal h.width h.height h.maximum (length h.pixels)) (picture_in file h)

-- the part; none where the file is refused
abbrev pub part_of : Decision PgmPicture → List ℕ → List ℕ
part_of (accepts p) file = drop p.start file
part_of (refuses number) file = []

abbrev pub pixels_part : List ℕ → List ℕ
pixels_part file = part_of (read_decision file) file
