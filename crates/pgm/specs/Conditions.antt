-- Document 02, K3: the refusals of the reader and of the writer, each with its condition.
use Rattle.std.specs.Prelude.{ℕ, ◌*◌, ◌<◌, List, [], ◌∷◌, ◌++◌, ◌⊎◌, ◌≡◌, length}
use Rattle.image.specs.Call.{Gray8}
use Rattle.image.specs.Conditions.{Refusal, given, layout_conditions}
use Rattle.image.specs.Refusal.{max_side}
use Rattle.pgm.specs.Form.{field_value, Header, Formed}
use Rattle.pgm.specs.Write.{pgm_bytes}

-- a file that begins with a header of the form
pub record Headed (file : List ℕ) : Type 0 where
  pub header : Header
  pub pixels : List ℕ
  pub formed : Formed file header pixels

-- its numbers
module _ {file : List ℕ} (f : Headed file) where
  abbrev pub width_of : ℕ
  width_of = field_value f.header.width

  abbrev pub height_of : ℕ
  height_of = field_value f.header.height

  abbrev pub maximum_of : ℕ
  maximum_of = field_value f.header.maximum

-- "14 for a header that breaks this form, before 1; 15 .., then 16 .., both behind 2"
abbrev pub read_conditions : List ℕ → List Refusal
read_conditions file =
    given 14 (Headed file → ⊥)
    ∷ given 1 ((f : Headed file) × ((width_of f ≡ 0) ⊎ (height_of f ≡ 0)))
    ∷ given 2 ((f : Headed file) × ((max_side < width_of f) ⊎ (max_side < height_of f)))
    ∷ given 15 ((f : Headed file) × (maximum_of f ≡ 255 → ⊥))
    ∷ given 16 ((f : Headed file) × (length f.pixels ≡ width_of f * height_of f → ⊥))
    ∷ []

-- 1 to 4 of the source, "5 for an output slice that is too short"
abbrev pub write_conditions : Gray8 → ℕ → List Refusal
write_conditions src room =
    layout_conditions (length src.bytes) src.width src.height src.stride
    ++ (given 5 (room < length (pgm_bytes src)) ∷ [])
