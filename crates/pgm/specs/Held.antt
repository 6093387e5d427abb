-- What the parts of the reader state: numbers that are cut, and what stands behind them. Only contracts inside the
-- crate cite these.
use Rattle.std.specs.Prelude.{ℕ, ◌+◌, ◌-◌, min, cond, List, [], ◌∷◌, ◌≡◌, length}
use Rattle.std.specs.Prelude.{Option, None, Some}
use Rattle.std.specs.Borrow.{Bor}
use Rattle.image.specs.Call.{Decision, accepts, refuses, decided}
use Rattle.image.specs.Refusal.{max_side}
use Rattle.pgm.specs.Form.{is_white, value_of}
use Rattle.pgm.specs.Read.{digits_of, behind_digits, Read, HeaderRead, picture_refusal}
use Rattle.pgm.specs.declared.PgmPicture.{PgmPicture}
use Rattle.pgm.specs.declared.header.Header.{Header}
use Rattle.pgm.specs.declared.header.Number.{Number}

-- a number as the code holds it
unfoldable pub cut : ℕ → ℕ
cut n = min n (max_side + 1)

pub record NumberOf (xs : List ℕ) (n : Number) : Type 0 where
  pub value : n.value ≡ cut (value_of (digits_of xs))
  pub rest : n.rest.now ≡ behind_digits xs

pub record HeldNumber (r : Read) (n : Number) : Type 0 where
  pub value : n.value ≡ cut r.value
  pub rest : n.rest.now ≡ r.rest

-- what the code holds of what is read, and none where the header breaks the form
abbrev pub HeldIf : {R A : Type 0} → (R → A → Type 0) → Decision R → Option A → Type 0
HeldIf Held (accepts r) (Some a) = Held r a
HeldIf Held (accepts r) None = ⊥
HeldIf Held (refuses number) (Some a) = ⊥
HeldIf Held (refuses number) None = number ≡ 14

-- a header as the code holds it
pub record HeldHeader (r : HeaderRead) (h : Header) : Type 0 where
  pub width : h.width ≡ cut r.width
  pub height : h.height ≡ cut r.height
  pub maximum : h.maximum ≡ cut r.maximum
  pub pixels : h.pixels.now ≡ r.pixels

-- what stands behind a white byte
abbrev pub behind_white : List ℕ → Decision (List ℕ)
behind_white [] = refuses 14
behind_white (b ∷ bs) = cond (is_white b) (accepts bs) (refuses 14)

abbrev pub Shows : List ℕ → Bor (List ℕ) → Type 0
Shows xs s = s.now ≡ xs

-- what a header says of a file of so many bytes
abbrev pub picture_decision : Header → ℕ → Decision PgmPicture
picture_decision h len =
    decided (picture_refusal h.width h.height h.maximum (length h.pixels.now))
    (record { width = h.width; height = h.height; start = len - length h.pixels.now })
