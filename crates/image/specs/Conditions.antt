-- Document 01, "Refusals, first match wins": "Each is given in its condition and otherwise never." The numbers with
-- their conditions, in the document's order, as a list for each call; proofs/Conditions has what is proved of them.
use Rattle.std.specs.Prelude.{ℕ, ◌+◌, ◌*◌, ◌-◌, ◌<◌, List, [], ◌∷◌, ◌++◌, ◌⊎◌, ◌↔◌, ◌≡◌}
use Rattle.image.specs.Refusal.{max_side, Laid}

pub record Refusal : Type 1 where
  pub number : ℕ
  pub condition : Type 0

abbrev pub given : ℕ → Type 0 → Refusal
given number condition = record { number = number; condition = condition }

-- "first match wins": n is the number of the first condition that holds, and 0 where none does
abbrev pub Matches : List Refusal → ℕ → Type 0
Matches [] n = n ≡ 0
Matches (r ∷ rs) n = (r.condition × (n ≡ r.number)) ⊎ ((r.condition → ⊥) × Matches rs n)

pub record FirstMatch (rs : List Refusal) (n : ℕ) : Type 0 where
  pub matches : Matches rs n

-- every number is given in its condition and otherwise never, 0 included
abbrev pub Exactly : List Refusal → ℕ → Type 0
Exactly rs refusal = (n : ℕ) → (refusal ≡ n) ↔ FirstMatch rs n

-- ---- numbers 1 to 6

abbrev pub layout_conditions : ℕ → ℕ → ℕ → ℕ → List Refusal
layout_conditions len width height stride =
    given 1 ((width ≡ 0) ⊎ (height ≡ 0))
    ∷ given 2 ((max_side < width) ⊎ (max_side < height))
    ∷ given 3 (stride < width)
    ∷ given 4 (len < stride * (height - 1) + width)
    ∷ []

-- "5. The destination's own layout meets one of 1 to 4." `Laid` is a layout that meets none. 6 where it has not the
-- sides w and h.
abbrev pub sized_conditions : ℕ → ℕ → ℕ → ℕ → ℕ → ℕ → List Refusal
sized_conditions dst_len dst_width dst_height dst_stride w h =
    given 5 (Laid dst_len dst_width dst_height dst_stride → ⊥)
    ∷ given 6 ((dst_width ≡ w → ⊥) ⊎ (dst_height ≡ h → ⊥))
    ∷ []

abbrev pub pair_conditions : ℕ → ℕ → ℕ → ℕ → ℕ → ℕ → ℕ → ℕ → List Refusal
pair_conditions len width height stride dst_len dst_width dst_height dst_stride =
    layout_conditions len width height stride ++ sized_conditions dst_len dst_width dst_height dst_stride width height
