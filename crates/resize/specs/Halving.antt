-- Document 02, K8: a picture at half its size, and halved as many times as stated, over px, the pixel of a column and a
-- row.
use Rattle.std.specs.Prelude.{ℕ, zero, suc, ◌+◌, ◌*◌, ◌/◌, Bool, false, ◌||◌, ltb}

-- "(sum + 2) / 4 floored"
unfoldable pub mean_of_four : ℕ → ℕ → ℕ → ℕ → ℕ
mean_of_four a b c d = (a + b + c + d + 2) / 4

-- The half-size picture at column c and row r. Its sides are w / 2 and h / 2, so an odd trailing row or column is in no
-- mean: it is dropped.
abbrev pub halved : (ℕ → ℕ → ℕ) → ℕ → ℕ → ℕ
halved px c r =
    mean_of_four (px (2 * c) (2 * r)) (px (2 * c + 1) (2 * r)) (px (2 * c) (2 * r + 1)) (px (2 * c + 1) (2 * r + 1))

-- "halves as many times as stated": each halving rounds
unfoldable pub halved_times : ℕ → (ℕ → ℕ → ℕ) → ℕ → ℕ → ℕ
halved_times zero px = px
halved_times (suc more) px = halved_times more (halved px)

-- a side then
unfoldable pub side_after : ℕ → ℕ → ℕ
side_after zero side = side
side_after (suc more) side = side_after more (side / 2)

-- "some halving would start from a side below 2"
unfoldable pub starts_below2 : ℕ → ℕ → ℕ → Bool
starts_below2 zero w h = false
starts_below2 (suc more) w h = ltb w 2 || ltb h 2 || starts_below2 more (w / 2) (h / 2)
