-- The lines of a direction in a picture w by h: where each starts, how long it is, which pixel stands at each of its
-- places, and on which line a pixel lies. Document 01, "Views and lines". Columns and rows, lines and places are
-- counted from 0.
use Rattle.std.specs.Prelude.{◌≡◌, refl, Bool, false, ◌&&◌, cond, [], ◌∷◌, map, ℕ, ◌+◌, ◌-◌, ◌*◌, ◌≤◌, ◌<◌, min, leb, ltb, ℤ, pos, negsuc, ◌+ℤ◌, ◌*ℤ◌}
use Rattle.image.specs.Refusal.{max_side}
use Rattle.raster.specs.declared.direction.RasterDirection4.{RasterDirection4}
use Rattle.raster.specs.declared.direction.RasterDirection4.TheVariants.{Horizontal, DownRight}
use Rattle.raster.specs.declared.direction.RasterDirection4.TheVariants.{Vertical, DownLeft}
use Rattle.raster.specs.declared.lines.ScanLine.{ScanLine}
use Rattle.raster.specs.Direction.{step_of}

-- the sides of a picture that no refusal meets
pub record Sides (w h : ℕ) : Type 0 where
  pub some_columns : 1 ≤ w
  pub some_rows : 1 ≤ h
  pub few_columns : w ≤ max_side
  pub few_rows : h ≤ max_side

-- ---- "Starts: left column; top row, then left column from row 1; top row; top row, then right column from row 1."

abbrev pub line_count : RasterDirection4 → ℕ → ℕ → ℕ
line_count Horizontal w h = h
line_count DownRight w h = w + (h - 1)
line_count Vertical w h = w
line_count DownLeft w h = w + (h - 1)

unfoldable pub start_col : RasterDirection4 → ℕ → ℕ → ℕ
start_col Horizontal w k = 0
start_col DownRight w k = cond (ltb k w) k 0
start_col Vertical w k = k
start_col DownLeft w k = cond (ltb k w) k (w - 1)

unfoldable pub start_row : RasterDirection4 → ℕ → ℕ → ℕ
start_row Horizontal w k = k
start_row DownRight w k = cond (ltb k w) 0 (k - w + 1)
start_row Vertical w k = 0
start_row DownLeft w k = cond (ltb k w) 0 (k - w + 1)

-- ---- ".. and steps (1,0) Horizontal, (1,1) DownRight, (0,1) Vertical, (−1,1) DownLeft until it leaves the picture."

-- column and row after i steps from column c and row r (the law `reach` ties them to `step_of`)
abbrev pub col_from : RasterDirection4 → ℕ → ℕ → ℕ
col_from Horizontal c i = c + i
col_from DownRight c i = c + i
col_from Vertical c i = c
col_from DownLeft c i = c - i

abbrev pub row_from : RasterDirection4 → ℕ → ℕ → ℕ
row_from Horizontal r i = r
row_from DownRight r i = r + i
row_from Vertical r i = r + i
row_from DownLeft r i = r + i

-- how many pixels there are from the pixel (c, r) until the line leaves the picture
abbrev pub length_from : RasterDirection4 → ℕ → ℕ → ℕ → ℕ → ℕ
length_from Horizontal w h c r = w - c
length_from DownRight w h c r = min (w - c) (h - r)
length_from Vertical w h c r = h - r
length_from DownLeft w h c r = min (c + 1) (h - r)

-- line k: its length, and the pixel at its place i
abbrev pub line_length : RasterDirection4 → ℕ → ℕ → ℕ → ℕ
line_length d w h k = length_from d w h (start_col d w k) (start_row d w k)

abbrev pub col_at : RasterDirection4 → ℕ → ℕ → ℕ → ℕ
col_at d w k i = col_from d (start_col d w k) i

abbrev pub row_at : RasterDirection4 → ℕ → ℕ → ℕ → ℕ
row_at d w k i = row_from d (start_row d w k) i

abbrev pub scan_line_at : RasterDirection4 → ℕ → ℕ → ℕ → ScanLine
scan_line_at d w h k = record { col = start_col d w k; row = start_row d w k; len = line_length d w h k }

-- worked: in a picture 5 by 3, column and row of each line's start, and its length
abbrev five_by_three : RasterDirection4 → ℕ → ℕ × ℕ × ℕ
five_by_three d k = (start_col d 5 k, start_row d 5 k, line_length d 5 3 k)

down_right :
    map (five_by_three DownRight) (0 ∷ 1 ∷ 2 ∷ 3 ∷ 4 ∷ 5 ∷ 6 ∷ [])
    ≡ (0, 0, 3) ∷ (1, 0, 3) ∷ (2, 0, 3) ∷ (3, 0, 2) ∷ (4, 0, 1) ∷ (0, 1, 2) ∷ (0, 2, 1) ∷ []
unfolding start_col start_row
down_right = refl

down_left :
    map (five_by_three DownLeft) (0 ∷ 1 ∷ 2 ∷ 3 ∷ 4 ∷ 5 ∷ 6 ∷ [])
    ≡ (0, 0, 1) ∷ (1, 0, 2) ∷ (2, 0, 3) ∷ (3, 0, 3) ∷ (4, 0, 3) ∷ (4, 1, 2) ∷ (4, 2, 1) ∷ []
unfolding start_col start_row
down_left = refl

-- column x and row y are those of a pixel
abbrev pub in_picture : ℕ → ℕ → ℤ → ℤ → Bool
in_picture w h (pos c) (pos r) = ltb c w && ltb r h
in_picture w h (pos c) (negsuc r) = false
in_picture w h (negsuc c) y = false

-- From the pixel (c, r), i steps lead to a pixel exactly where i is below `length_from`, and that pixel is the one that
-- `col_from` and `row_from` name.
pub record Reach (d : RasterDirection4) (w h c r i : ℕ) : Type 0 where
  pub ends :
      in_picture w h (pos c +ℤ pos i *ℤ (step_of d).dx) (pos r +ℤ pos i *ℤ (step_of d).dy) ≡ ltb i (length_from d w h c r)
  pub col : i < length_from d w h c r → pos c +ℤ pos i *ℤ (step_of d).dx ≡ pos (col_from d c i)
  pub row : pos r +ℤ pos i *ℤ (step_of d).dy ≡ pos (row_from d r i)

-- ---- "Every pixel lies on one line of a direction."

-- the line of the pixel (c, r), and its place there
unfoldable pub line_of : RasterDirection4 → ℕ → ℕ → ℕ → ℕ
line_of Horizontal w c r = r
line_of DownRight w c r = cond (leb r c) (c - r) (w + (r - c) - 1)
line_of Vertical w c r = c
line_of DownLeft w c r = c + r

abbrev pub place_of : RasterDirection4 → ℕ → ℕ → ℕ → ℕ
place_of Horizontal w c r = c
place_of DownRight w c r = min c r
place_of Vertical w c r = r
place_of DownLeft w c r = min r (w - (c + 1))

pub record OnLine (d : RasterDirection4) (w h c r : ℕ) : Type 0 where
  pub line : line_of d w c r < line_count d w h
  pub place : place_of d w c r < line_length d w h (line_of d w c r)
  pub col : col_at d w (line_of d w c r) (place_of d w c r) ≡ c
  pub row : row_at d w (line_of d w c r) (place_of d w c r) ≡ r

pub record AtPlace (d : RasterDirection4) (w h k i : ℕ) : Type 0 where
  pub col : col_at d w k i < w
  pub row : row_at d w k i < h
  pub line : line_of d w (col_at d w k i) (row_at d w k i) ≡ k
  pub place : place_of d w (col_at d w k i) (row_at d w k i) ≡ i

-- pixels, and places of lines, determine each other
pub record OneLine (d : RasterDirection4) (w h : ℕ) : Type 0 where
  pub of_pixel : (c r : ℕ) → c < w → r < h → OnLine d w h c r
  pub of_place : (k i : ℕ) → k < line_count d w h → i < line_length d w h k → AtPlace d w h k i

-- ---- "Pixel (c, r) is byte r × stride + c."

abbrev pub byte_of : ℕ → ℕ → ℕ → ℕ
byte_of stride c r = r * stride + c

-- how many bytes on the next place of a line is
abbrev pub place_step : RasterDirection4 → ℕ → ℕ
place_step Horizontal stride = 1
place_step DownRight stride = stride + 1
place_step Vertical stride = stride
place_step DownLeft stride = stride - 1
