-- The lengths of a direction's lines add up to the number of pixels. Assumes nothing.
use mathlib.Core.Path.{◌≡◌, refl, ◌∙◌}
use mathlib.Core.Logic.{⊎_elim}
use Prim.Native.Nat.{ℕ, zero, suc, ◌+◌, ◌-◌, ◌*◌, ◌≤◌, ◌<◌, min}
use native.Mathlib.Nat.{mul-zero, mul-suc, mul_comm}
use native.Mathlib.Omega.{arith}
use Rattle.raster.specs.declared.direction.RasterDirection4.{RasterDirection4}
use Rattle.raster.specs.declared.direction.RasterDirection4.TheVariants.{Horizontal, DownRight}
use Rattle.raster.specs.declared.direction.RasterDirection4.TheVariants.{Vertical, DownLeft}
use Rattle.raster.specs.Lines.{line_count, line_length}
use Rattle.numbers.specs.Sum.{count}
use Rattle.numbers.proofs.Sum.{count_same, count_const, count_split, count_turned}
use Rattle.raster.proofs.Place.{starts}

-- n lines of 1, 2, .. pixels, none longer than m
abbrev cut : ℕ → ℕ → ℕ
cut m j = min (suc j) m

-- a longer limit: one pixel more in each line that reaches it
more : (n m : ℕ) → count (cut (suc m)) n ≡ count (cut m) n + (n - m)
unfolding count
more zero m = omega arith
more (suc n) m = omega (arith, more n m)

none : (n : ℕ) → count (cut 0) n ≡ 0
unfolding count
none zero = refl
none (suc n) = omega (arith, none n)

-- The w diagonals of the top row and those of the side column from row 1. A row more adds to the first by `more`, and
-- to the others one diagonal.
diagonals : (w n : ℕ) → count (cut (suc n)) w + count (cut w) n ≡ w * suc n
unfolding count
diagonals w zero = omega (arith, more w 0, none w, mul-suc w 0, mul-zero w)
diagonals w (suc n) = omega (arith, more w (suc n), diagonals w n, mul-suc w (suc n))

-- a direction whose lines of the top row add up to `cut h`'s, and whose other lines get shorter by a pixel each
diagonal_area : (f : ℕ → ℕ) (w h : ℕ) → 1 ≤ h → count f w ≡ count (cut h) w
    → ((j : ℕ) → j < h - 1 → f (w + j) ≡ min (h - 1 - j) w) → count f (w + (h - 1)) ≡ w * h
diagonal_area f w h hh top side =
    let e : suc (h - 1) ≡ h = omega arith in
    omega (
      arith,
      count_split f w (h - 1),
      count_same (λ j. f (w + j)) (λ j. min (h - 1 - j) w) (h - 1) side,
      count_turned (λ x. min x w) (h - 1),
      rw e at (diagonals w (h - 1)),
    )

right_top : (w h : ℕ) → 1 ≤ w → count (line_length DownRight w h) w ≡ count (cut h) w
right_top w h hw =
    count_same (line_length DownRight w h) (λ j. min (w - j) h) w
    (λ j hj. ⊎_elim (λ s. omega arith) (λ s. omega arith) (starts DownRight w j hw))
    ∙ count_turned (λ x. min x h) w

left_top : (w h : ℕ) → 1 ≤ w → count (line_length DownLeft w h) w ≡ count (cut h) w
left_top w h hw =
    count_same (line_length DownLeft w h) (cut h) w
    (λ j hj. ⊎_elim (λ s. omega arith) (λ s. omega arith) (starts DownLeft w j hw))

pub area : (d : RasterDirection4) (w h : ℕ) → 1 ≤ w → 1 ≤ h → count (line_length d w h) (line_count d w h) ≡ w * h
area Horizontal w h hw hh =
    count_same (line_length Horizontal w h) (λ j. w) h (λ j hj. omega (arith, starts Horizontal w j hw))
    ∙ count_const w h
    ∙ mul_comm h w
area DownRight w h hw hh =
    diagonal_area (line_length DownRight w h) w h hh (right_top w h hw)
    (λ j hj. ⊎_elim (λ s. omega arith) (λ s. omega arith) (starts DownRight w (w + j) hw))
area Vertical w h hw hh =
    count_same (line_length Vertical w h) (λ j. h) w (λ j hj. omega (arith, starts Vertical w j hw)) ∙ count_const h w
area DownLeft w h hw hh =
    diagonal_area (line_length DownLeft w h) w h hh (left_top w h hw)
    (λ j hj. ⊎_elim (λ s. omega arith) (λ s. omega arith) (starts DownLeft w (w + j) hw))
