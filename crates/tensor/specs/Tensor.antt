-- Document 01, "Direction from a picture": the Sobel gradients of the interior pixels, the sums A, C and E of their
-- products, and the direction. A picture is p c r, the pixel in column c and row r.
use Rattle.std.specs.Prelude.{Bool, cond, ◌||◌, List, ◌≡◌, ℕ, zero, suc, ◌+◌, ◌-◌, ◌*◌, ◌≤◌, eqb, leb, ltb, ℤ, pos, nat_abs, ◌+ℤ◌, ◌-ℤ◌, ◌*ℤ◌, length, get_or}
use Rattle.std.specs.Int.Signed.{le_z, lt_z}
use Rattle.image.specs.Call.{Gray8, Decision, decided}
use Rattle.image.specs.Refusal.{max_side, layout_refusal}
use Rattle.image.specs.Picture.{pixel}
use Rattle.numbers.specs.Sum.{total}
use Rattle.raster.specs.declared.direction.RasterDirection4.{RasterDirection4}
use Rattle.raster.specs.declared.direction.RasterDirection4.TheVariants.{Horizontal, DownRight, Vertical, DownLeft}
use Rattle.tensor.specs.declared.direction.Sums.{Sums}
use Rattle.tensor.specs.declared.direction.DirectionEstimate.{DirectionEstimate}

-- ---- the gradients at the interior pixel (x + 1, y + 1): the column to the right minus that to the left, the row
-- below minus that above

-- weights 1 2 1
abbrev pub smooth : ℕ → ℕ → ℕ → ℕ
smooth u v w = u + 2 * v + w

unfoldable pub gradient_x : (ℕ → ℕ → ℕ) → ℕ → ℕ → ℤ
gradient_x p x y =
    pos (smooth (p (x + 2) y) (p (x + 2) (y + 1)) (p (x + 2) (y + 2))) -ℤ pos
    (smooth (p x y) (p x (y + 1)) (p x (y + 2)))

unfoldable pub gradient_y : (ℕ → ℕ → ℕ) → ℕ → ℕ → ℤ
gradient_y p x y =
    pos (smooth (p x (y + 2)) (p (x + 1) (y + 2)) (p (x + 2) (y + 2))) -ℤ pos
    (smooth (p x y) (p (x + 1) y) (p (x + 2) y))

-- ---- the sums: a row of width w has w − 2 interior pixels, a picture of height h has h − 2 such rows

-- of u × v along row y + 1
unfoldable pub row_sum : (ℕ → ℕ → ℤ) → (ℕ → ℕ → ℤ) → ℕ → ℕ → ℤ
row_sum u v w y = total (λ x. u x y *ℤ v x y) 0 (w - 2)

-- of u × v over all
unfoldable pub interior_sum : (ℕ → ℕ → ℤ) → (ℕ → ℕ → ℤ) → ℕ → ℕ → ℤ
interior_sum u v w h = total (row_sum u v w) 0 (h - 2)

-- the code's types of sums, of a row and of a picture
abbrev pub RowSums : Type 0
RowSums = Sums ℤ

abbrev pub TensorSums : Type 0
TensorSums = Sums ℤ

-- A = sum of gx², C = sum of gx × gy, E = sum of gy²
unfoldable pub tensor_sums : (ℕ → ℕ → ℕ) → ℕ → ℕ → TensorSums
tensor_sums p w h =
    record {
      a = interior_sum (gradient_x p) (gradient_x p) w h;
      c = interior_sum (gradient_x p) (gradient_y p) w h;
      e = interior_sum (gradient_y p) (gradient_y p) w h;
    }

-- ---- the direction, D = A − E

-- "A side below 3, or A + E = 0": no interior pixel, or no gradient
abbrev pub no_direction : ℕ → ℕ → ℤ → ℤ → Bool
no_direction w h A E = ltb w 3 || ltb h 3 || eqb (nat_abs (A +ℤ E)) 0

-- There: Horizontal. If 2|C| ≤ |D|: Vertical for D ≥ 0, else Horizontal. Otherwise DownLeft for C > 0, DownRight for
-- C < 0.
unfoldable pub tensor_direction : ℕ → ℕ → ℤ → ℤ → ℤ → RasterDirection4
tensor_direction w h A C E =
    cond (no_direction w h A E) Horizontal
    (cond (leb (2 * nat_abs C) (nat_abs (A -ℤ E)))
    (cond (le_z (pos 0) (A -ℤ E)) Vertical Horizontal)
    (cond (lt_z (pos 0) C) DownLeft DownRight))

-- A, C and E are returned too
unfoldable pub estimate_of : ℕ → ℕ → TensorSums → DirectionEstimate
estimate_of w h s = record { direction = tensor_direction w h s.a s.c s.e; sums = s }

abbrev pub picture_sums : Gray8 → TensorSums
picture_sums src = tensor_sums (pixel src.bytes src.stride) src.width src.height

-- the estimate, or the layout's refusal
unfoldable pub direction_decision : Gray8 → Decision DirectionEstimate
direction_decision src =
    decided (layout_refusal (length src.bytes) src.width src.height src.stride)
    (estimate_of src.width src.height (picture_sums src))

-- ---- what the parts of the computation state

-- r is the gradient z, of size 4 × 255 at most
pub record Gradient (z r : ℤ) : Type 0 where
  pub is : r ≡ z
  pub small : nat_abs r ≤ 1020

-- three rows as a picture
abbrev pub three_rows : List ℕ → List ℕ → List ℕ → ℕ → ℕ → ℕ
three_rows above here below c zero = get_or above c 0
three_rows above here below c (suc zero) = get_or here c 0
three_rows above here below c (suc (suc r)) = get_or below c 0

-- .. of one length, that of an accepted row at most
pub record Rows (above here below : List ℕ) : Type 0 where
  pub most : length here ≤ max_side
  pub same_above : length above ≡ length here
  pub same_below : length below ≡ length here

-- the sums of row y + 1
unfoldable pub row_sums : (ℕ → ℕ → ℕ) → ℕ → ℕ → RowSums
row_sums p w y =
    record {
      a = row_sum (gradient_x p) (gradient_x p) w y;
      c = row_sum (gradient_x p) (gradient_y p) w y;
      e = row_sum (gradient_y p) (gradient_y p) w y;
    }

-- sums that can be added and doubled in 64 bits: 2^41 at most
pub record Small (A C E : ℤ) : Type 0 where
  pub small_a : nat_abs A ≤ 2199023255552
  pub small_c : nat_abs C ≤ 2199023255552
  pub small_e : nat_abs E ≤ 2199023255552
