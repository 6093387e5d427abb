-- A picture a row at a time: one more row is painted (`painted_row`), a row as a part of the bytes (`row_part_length`,
-- `row_part_at`), rows without gaps (`row_end_within`), a copied row (`copied_whole`,
-- `copied_written`). n and m are a row's width as the code counts it, end − start.
use Prim.Native.Nat.{ℕ, ◌+◌, ◌*◌, ◌/◌, ◌%◌, ◌≤◌, ◌<◌}
use mathlib.Core.List.{List, ◌++◌, append-nil}
use mathlib.Core.Path.{◌≡◌, ap, ap₂, ◌∙◌}
use native.Mathlib.Nat.{le_refl, mul_comm, mul-le-mul_right}
use native.Mathlib.Omega.{arith}
use lib.ListN.{length, get_or, take, drop}
use lib.Seq.{take-length, drop-length}
use Rattle.numbers.specs.Written.{Written, Painted, front, part}
use Rattle.numbers.proofs.List.{get_d_part, length_part}
use Rattle.numbers.proofs.Nat.{add_one_mul}
use Rattle.numbers.proofs.Places.{within_front, pixels_row, front_iff}
use Rattle.numbers.proofs.Test.{false_not_true}
use Rattle.numbers.proofs.Written.{written_join, written_part, painted_at}
use Rattle.image.specs.Picture.{pixel}

-- row y of h rows of w places ends within them
pub row_end_within : (w h y : ℕ) → y < h → y * w + w ≤ w * h
row_end_within w h y b =
    let e : (y + 1) * w ≤ h * w = mul-le-mul_right w (omega arith) in
    omega (arith, add_one_mul y w, mul_comm w h)

-- one more row of a picture, w wide with stride s
module _ (f : ℕ → ℕ → ℕ) (g : ℕ → ℕ) (w s y n m : ℕ) (old mid ys : List ℕ) where
  pub painted_row : n ≡ w → m ≡ w → w ≤ s → y * s + w ≤ length mid → ((x : ℕ) → x < w → g x ≡ f x y)
      → Painted 0 f w y s old mid
      → Written 0 (front n) g (take m (drop (y * s) mid)) ys
      → Painted 0 f w (y + 1) s old (take (y * s) mid ++ (ys ++ drop m (drop (y * s) mid)))
  painted_row e d l h v P W = rw d (written_join P row (pixels_row w s y l))
    where
      row : Written 0 (part (y * s) w) (λ j. f (j % s) (j / s)) mid
          (take (y * s) mid ++ (ys ++ drop w (drop (y * s) mid)))
      row =
          written_part (y * s) w mid h (rw (e, d) at W) (within_front (y * s) w w (le_refl w))
          (λ x b _. v x b ∙ painted_at f s x y (omega arith))

-- a row of the bytes, as a part of m places
module _ (xs : List ℕ) (w s y m : ℕ) (same : m ≡ w) (fits : y * s + w ≤ length xs) where
  abbrev pub row_part : List ℕ
  row_part = take m (drop (y * s) xs)

  pub row_part_length : length row_part ≡ w
  row_part_length = rw same (length_part (y * s) w xs fits)

  pub row_part_at : (x : ℕ) → x < w → get_or row_part x 0 ≡ pixel xs s x y
  row_part_at x h = get_d_part (y * s) m xs x 0 (rw same h)

-- what `copy_from_slice` leaves
pub copied_whole : (src dst : List ℕ) {new : List ℕ} → length src ≡ length dst → new ≡ src
    → Written 0 (front (length src)) (λ x. get_or src x 0) dst new
copied_whole src dst same all =
    record {
      same_length = ap length all ∙ same;
      hits = λ j _ _. ap (λ (xs : List ℕ). get_or xs j 0) all;
      rest = λ j below miss. absurd (false_not_true miss ((front_iff (length src) j).1 (omega arith)));
    }

-- what `bytes::copy` leaves of as many bytes
pub copied_written : (src dst : List ℕ) {new : List ℕ} → length src ≡ length dst
    → new ≡ take (length src) src ++ drop (length src) dst
    → Written 0 (front (length src)) (λ x. get_or src x 0) dst new
copied_written src dst same e =
    copied_whole src dst same
    (e ∙ ap₂ ◌++◌ (take-length src) (ap (λ (n : ℕ). drop n dst) same ∙ drop-length dst) ∙ append-nil src)
