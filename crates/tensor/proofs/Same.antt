-- Two pictures with the same pixels have the same gradients, sums and decision (`direction_same`).
use mathlib.Core.List.{List}
use mathlib.Core.Path.{◌≡◌, sym, ◌∙◌, ap, ap₂}
use Prim.Native.Nat.{ℕ, ◌+◌, ◌-◌, ◌<◌}
use native.Mathlib.Omega.{arith}
use lib.IntN.{ℤ, pos, ◌-ℤ◌, ◌*ℤ◌}
use lib.ListN.{length}
use Rattle.image.specs.Call.{Gray8, accepts}
use Rattle.image.specs.Picture.{pixel, row_of}
use Rattle.image.specs.Refusal.{Laid}
use Rattle.image.specs.Same.{SamePicture}
use Rattle.image.proofs.Picture.{row_length, row_pixel}
use Rattle.image.proofs.Accepted.{accepted}
use Rattle.numbers.proofs.Sum.{total_same}
use Rattle.tensor.specs.Tensor.{
  RowSums,
  estimate_of,
  smooth,
  gradient_x,
  gradient_y,
  row_sum,
  row_sums,
  interior_sum,
  tensor_sums,
  picture_sums,
  three_rows,
  Rows,
  direction_decision,
}
use Rattle.tensor.proofs.Answer.{direction_accepted}

-- the rows y, y + 1, y + 2 of p are the rows z, z + 1, z + 2 of q
pub record SameRows (p q : ℕ → ℕ → ℕ) (w y z : ℕ) : Type 0 where
  pub above : (c : ℕ) → c < w → p c y ≡ q c z
  pub here : (c : ℕ) → c < w → p c (y + 1) ≡ q c (z + 1)
  pub below : (c : ℕ) → c < w → p c (y + 2) ≡ q c (z + 2)

smooth_same : {a b c a' b' c' : ℕ} → a ≡ a' → b ≡ b' → c ≡ c' → smooth a b c ≡ smooth a' b' c'
smooth_same e f g = omega arith

module _ {p q : ℕ → ℕ → ℕ} {w y z : ℕ} (s : SameRows p q w y z) where
  pub gradient_x_same : (x : ℕ) → x + 2 < w → gradient_x p x y ≡ gradient_x q x z
  unfolding gradient_x
  gradient_x_same x h =
      let k : x < w = omega arith in
      ap₂ (λ (m n : ℕ). pos m -ℤ pos n)
      (smooth_same (s.above (x + 2) h) (s.here (x + 2) h) (s.below (x + 2) h))
      (smooth_same (s.above x k) (s.here x k) (s.below x k))

  pub gradient_y_same : (x : ℕ) → x + 2 < w → gradient_y p x y ≡ gradient_y q x z
  unfolding gradient_y
  gradient_y_same x h =
      let k : x < w = omega arith in
      let m : x + 1 < w = omega arith in
      ap₂ (λ (m n : ℕ). pos m -ℤ pos n)
      (smooth_same (s.below x k) (s.below (x + 1) m) (s.below (x + 2) h))
      (smooth_same (s.above x k) (s.above (x + 1) m) (s.above (x + 2) h))

  rowSum-same :
      (u v t r : ℕ → ℕ → ℤ) → ((x : ℕ) → x + 2 < w → u x y ≡ t x z) → ((x : ℕ) → x + 2 < w → v x y ≡ r x z)
      → row_sum u v w y ≡ row_sum t r w z
  unfolding row_sum
  rowSum-same u v t r e f =
      total_same (λ x. u x y *ℤ v x y) (λ x. t x z *ℤ r x z) 0 (w - 2)
      (λ x _ h. ap₂ ◌*ℤ◌ (e x (omega arith)) (f x (omega arith)))

  pub row_sums_same : row_sums p w y ≡ row_sums q w z
  unfolding row_sums
  row_sums_same =
      let ea = rowSum-same (gradient_x p) (gradient_x p) (gradient_x q) (gradient_x q) gradient_x_same gradient_x_same in
      let ec = rowSum-same (gradient_x p) (gradient_y p) (gradient_x q) (gradient_y q) gradient_x_same gradient_y_same in
      let ee = rowSum-same (gradient_y p) (gradient_y p) (gradient_y q) (gradient_y q) gradient_y_same gradient_y_same in
      cc

-- ---- the decision depends on the pixels alone: not on the stride, nor on bytes between the rows or behind the last

module _ {p q : ℕ → ℕ → ℕ} (w h : ℕ) (same : (c r : ℕ) → c < w → r < h → p c r ≡ q c r) where
  same_rows : (y : ℕ) → y < 0 + (h - 2) → SameRows p q w y y
  same_rows y k =
      record {
        above = λ c b. same c y b (omega arith);
        here = λ c b. same c (y + 1) b (omega arith);
        below = λ c b. same c (y + 2) b (omega arith);
      }

  pub tensor_sums_same : tensor_sums p w h ≡ tensor_sums q w h
  unfolding tensor_sums interior_sum row_sums
  tensor_sums_same =
      let ea = total_same (row_sum (gradient_x p) (gradient_x p) w) (row_sum (gradient_x q) (gradient_x q) w) 0 (h - 2)
      (λ y _ k. ap (λ (r : RowSums). r.a) (row_sums_same (same_rows y k))) in
      let ec = total_same (row_sum (gradient_x p) (gradient_y p) w) (row_sum (gradient_x q) (gradient_y q) w) 0 (h - 2)
      (λ y _ k. ap (λ (r : RowSums). r.c) (row_sums_same (same_rows y k))) in
      let ee = total_same (row_sum (gradient_y p) (gradient_y p) w) (row_sum (gradient_y q) (gradient_y q) w) 0 (h - 2)
      (λ y _ k. ap (λ (r : RowSums). r.e) (row_sums_same (same_rows y k))) in
      cc

module _ {a b : Gray8} (same : SamePicture a b) where
  pub sums_same : picture_sums a ≡ picture_sums b
  sums_same =
      rw (← same.same_width, ← same.same_height) (tensor_sums_same a.width a.height same.same_pixels)

  pub found_same : estimate_of a.width a.height (picture_sums a) ≡ estimate_of b.width b.height (picture_sums b)
  found_same = let e = sums_same in let w = same.same_width in let h = same.same_height in cc

  pub direction_same : direction_decision a ≡ direction_decision b
  direction_same =
      direction_accepted a.bytes a.width a.height a.stride (accepted same.laid)
      ∙ ap accepts found_same
      ∙ sym (direction_accepted b.bytes b.width b.height b.stride (accepted same.laid'))

-- ---- three rows of an accepted picture, taken out of it

module _ (xs : List ℕ) {w h s : ℕ} (l : Laid (length xs) w h s) (y : ℕ) (below : y + 2 < h) where
  pub taken_same : SameRows (three_rows (row_of xs w h s y) (row_of xs w h s (y + 1)) (row_of xs w h s (y + 2)))
      (pixel xs s) w 0 y
  taken_same =
      record {
        above = row_pixel xs w h s l y (omega arith);
        here = row_pixel xs w h s l (y + 1) (omega arith);
        below = row_pixel xs w h s l (y + 2) below;
      }

  pub taken_sums : row_sums (three_rows (row_of xs w h s y) (row_of xs w h s (y + 1)) (row_of xs w h s (y + 2)))
      (length (row_of xs w h s (y + 1))) 0 ≡ row_sums (pixel xs s) w y
  taken_sums = rw (row_length xs w h s l (y + 1) (omega arith)) (row_sums_same taken_same)

  pub taken_rows : Rows (row_of xs w h s y) (row_of xs w h s (y + 1)) (row_of xs w h s (y + 2))
  taken_rows =
      let a = row_length xs w h s l y (omega arith) in
      let b = row_length xs w h s l (y + 1) (omega arith) in
      let d = row_length xs w h s l (y + 2) below in
      record { most = omega (arith, l.width_most); same_above = a ∙ sym b; same_below = d ∙ sym b }
