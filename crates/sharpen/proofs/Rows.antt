-- Laws of the two passes, a row at a time: a row of sums from its ends and its inside, and what the sums then are. m is
-- a row's width as the code counts it, end − start.
use Prim.Native.Nat.{ℕ, ◌+◌, ◌-◌, ◌*◌, ◌≤◌, ◌<◌}
use mathlib.Core.List.{List, ◌++◌}
use mathlib.Core.Path.{◌≡◌, refl, sym, ◌∙◌}
use native.Mathlib.Nat.{le_refl}
use native.Mathlib.Omega.{arith}
use lib.ListN.{length, get_or, take, drop}
use Rattle.numbers.specs.Written.{Written, Painted, front, part}
use Rattle.numbers.proofs.List.{get_d_part, length_part}
use Rattle.numbers.proofs.Places.{part_join, within_front}
use Rattle.numbers.proofs.Written.{written_join, written_part, painted_get}
use Rattle.image.specs.Picture.{pixel}
use Rattle.image.proofs.Rows.{row_end_within, row_part_length, row_part_at}
use Rattle.sharpen.specs.Binomial.{tap_place, binomial_sum}
use Rattle.sharpen.specs.Passes.{weighed, tap_sum, sum_at, inside_at, Sums, RowSums}
use Rattle.sharpen.proofs.Binomial.{tap_lt, tap_inside, tap_sum_is, tap_sum_same, tap_sum_most, two_passes}
use Rattle.sharpen.proofs.Places.{part_front}

pub inside_is : (row : List ℕ) (x : ℕ) → x + 4 < length row → inside_at row x ≡ sum_at row (2 + x)
inside_is row x h =
    let e0 : tap_place (length row) (2 + x) 0 ≡ x = tap_inside (length row) x 0 h (omega arith) ∙ omega arith in
    let e1 = tap_inside (length row) x 1 h (omega arith) in
    let e2 = tap_inside (length row) x 2 h (omega arith) in
    let e3 = tap_inside (length row) x 3 h (omega arith) in
    let e4 = tap_inside (length row) x 4 h (omega arith) in
    rw (tap_sum_is (λ i. get_or row i 0) (length row) (2 + x), e0, e1, e2, e3, e4)

-- no sum of five bytes passes 16 × 255
pub sum_most : (row : List ℕ) (x : ℕ) → ((i : ℕ) → get_or row i 0 ≤ 255) → x < length row → sum_at row x ≤ 4080
sum_most row x bytes h = tap_sum_most (λ i. get_or row i 0) (length row) x 255 h (λ i _. bytes i)

-- two columns, those inside, two columns
module _ (row out out₁ ys out₃ : List ℕ) (long : 5 ≤ length row) (same : length out ≡ length row) where
  abbrev n : ℕ
  n = length row

  abbrev m : ℕ
  m = length row - 2 - 2

  pub row_written : Written 0 (part 0 2) (sum_at row) out out₁
      → Written 0 (front (length (take m (drop 2 out₁)))) (inside_at row) (take m (drop 2 out₁)) ys
      → Written 0 (part (n - 2) (n - (n - 2))) (sum_at row) (take 2 out₁ ++ (ys ++ drop m (drop 2 out₁))) out₃
      → Written 0 (front n) (sum_at row) out out₃
  row_written W₁ W₂ W₃ =
      written_join (written_join W₁ inside (part_join 0 2 2 m (n - 2) refl (omega arith))) W₃
      (λ j. part_front n j ∙ part_join 0 (n - 2) (n - 2) (n - (n - 2)) n (omega arith) (omega arith) j)
    where
      fits : 2 + m ≤ length out₁
      fits = omega (arith, W₁.same_length)

      inside : Written 0 (part 2 m) (sum_at row) out₁ (take 2 out₁ ++ (ys ++ drop m (drop 2 out₁)))
      inside =
          written_part 2 m out₁ fits (rw (length_part 2 m out₁ fits) at W₂) (within_front 2 m m (le_refl m))
          (λ i b _. inside_is row i (omega arith))

-- ---- the first pass

abbrev pub row_sum : List ℕ → ℕ → ℕ → ℕ → ℕ → ℕ
row_sum xs s w c r = tap_sum (λ i. pixel xs s i r) w c

-- a row of the source, as a part of m places
module _ (xs : List ℕ) (w s y m : ℕ) (same : m ≡ w) (fits : y * s + w ≤ length xs) where
  abbrev row : List ℕ
  row = take m (drop (y * s) xs)

  pub row_part_sum : (x : ℕ) → x < w → sum_at row x ≡ row_sum xs s w x y
  row_part_sum x h =
      rw (row_part_length xs w s y m same fits)
      (tap_sum_same (λ i. get_or row i 0) (λ i. pixel xs s i y) w x h (row_part_at xs w s y m same fits))

-- the sums of all rows
pub row_sums_lem : (xs : List ℕ) (w h s : ℕ) (old new : List ℕ) → w * h ≤ length old
    → ((r : ℕ) → r < h → (x : ℕ) → x < w → row_sum xs s w x r ≤ 4080)
    → Painted 0 (row_sum xs s w) w h w old new → RowSums (pixel xs s) w h new
row_sums_lem xs w h s old new b small P = record {
  each = each;
  most = λ x y p q. rw (each x y p q) (small y q x p);
}
  where
    each : (x y : ℕ) → x < w → y < h → get_or new (y * w + x) 0 ≡ tap_sum (λ c. pixel xs s c y) w x
    each x y p q =
        painted_get (row_sum xs s w) w h w P x y p q (le_refl w) (omega (arith, row_end_within w h y q))

-- ---- the second pass

-- the row of a tap ends within the sums
pub tap_end : (w h y i : ℕ) {t n : ℕ} → t ≡ tap_place h y i → y < h → w * h ≤ n → t * w + w ≤ n
tap_end w h y i {t} e l fits = omega (arith, row_end_within w h t (rw e (tap_lt h y i l)), fits)

-- row t, as a part of m sums
pub sums_row : (px : ℕ → ℕ → ℕ) (w h : ℕ) (sums : List ℕ) (t m : ℕ) → RowSums px w h sums → w * h ≤ length sums → m ≡ w
    → t < h → Sums px w t (take m (drop (t * w) sums))
sums_row px w h sums t m R fits same b = rw same (record {
  long = length_part (t * w) w sums (omega (arith, row_end_within w h t b));
  each = λ x d. get_d_part (t * w) w sums x 0 d ∙ R.each x t d b;
  most = λ x d. rw (get_d_part (t * w) w sums x 0 d) (R.most x t d b);
})

-- five rows of sums, weighed
pub down_is : (px : ℕ → ℕ → ℕ) (w h x y : ℕ) {a b c d e : List ℕ} → Sums px w (tap_place h y 0) a
    → Sums px w (tap_place h y 1) b → Sums px w (tap_place h y 2) c → Sums px w (tap_place h y 3) d
    → Sums px w (tap_place h y 4) e → x < w
    → weighed (get_or a x 0) (get_or b x 0) (get_or c x 0) (get_or d x 0) (get_or e x 0) ≡ binomial_sum px w h x y
down_is px w h x y A B C D E l =
    rw (A.each x l, B.each x l, C.each x l, D.each x l, E.each x l)
    (sym (tap_sum_is (λ r. tap_sum (λ c. px c r) w x) h y) ∙ two_passes px w h x y)
