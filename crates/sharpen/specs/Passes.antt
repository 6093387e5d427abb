-- The five-tap sums of the two passes, for the contracts of `kernel`. That they make `binomial_sum` is a law,
-- `two_passes`.
use Rattle.std.specs.Prelude.{ℕ, ◌+◌, ◌*◌, ◌≤◌, ◌<◌, List, ◌≡◌, length, get_or}
use Rattle.numbers.specs.Sum.{count}
use Rattle.sharpen.specs.Binomial.{weight, tap_place}

-- 1 4 6 4 1 times five values
abbrev pub weighed : ℕ → ℕ → ℕ → ℕ → ℕ → ℕ
weighed a b c d e = a + 4 * b + 6 * c + 4 * d + e

-- the same by the weights: the sum of a line f of n at place p, its ends repeated
unfoldable pub tap_sum : (ℕ → ℕ) → ℕ → ℕ → ℕ
tap_sum f n p = count (λ i. weight i * f (tap_place n p i)) 5

-- the sum of a row at a column
abbrev pub sum_at : List ℕ → ℕ → ℕ
sum_at row x = tap_sum (λ c. get_or row c 0) (length row) x

-- five columns of a row from x on, weighed
abbrev pub inside_at : List ℕ → ℕ → ℕ
inside_at row x =
    weighed (get_or row x 0) (get_or row (x + 1) 0) (get_or row (x + 2) 0) (get_or row (x + 3) 0) (get_or row (x + 4) 0)

-- row t of the sums of a picture w wide
pub record Sums (px : ℕ → ℕ → ℕ) (w t : ℕ) (xs : List ℕ) : Type 0 where
  pub long : length xs ≡ w
  pub each : (x : ℕ) → x < w → get_or xs x 0 ≡ tap_sum (λ c. px c t) w x
  pub most : (x : ℕ) → x < w → get_or xs x 0 ≤ 4080

-- the sums of every row of a picture w by h, row behind row; no sum of a row's bytes passes 16 × 255
pub record RowSums (px : ℕ → ℕ → ℕ) (w h : ℕ) (xs : List ℕ) : Type 0 where
  pub each : (x y : ℕ) → x < w → y < h → get_or xs (y * w + x) 0 ≡ tap_sum (λ c. px c y) w x
  pub most : (x y : ℕ) → x < w → y < h → get_or xs (y * w + x) 0 ≤ 4080
