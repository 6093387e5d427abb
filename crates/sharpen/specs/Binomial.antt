-- Document 01, "Binomial unsharp": the byte at a pixel, over px, the pixel of a column and a row of a picture w by h.
use Rattle.std.specs.Prelude.{ℕ, ◌+◌, ◌-◌, ◌*◌, ◌/◌, min, [], ◌∷◌, pos, ◌-ℤ◌, get_or}
use Rattle.numbers.specs.Scalar.{clamp_byte}
use Rattle.numbers.specs.Sum.{count}

-- 1 4 6 4 1
abbrev pub weight : ℕ → ℕ
weight i = get_or (1 ∷ 4 ∷ 6 ∷ 4 ∷ 1 ∷ []) i 0

-- place p + i − 2 of a line of n, its ends repeated: cut to 0..n−1 (on ℕ a difference is never below 0)
unfoldable pub tap_place : ℕ → ℕ → ℕ → ℕ
tap_place n p i = min (p + i - 2) (n - 1)

-- weights both ways: 25 products, which add up to 256 × grey where all is one grey
unfoldable pub binomial_sum : (ℕ → ℕ → ℕ) → ℕ → ℕ → ℕ → ℕ → ℕ
binomial_sum px w h c r = count (λ j. count (λ i. weight j * weight i * px (tap_place w c i) (tap_place h r j)) 5) 5

-- blur = (sum + 128) / 256 floored; output 2 × pixel − blur, cut to 0..255
unfoldable pub sharper : ℕ → ℕ → ℕ
sharper pixel sum = clamp_byte (pos (2 * pixel) -ℤ pos ((sum + 128) / 256))

abbrev pub unsharp : (ℕ → ℕ → ℕ) → ℕ → ℕ → ℕ → ℕ → ℕ
unsharp px w h c r = sharper (px c r) (binomial_sum px w h c r)
