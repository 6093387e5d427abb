-- Sums by a count of terms: the window of document 01's "Mean along a line" is a `total`, a number of hits a `count`.
use Rattle.std.specs.Prelude.{◌≡◌, refl, ℕ, zero, suc, ◌+◌, ◌*◌, ℤ, pos, negsuc, ◌+ℤ◌, ◌-ℤ◌}

-- g a + g (a + 1) + .., k terms, the last term last
unfoldable pub total : (ℕ → ℤ) → ℕ → ℕ → ℤ
total g a zero = pos 0
total g a (suc k) = total g a k +ℤ g (a + k)

-- f 0 + .. + f (k − 1)
unfoldable pub count : (ℕ → ℕ) → ℕ → ℕ
count f zero = 0
count f (suc k) = count f k + f k

-- worked: 2 + 3 + 4, 0 + 1 + 4 + 9, and 1 − 2 + (2 − 2) with two terms
two_to_four : total pos 2 3 ≡ pos 9
unfolding total
two_to_four = refl

squares : count (λ i. i * i) 4 ≡ 14
unfolding count
squares = refl

differences : total (λ i. pos i -ℤ pos 2) 1 2 ≡ negsuc 0
unfolding total
differences = refl
