-- Numbers of two words of 64 bits, as a `u128` holds them.
use Rattle.std.specs.Prelude.{◌≡◌, refl, ℕ, ◌+◌, ◌*◌, ◌/◌, ◌%◌, ◌^◌}

-- high × 2^64 + low
pub record Wide : Type 0 where
  pub high : ℕ
  pub low : ℕ

-- n, if it is below 2^128
abbrev pub words : ℕ → Wide
words n = record { high = n / 2 ^ 64; low = n % 2 ^ 64 }

-- the number that two words are
abbrev pub whole : Wide → ℕ
whole w = w.high * 2 ^ 64 + w.low

-- worked: (2^64 − 1)² is 2^128 − 2^65 + 1
largest : words (18446744073709551615 * 18446744073709551615) ≡ record { high = 18446744073709551614; low = 1 }
largest = refl
