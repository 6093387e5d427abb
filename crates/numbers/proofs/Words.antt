-- Numbers of two words: they are the number that was cut (`whole_words`).
use mathlib.Core.Path.{◌≡◌}
use Prim.Native.Nat.{ℕ, ◌^◌}
use native.Mathlib.Nat.{div-add-mod'}
use Rattle.numbers.specs.Words.{words, whole}

pub whole_words : (n : ℕ) → whole (words n) ≡ n
whole_words n = div-add-mod' n (2 ^ 64)
