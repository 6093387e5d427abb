-- A line's last estimate, in the second part of its scratch, written to the line's places of a destination.
use Rattle.std.specs.Prelude.{ℕ, ◌-◌, ◌/◌, ◌≤◌, ◌<◌, List, ◌⊎◌, ℤ}
use Rattle.numbers.specs.Written.{Written, comb}
use Rattle.line.specs.Kernel.{LineAsked, line_at}

-- the destination has the line's places, and each is its own
pub record ScatterAsked (dst_len start step n scratch_len : ℕ) : Type 0 where
  pub laid : LineAsked dst_len start step n scratch_len
  pub apart : (0 < step) ⊎ (n ≤ 1)

-- g of the estimate at each place, and nothing else changed
abbrev pub Scattered : {A : Type 0} → A → (ℤ → A) → ℕ → List ℤ → ℕ → ℕ → List A → List A → Type 0
Scattered z g n scratch start step old new = Written z (comb start step n)
    (λ j. g (line_at n scratch ((j - start) / step))) old new
