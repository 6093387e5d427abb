-- The exact run in fractions (document 01, "Whole job and exact run"), over any window: "S = 65,536 × L, N0 = B,
-- N(k+1) = S × Nk + q × (L × S^k × B − window sum of Nk)", where L is the number of taps.
use Rattle.std.specs.Prelude.{ℕ, zero, suc, ◌*◌, ◌^◌, ℤ, pos, ◌+ℤ◌, ◌-ℤ◌, ◌*ℤ◌}
use Rattle.floats.specs.Factor.{scale}
use Rattle.line.specs.Iteration.{Window}

-- S
abbrev pub scale_of : ℕ → ℕ
scale_of taps = scale * taps

-- Nk at place p. E power is the window sum of numerators over that power of S, S^k for those of Nk.
unfoldable pub exact : {P : Type 0} → (ℕ → Window P) → ℕ → (P → ℤ) → ℕ → ℕ → P → ℤ
exact E taps b q zero p = b p
exact E taps b q (suc k) p =
    pos (scale_of taps) *ℤ exact E taps b q k p
    +ℤ pos q *ℤ (pos (taps * scale_of taps ^ k) *ℤ b p -ℤ E (scale_of taps ^ k) (exact E taps b q k) p)

-- numerator / denominator
pub record Fraction : Type 0 where
  pub numerator : ℤ
  pub denominator : ℕ

-- "The exact value after k is Nk / S^k."
abbrev pub value_after : ℕ → ℕ → ℤ → Fraction
value_after taps k N = record { numerator = N; denominator = scale_of taps ^ k }
