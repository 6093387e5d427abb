-- The exact run along a line (document 01, "Whole job and exact run"). With the working run it shares only the source
-- B, the lines and the border map m.
use Rattle.std.specs.Prelude.{ℕ, ◌+◌, ◌*◌, ◌/◌, ℤ, pos}
use Rattle.std.proofs.Math.IntN.{sub_ℕ}
use Rattle.numbers.specs.Sum.{total}
use Rattle.raster.specs.declared.border.BorderSample.{BorderSample}
use Rattle.raster.specs.declared.border.BorderSample.TheVariants.{Inside, Outside}
use Rattle.line.specs.Exact as run

-- "a Constant sample counting value × S^k"
abbrev pub exact_source : (ℕ → ℤ) → ℕ → BorderSample → ℤ
exact_source f power (Inside i) = f i
exact_source f power (Outside v) = pos (v * power)

-- the window sum: L samples from p − L/2 to p + L/2 (L/2 whole)
unfoldable pub exact_window : (ℤ → BorderSample) → ℕ → ℕ → (ℕ → ℤ) → ℕ → ℤ
exact_window m L power f p = total (λ u. exact_source f power (m (sub_ℕ (p + u) (L / 2)))) 0 L

-- Nk at place p
abbrev pub exact : (ℤ → BorderSample) → (ℕ → ℤ) → ℕ → ℕ → ℕ → ℕ → ℤ
exact m b q L = run.exact (exact_window m L) L b q
