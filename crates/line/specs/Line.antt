-- The mean along a line, and the estimates of the restoration (document 01, "Mean along a line", "Restoration and line
-- unsharp"). A line is a function f of its places; a border is any map m from places, which are integers, to where the
-- sample comes from.
use Rattle.std.specs.Prelude.{ℕ, ◌+◌, ◌/◌, ℤ, pos}
use Rattle.std.proofs.Math.IntN.{sub_ℕ}
use Rattle.numbers.specs.Sum.{total}
use Rattle.raster.specs.declared.border.BorderSample.{BorderSample}
use Rattle.raster.specs.declared.border.BorderSample.TheVariants.{Inside, Outside}
use Rattle.line.specs.Iteration as iteration

-- ---- "Mean along a line"

abbrev pub from_source : (ℕ → ℤ) → BorderSample → ℤ
from_source f (Inside i) = f i
from_source f (Outside v) = pos v

-- the sample at a place of the line, or outside it
unfoldable pub sample : (ℤ → BorderSample) → (ℕ → ℤ) → ℤ → ℤ
sample m f p = from_source f (m p)

-- the sum of L samples from p − L/2 to p + L/2 (L/2 whole)
unfoldable pub window : (ℤ → BorderSample) → ℕ → (ℕ → ℤ) → ℕ → ℤ
window m L f p = total (λ u. sample m f (sub_ℕ (p + u) (L / 2))) 0 L

-- divided by L and floored
abbrev pub mean : (ℤ → BorderSample) → (ℕ → ℤ) → ℕ → ℕ → ℤ
mean m f L = iteration.mean (window m L) L f

-- ---- "Restoration and line unsharp": Y0 = B, Y(k+1) = Yk + (B − mean of Yk) × q / 65,536

-- the estimate after k iterations
abbrev pub after : (ℤ → BorderSample) → (ℕ → ℤ) → ℕ → ℕ → ℕ → ℕ → ℤ
after m b q L = iteration.after (window m L) L b q
