-- What the definitions of a line say, one law for each, so that no other file unfolds them: `sample_is`, `window_is`.
-- Then the sample at a place of the line, and the window's slide.
use mathlib.Core.Path.{◌≡◌, refl, sym, ap, ◌∙◌}
use Prim.Native.Nat.{ℕ, ◌+◌, ◌-◌, ◌/◌, ◌≤◌, ◌<◌}
use native.Mathlib.Nat.{add_comm}
use native.Mathlib.Numerals.{add-one}
use native.Mathlib.Omega.{arith}
use borrow.Author.Tests.{le-ltb}
use lib.IntN.{ℤ, pos, sub_ℕ, ◌+ℤ◌, ◌-ℤ◌}
use Rattle.numbers.specs.Sum.{total}
use Rattle.numbers.proofs.Sum.{total_same, total_shift, total_slide}
use Rattle.raster.specs.Border.{Lawful}
use Rattle.raster.specs.declared.border.BorderSample.{BorderSample}
use Rattle.raster.specs.declared.border.BorderSample.TheVariants.{Inside, Outside}
use Rattle.line.specs.Line.{from_source, sample, window}

module _ (m : ℤ → BorderSample) (f : ℕ → ℤ) where
  pub sample_is : (p : ℤ) → sample m f p ≡ from_source f (m p)
  unfolding sample
  sample_is p = refl

  -- where the map says that the sample comes from
  pub sample_inside : (p : ℤ) {i : ℕ} → m p ≡ Inside i → sample m f p ≡ f i
  sample_inside p e = sample_is p ∙ ap (from_source f) e

  pub sample_outside : (p : ℤ) {v : ℕ} → m p ≡ Outside v → sample m f p ≡ pos v
  sample_outside p e = sample_is p ∙ ap (from_source f) e

  -- the window as a sum over shifted places u, which stand for u − L/2: from u = p on
  pub window_is : (L p : ℕ) → window m L f p ≡ total (λ u. sample m f (sub_ℕ u (L / 2))) p L
  unfolding window
  window_is L p =
      total_same (λ u. sample m f (sub_ℕ (p + u) (L / 2))) (λ u. sample m f (sub_ℕ (u + p) (L / 2))) 0 L
      (λ u _ _. ap (λ (k : ℕ). sample m f (sub_ℕ k (L / 2))) (add_comm p u))
      ∙ total_shift (λ u. sample m f (sub_ℕ u (L / 2))) 0 p L
      ∙ ap (λ (k : ℕ). total (λ u. sample m f (sub_ℕ u (L / 2))) k L) (omega arith)

  -- one place on: the sample behind the window comes in, its first goes out
  pub window_slide : (L p : ℕ)
      → window m L f (p + 1) ≡ window m L f p +ℤ sample m f (sub_ℕ (p + L) (L / 2)) -ℤ sample m f (sub_ℕ p (L / 2))
  window_slide L p =
      window_is L (p + 1)
      ∙ ap (λ (k : ℕ). total (λ u. sample m f (sub_ℕ u (L / 2))) k L) (add-one p)
      ∙ total_slide (λ u. sample m f (sub_ℕ u (L / 2))) p L
      ∙ ap (λ (z : ℤ). z +ℤ sample m f (sub_ℕ (p + L) (L / 2)) -ℤ sample m f (sub_ℕ p (L / 2))) (sym (window_is L p))

-- a place u − half of the line
pub sample_at_lem : {n : ℕ} {m : ℤ → BorderSample} → Lawful n m → (f : ℕ → ℤ) (u half : ℕ) → half ≤ u → u < half + n
    → sample m f (sub_ℕ u half) ≡ f (u - half)
sample_at_lem {m = m} l f u half h k =
    sample_inside m f (sub_ℕ u half) (ap m (simp (le-ltb u half h)) ∙ l.inside (u - half) (omega arith))
