-- The working run along a line lies near the exact one, for every border map, source, place, L ≥ 1 and q ≤ 65,536
-- (`line_near`): samples that are near give windows that are near, whatever the border.
use mathlib.Core.Path.{◌≡◌}
use Prim.Native.Nat.{ℕ, ◌+◌, ◌*◌, ◌/◌, ◌≤◌, ◌<◌, zero-le}
use native.Mathlib.Omega.{arith}
use lib.IntN.{ℤ, pos, sub_ℕ, nat_abs, ◌-ℤ◌, ◌*ℤ◌}
use Rattle.numbers.proofs.Int.Linear.{linear}
use Rattle.numbers.proofs.Int.Ring.{ -ℤ-self}
use Rattle.numbers.proofs.Sum.{total_near}
use Rattle.floats.specs.Factor.{scale}
use Rattle.raster.specs.declared.border.BorderSample.{BorderSample}
use Rattle.raster.specs.declared.border.BorderSample.TheVariants.{Inside, Outside}
use Rattle.line.specs.Line.{from_source, sample, window, after}
use Rattle.line.specs.Exact.{value_after}
use Rattle.line.specs.ExactLine.{exact_source, exact_window, exact}
use Rattle.line.specs.Near.{Near}
use Rattle.line.proofs.NearIteration.{Close, iteration_near}

module _ (m : ℤ → BorderSample) (L : ℕ) where
  source-near : (y N : ℕ → ℤ) (s d : ℕ) → Close s d y N → (u : BorderSample)
      → nat_abs (pos s *ℤ from_source y u -ℤ exact_source N s u) ≤ d * s
  source-near y N s d close (Inside i) = close i
  source-near y N s d close (Outside v) =
      let x = exact_source N s (Outside v) in
      let e : pos (s * v) ≡ x = omega (arith, linear) in
      rw (e, -ℤ-self x) zero-le

  window-near : (y N : ℕ → ℤ) (s d : ℕ) → Close s d y N → (p : ℕ)
      → nat_abs (pos s *ℤ window m L y p -ℤ exact_window m L s N p) ≤ L * (d * s)
  unfolding window sample exact_window
  window-near y N s d close p =
      let place : ℕ → BorderSample = λ u. m (sub_ℕ (p + u) (L / 2)) in
      total_near (λ u. from_source y (place u)) (λ u. exact_source N s (place u)) s (d * s) L
      (λ u. source-near y N s d close (place u))

  pub line_near : (b : ℕ → ℤ) (q : ℕ) → 0 < L → q ≤ scale → (k p : ℕ) → 1 ≤ k
      → Near q k (after m b q L k p) (value_after L k (exact m b q L k p))
  line_near b q some small = iteration_near (window m L) (exact_window m L) L some window-near b q small
