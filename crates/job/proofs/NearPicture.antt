-- The estimate at every pixel lies near the exact value (`pixel_near`), and the byte that a destination holds near the
-- exact value cut to 0..255 (`byte_near`).
use mathlib.Core.Path.{◌≡◌, refl}
use Prim.Native.Nat.{ℕ, ◌≤◌, ◌<◌}
use lib.IntN.{pos}
use Rattle.numbers.specs.Scalar.{clamp_byte}
use Rattle.raster.specs.Border.{border_map}
use Rattle.raster.specs.Lines.{line_length, line_of, place_of}
use Rattle.raster.specs.declared.border.LineBorderMode.{LineBorderMode}
use Rattle.raster.specs.declared.direction.RasterDirection4.{RasterDirection4}
use Rattle.line.specs.ExactLine.{exact}
use Rattle.line.specs.Near.{Near, cut}
use Rattle.line.proofs.NearCut.{cut_near}
use Rattle.line.proofs.NearLine.{line_near}
use Rattle.deblur.specs.Picture.{samples, estimate}
use Rattle.deblur.proofs.PictureLaws.{estimate_is, estimate_on_holds}
use Rattle.job.specs.Exact.{exact_estimate, exact_value}

module _ (px : ℕ → ℕ → ℕ) (d : RasterDirection4) (w h : ℕ) (border : LineBorderMode) (L q k c r : ℕ) where
  exact-estimate-is : exact_estimate px d w h border L q k c r
      ≡ exact (border_map border (line_length d w h (line_of d w c r))) (samples px d w (line_of d w c r)) q L k
      (place_of d w c r)
  unfolding exact_estimate
  exact-estimate-is = refl

module _ (px : ℕ → ℕ → ℕ) (d : RasterDirection4) (w h : ℕ) (border : LineBorderMode) (L q : ℕ) (some : 0 < L)
    (small : q ≤ 65536) (k : ℕ) (least : 1 ≤ k) (c r : ℕ) where
  pub pixel_near : Near q k (estimate px d w h border L q k c r) (exact_value px d w h border L q k c r)
  pixel_near =
      let l = line_of d w c r in
      let p = place_of d w c r in
      rw (
        estimate_is px d w h border L q k c r,
        estimate_on_holds px d w h border L q k l p,
        exact-estimate-is px d w h border L q k c r,
      )
      (line_near (border_map border (line_length d w h l)) L (samples px d w l) q some small k p least)

  pub byte_near : Near q k (pos (clamp_byte (estimate px d w h border L q k c r)))
      (cut (exact_value px d w h border L q k c r))
  byte_near = cut_near pixel_near
