-- What the lines of a picture are for its estimates: the samples of line k as bytes; the estimate at a
-- pixel by its line and its place there; a destination written line by line (`lines_step`).
use mathlib.Core.Path.{◌≡◌, refl, sym, ap, ◌∙◌, subst}
use mathlib.Core.Bool.{true}
use mathlib.Core.List.{List}
use Prim.Native.Nat.{ℕ, ◌+◌, ◌-◌, ◌*◌, ◌/◌, ◌%◌, ◌≤◌, ◌<◌}
use lib.IntN.{ℤ, pos}
use lib.ListN.{get_or}
use Rattle.numbers.specs.Written.{Written, comb}
use Rattle.numbers.proofs.Places.{pixels_iff}
use Rattle.numbers.proofs.Written.{written_join, written_same}
use Rattle.image.specs.Picture.{pixel}
use Rattle.raster.specs.Border.{border_map}
use Rattle.raster.specs.Lines.{line_count, line_length, line_of, place_of, place_step}
use Rattle.raster.specs.declared.border.LineBorderMode.{LineBorderMode}
use Rattle.raster.specs.declared.direction.RasterDirection4.{RasterDirection4}
use Rattle.raster.proofs.Place.{one_line, byte_at}
use Rattle.raster.proofs.Scatter.{start_byte, lines_below, line_pixels_iff, line_comb, lines_next, comb_place}
use Rattle.line.specs.Line.{after}
use Rattle.deblur.specs.Picture.{samples, estimate_on, estimate}

-- ---- the samples of line k

pub samples_byte : (src : List ℕ) (d : RasterDirection4) (w h stride k i : ℕ) → 1 ≤ stride → i < line_length d w h k
    → samples (pixel src stride) d w k i ≡ pos (get_or src (start_byte d w stride k + i * place_step d stride) 0)
samples_byte src d w h stride k i hs hi = ap (λ (j : ℕ). pos (get_or src j 0)) (byte_at d w h stride k i hs hi)

-- ---- the estimate at a pixel

module _ (px : ℕ → ℕ → ℕ) (d : RasterDirection4) (w h : ℕ) (border : LineBorderMode) (L q n : ℕ) where
  pub estimate_on_holds : (k p : ℕ) → estimate_on px d w h border L q n k p
      ≡ after (border_map border (line_length d w h k)) (samples px d w k) q L n p
  unfolding estimate_on
  estimate_on_holds k p = refl

  pub estimate_is : (c r : ℕ) → estimate px d w h border L q n c r
      ≡ estimate_on px d w h border L q n (line_of d w c r) (place_of d w c r)
  unfolding estimate
  estimate_is c r = refl

  -- ---- one line more of a destination: g of the line's last estimate y, at each of its places

  pub lines_step : {A : Type 0} {z : A} {old mid new : List A} (g : ℤ → A) (y : ℕ → ℤ) (stride k : ℕ) → 1 ≤ w
      → w ≤ stride → k < line_count d w h
      → ((p : ℕ) → p < line_length d w h k → y p ≡ estimate_on px d w h border L q n k p)
      → Written z (lines_below d w h stride k) (λ j. g (estimate px d w h border L q n (j % stride) (j / stride))) old
      mid
      → Written z (comb (start_byte d w stride k) (place_step d stride) (line_length d w h k))
      (λ j. g (y ((j - start_byte d w stride k) / place_step d stride))) mid new
      → Written z (lines_below d w h stride (k + 1)) (λ j. g (estimate px d w h border L q n (j % stride) (j / stride)))
      old new
  lines_step g y stride k hw hs hk e W S =
      written_join W (written_same S (λ j _. refl) (λ j _ t. ap g (same j t))) (lines_next d w h stride hw hs k hk)
    where
      same : (j : ℕ) → comb (start_byte d w stride k) (place_step d stride) (line_length d w h k) j ≡ true
          → y ((j - start_byte d w stride k) / place_step d stride)
          ≡ estimate px d w h border L q n (j % stride) (j / stride)
      same j t =
          let c = j % stride in
          let r = j / stride in
          let o = (line_pixels_iff d w h stride k j).0 (sym (line_comb d w h stride hw hs k hk j) ∙ t) in
          let b = (pixels_iff w h stride j).0 o.0 in
          let p : place_of d w c r < line_length d w h k =
          subst (λ (l : ℕ). place_of d w c r < line_length d w h l) o.1
          ((one_line d w h hw).of_pixel c r b.0 b.1).place
          in
          ap y (comb_place d w h stride hw hs k hk j t)
          ∙ e (place_of d w c r) p
          ∙ ap (λ (l : ℕ). estimate_on px d w h border L q n l (place_of d w c r)) (sym o.1)
          ∙ sym (estimate_is c r)
