-- A drum's strip (document 02, K2: "a row's left end continues its right"): along Horizontal under Wrap it does not
-- matter where the turn begins. Of a picture whose rows are rotated by s places the estimate is the picture's own,
-- rotated likewise, after any number of iterations (`drum_rotated`).
use mathlib.Core.Path.{◌≡◌, sym, ap, ◌∙◌}
use Prim.Native.Nat.{ℕ, ◌+◌, ◌%◌, ◌<◌}
use native.Mathlib.Nat.{mod-lt, sub-zero}
use native.Mathlib.Omega.{arith}
use lib.IntN.{pos}
use Rattle.raster.specs.Border.{border_map}
use Rattle.raster.specs.Lines.{start_col, start_row, line_of}
use Rattle.raster.specs.declared.border.LineBorderMode.TheVariants.{Wrap}
use Rattle.raster.specs.declared.direction.RasterDirection4.TheVariants.{Horizontal}
use Rattle.line.specs.Line.{after}
use Rattle.line.proofs.LineWindow.{border_of_line, after_same}
use Rattle.line.proofs.Wrap.{restored_rotated}
use Rattle.deblur.specs.Picture.{samples, estimate, estimate_on}

-- the picture whose rows are rotated: its column c is column c + s
abbrev pub rows_rotated : ℕ → ℕ → (ℕ → ℕ → ℕ) → ℕ → ℕ → ℕ
rows_rotated w s px c r = px ((c + s) % w) r

module _ (w h : ℕ) (some : 0 < w) (L q n : ℕ) where
  -- the estimate of a row, as a line's
  row-estimate : (px : ℕ → ℕ → ℕ) (c r : ℕ) → c < w
      → estimate px Horizontal w h Wrap L q n c r ≡ after (border_map Wrap w) (λ i. pos (px i r)) q L n c
  unfolding estimate estimate_on start_col start_row line_of
  row-estimate px c r hc =
      ap (λ (l : ℕ). after (border_map Wrap l) (samples px Horizontal w r) q L n c) (sub-zero w)
      ∙ after_same (border_of_line Wrap w some) (samples px Horizontal w r) (λ i. pos (px i r))
      (λ i _. ap (λ (j : ℕ). pos (px j r)) (omega arith)) q L n c hc

  pub drum_rotated : (px : ℕ → ℕ → ℕ) (s c r : ℕ) → c < w
      → estimate (rows_rotated w s px) Horizontal w h Wrap L q n c r
      ≡ estimate px Horizontal w h Wrap L q n ((c + s) % w) r
  drum_rotated px s c r hc =
      row-estimate (rows_rotated w s px) c r hc
      ∙ restored_rotated w some L s (λ i. pos (px i r)) q n c
      ∙ sym (row-estimate px ((c + s) % w) r (mod-lt (c + s) some))
