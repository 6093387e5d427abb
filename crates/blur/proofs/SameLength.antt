-- The length depends on the pixels alone: not on the stride, nor on bytes between the rows or behind the last one, nor
-- on old records (`length_same`, `snapped_same`, `measured_same`).
use mathlib.Core.List.{List}
use mathlib.Core.Path.{◌≡◌, refl, ap}
use mathlib.Core.Bool.{cond}
use Prim.Native.Nat.{ℕ}
use native.Mathlib.Omega.{arith}
use lib.ListN.{length}
use Rattle.std.specs.Prelude.{Option, Some, None, Result, Float}
use Rattle.image.specs.declared.refusal.Refusal.{Refusal}
use Rattle.image.specs.Call.{Gray8, refuses}
use Rattle.image.specs.Refusal.{first_refusal}
use Rattle.image.specs.Same.{SamePicture}
use Rattle.image.proofs.Same.{layout_same, answers_alike}
use Rattle.image.proofs.Told.{told_one}
use Rattle.raster.specs.declared.direction.RasterDirection4.{RasterDirection4}
use Rattle.raster.specs.Lines.{line_count, col_at, row_at}
use Rattle.raster.proofs.Place.{one_line}
use Rattle.swings.specs.declared.Swing.{Swing}
use Rattle.blur.specs.declared.length.LineLengthConfig.{LineLengthConfig}
use Rattle.swings.specs.Line.{lines_of, step_pixels}
use Rattle.blur.specs.Median.{length_of}
use Rattle.blur.specs.Length.{too_little, length_along, length_decision, snapped_decision, SnappedMeasured}
use Rattle.swings.proofs.SameSwings.{swings_same}

module _ {a b : Gray8} (same : SamePicture a b) (config : LineLengthConfig) where
  module _ (d : RasterDirection4) where
    pub along_same : length_along a d config ≡ length_along b d config
    along_same =
        let w = a.width in
        let h = a.height in
        rw (← same.same_width, ← same.same_height)
        (ap (λ (ss : List Swing). cond {A = Option Float} (too_little w h config) None
        (length_of ss config.minimum_transitions))
        (swings_same config.minimum_amplitude (step_pixels d) (lines_of a.bytes d w h a.stride)
        (lines_of b.bytes d w h b.stride) (λ _. refl) 0 0 (line_count d w h)
        (λ j i below within. let at = (one_line d w h same.laid.width_pos).of_place j i (omega arith) within in
        same.same_pixels (col_at d w j i) (row_at d w j i) at.col at.row)))

    pub length_same : {lent lent' : ℕ} → lent ≡ lent'
        → length_decision a d config lent ≡ length_decision b d config lent'
    unfolding length_decision
    length_same e = rw (e, along_same, layout_same same, same.same_width, same.same_height)

  pub snapped_same : (s : Option RasterDirection4) {lent lent' : ℕ} → lent ≡ lent'
      → snapped_decision a s config lent ≡ snapped_decision b s config lent'
  snapped_same (Some d) e = length_same d e
  snapped_same None e = ap (λ (n : ℕ). refuses (first_refusal n 7)) (layout_same same)

  -- whatever the old records hold
  pub measured_same : (s : Option RasterDirection4) {swings swings₁ swings' swings₁' : List Swing}
      {answer answer' : Result (Option Float) Refusal} → length swings ≡ length swings'
      → SnappedMeasured a s config swings swings₁ answer → SnappedMeasured b s config swings' swings₁' answer'
      → answer ≡ answer'
  measured_same s {answer = answer} {answer'} e o o' =
      told_one answer answer' (answers_alike (snapped_same s e) o o')
