-- What is scanned: what a call accepts, and the plan of its picture, whose swings are those of document 01's definition:
-- `plan_length_holds`, `plan_few`, `plan_widths`.
use mathlib.Core.Path.{◌≡◌, ◌∙◌, ap}
use mathlib.Core.Bool.{false, cond, ◌||◌}
use mathlib.Core.List.{List}
use Prim.Native.Nat.{ℕ, ◌-◌, ◌*◌, ◌≤◌, ◌<◌, ◌^◌}
use native.Mathlib.Nat.{le_trans, mul-le-mul_left, mul-le-mul, sub-zero, zero-add}
use native.Mathlib.Omega.{arith}
use lib.Dec.{eqb, ltb}
use lib.IntN.{pos}
use lib.ListN.{length}
use lib.Ieee.{binary64}
use borrow.Author.Tests.{le-ltb, ltb-false}
use Rattle.image.specs.Call.{Gray8}
use Rattle.image.specs.Refusal.{layout_refusal, Laid}
use Rattle.image.proofs.Chain.{first_zero, cond_zero}
use Rattle.image.proofs.Accepted.{laid}
use Rattle.numbers.specs.Sum.{count}
use Rattle.numbers.proofs.Test.{or_false_right}
use Rattle.numbers.proofs.Sum.{count_zero, count_next}
use Rattle.raster.specs.declared.direction.RasterDirection4.{RasterDirection4}
use Rattle.raster.specs.Lines.{line_length}
use Rattle.raster.proofs.Area.{area}
use Rattle.swings.specs.declared.Swing.{Swing}
use Rattle.swings.specs.declared.scan.ScanPlan.{ScanPlan}
use Rattle.blur.specs.declared.length.LineLengthConfig.{LineLengthConfig}
use Rattle.swings.specs.Line.{Lines, lines_of, lines_on, step_pixels}
use Rattle.swings.specs.Swings.{swings, swings_from}
use Rattle.swings.specs.Scan.{swings_at, rest, begun, Bytes}
use Rattle.blur.specs.Median.{length_of}
use Rattle.blur.specs.Select.{Positive, Widths}
use Rattle.blur.specs.Length.{length_refusal, too_little, length_along, scan_plan}
use Rattle.swings.proofs.Count.{picture_count}
use Rattle.floats.proofs.Rounded.{Bounded}
use Rattle.floats.proofs.AboveZero.{AboveZero, positive_bounded}
use Rattle.numbers.proofs.Each.{each_both}
use Rattle.swings.proofs.Thinned.{thinned_few, thinned_each}
use Rattle.swings.proofs.Above.{line_short, picture_above}
use Rattle.swings.proofs.Width.{picture_small}
use Rattle.blur.proofs.Thinned.{thinned_length}

-- ---- what is accepted
module _ (len w h stride lent : ℕ) where
  pub refusal_none : layout_refusal len w h stride ≡ 0 → w * h ≤ lent → length_refusal len w h stride lent ≡ 0
  refusal_none e l = rw (e, le-ltb lent (w * h) l)

  module _ (e : length_refusal len w h stride lent ≡ 0) where
    both : (layout_refusal len w h stride ≡ 0) × (◌≡◌ {A = ℕ} (cond (ltb lent (w * h)) 10 0) 0)
    both = first_zero (layout_refusal len w h stride) (cond (ltb lent (w * h)) 10 0) e

    pub length_laid : Laid len w h stride
    length_laid = laid both.0

    pub enough_lent : w * h ≤ lent
    enough_lent = ltb-false lent (w * h) (cond_zero (ltb lent (w * h)) 10 0 (omega arith) both.1).0

-- width × height fits
pub pixels_fit : {len w h stride : ℕ} → Laid len w h stride → w * h ≤ 1048576
pixels_fit {w = w} {h = h} l = omega (arith, mul-le-mul l.width_most l.height_most)

-- ---- too little
pub high_enough : (w h : ℕ) (config : LineLengthConfig) → too_little w h config ≡ false → 3 ≤ h
high_enough w h config e =
    ltb-false h 3
    (or_false_right (eqb config.minimum_transitions 0 || eqb config.minimum_amplitude 0 || ltb w 3) (ltb h 3) e)

-- ---- the plan
module _ (src : Gray8) (laid : Laid (length src.bytes) src.width src.height src.stride) where
  pub stride_fits : (config : LineLengthConfig) → too_little src.width src.height config ≡ false
      → length src.bytes < 2 ^ 64 → src.stride < 2 ^ 63
  stride_fits config e k =
      let n = high_enough src.width src.height config e in
      let twice : src.stride * 2 ≤ src.stride * (src.height - 1) = mul-le-mul_left src.stride (omega arith) in
      omega (arith, laid.len_least)

  module _ (d : RasterDirection4) (config : LineLengthConfig) where
    abbrev a : ℕ
    a = config.minimum_amplitude

    abbrev plan : ScanPlan
    plan = scan_plan src.width src.height src.stride d a

    abbrev lines : Lines
    lines = lines_of src.bytes d src.width src.height src.stride

    -- its swings
    abbrev all : List Swing
    all = swings_at plan.minimum_amplitude plan.pixel (lines_on src plan) begun.place

    plan-swings : all ≡ swings a (step_pixels d) lines
    plan-swings = ap (swings_from a (step_pixels d) lines 0 0) (sub-zero lines.count)

    pub plan_length_holds : too_little src.width src.height config ≡ false
        → length_of (rest src plan begun) config.minimum_transitions ≡ length_along src d config
    plan_length_holds e =
        thinned_length all config.minimum_transitions
        ∙ ap (λ (l : List Swing). length_of l config.minimum_transitions) plan-swings
        ∙ rw e

    -- no more than there are pixels, and thus than there are records
    pub plan_few : length (rest src plan begun) ≤ src.width * src.height
    plan_few = le_trans (thinned_few (pos 0) all) (rw plan-swings few)
      where
        few : length (swings a (step_pixels d) lines) ≤ src.width * src.height
        few =
            let n = picture_count a (step_pixels d) lines (count (line_length d src.width src.height))
            (λ k. omega (arith, count_next (line_length d src.width src.height) k)) 0 0 lines.count in
            omega (
              arith,
              n,
              count_zero (line_length d src.width src.height),
              area d src.width src.height laid.width_pos laid.height_pos,
              ap
                  (count (line_length d src.width src.height)) (zero-add lines.count),
            )

    -- widths as the selection takes them
    pub plan_widths : Bytes src.bytes → Widths (rest src plan begun)
    plan_widths are =
        thinned_each (λ (s : Swing). Positive binary64 s.width) (pos 0) all
        (each_both (λ (s : Swing). AboveZero s.width) (λ (s : Swing). Bounded 7156 s.width)
        (λ (s : Swing). Positive binary64 s.width)
        (λ s e small. record { above = positive_bounded 7156 s.width e.above small; holds = e.holds }) all
        (picture_above a plan.count src.bytes d src.width src.height src.stride 0 0 (plan.count - 0))
        (picture_small a d lines (λ k j. are _)
        (λ k. omega (arith, line_short d src.width src.height k, laid.width_most, laid.height_most)) 0 0
        (plan.count - 0)))
