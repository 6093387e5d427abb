-- From a scan's records to the call's answer: what the selection asks of them, and the length that it gives.
use Rattle.std.proofs.Common.{◌≡◌, ◌∙◌, ap, sym, subst, false, ℕ, List, length, take, arith, T, not}
use Rattle.std.specs.Float.Ieee.{is_nan}
use Rattle.std.specs.Prelude.{Option, Ok, Float}
use Rattle.image.specs.Call.{Gray8, accepts, same, Checks}
use Rattle.image.specs.Refusal.{Laid}
use Rattle.image.proofs.Call.{decided_accepts, accepted_by}
use Rattle.raster.specs.declared.direction.RasterDirection4.{RasterDirection4}
use Rattle.swings.specs.declared.Swing.{Swing}
use Rattle.swings.specs.declared.scan.Scan.{Scan}
use Rattle.swings.specs.declared.scan.Span.{Span}
use Rattle.blur.specs.declared.length.LineLengthConfig.{LineLengthConfig}
use Rattle.blur.specs.declared.select.Pass.{Pass}
use Rattle.swings.specs.Scan.{rest, begun, Filled}
use Rattle.blur.specs.Median.{length_of}
use Rattle.blur.specs.Select.{Widths, started, SelectAsked}
use Rattle.blur.specs.Length.{length_refusal, too_little, length_along, length_decision, scan_plan, LengthMeasured}
use Rattle.blur.proofs.Spans.{span_numbers}
use Rattle.blur.proofs.ScanPlans.{pixels_fit, plan_length_holds, plan_few, plan_widths}

-- a call that is accepted, and what it found
pub measured : (src : Gray8) (d : RasterDirection4) (config : LineLengthConfig) (ys zs : List Swing) (found : Option Float)
    → Checks (length_refusal (length src.bytes) src.width src.height src.stride (length ys)) (Ok (tt {0}))
    → found ≡ length_along src d config → LengthMeasured src d config ys zs (Ok found)
unfolding length_decision
measured src d config ys zs found e f =
    accepted_by (length_along src d config) same (λ _ _ _. Unit {0}) (tt {0}) ys (tt {0}) zs
    (decided_accepts _ _ _ (sym e)).0 (ap accepts f) tt

module _ (src : Gray8) (laid : Laid (length src.bytes) src.width src.height src.stride) (d : RasterDirection4)
    (config : LineLengthConfig) where
  abbrev all : List Swing
  all = rest src (scan_plan src.width src.height src.stride d config.minimum_amplitude) begun

  module _ (s : Scan) (zs : List Swing) (f : Filled src.bytes all zs s) where
    -- the records that the scan wrote
    abbrev written : List Swing
    written = take s.count zs

    front : written ≡ all
    front = ap (λ (k : ℕ). take k zs) f.counted ∙ f.listed

    widths : Widths all
    widths = plan_widths src laid d config f.are

    -- what `opened` asks for
    pub numbers : T (not (is_nan s.span.least)) × T (not (is_nan s.span.greatest))
    numbers = subst (λ (r : Span). T (not (is_nan r.least)) × T (not (is_nan r.greatest))) (sym f.span)
        (span_numbers all widths)

    pub selectable : (p : Pass) → p ≡ started s.strongest s.span s.count → SelectAsked written p
    selectable p q =
        subst (λ (l : List Swing). SelectAsked l p) (sym front)
        (record {
          starts = q ∙ (λ i. started (f.top i) (f.span i) (f.counted i));
          widths = widths;
          few = omega (arith, plan_few src laid d config, pixels_fit laid);
        })

    pub length_is : too_little src.width src.height config ≡ false
        → length_of written config.minimum_transitions ≡ length_along src d config
    length_is e =
        ap (λ (l : List Swing). length_of l config.minimum_transitions) front ∙ plan_length_holds src laid d config e
