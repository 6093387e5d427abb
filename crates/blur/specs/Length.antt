-- The length of a smear (document 01, Length, and its refusals), by the caller's picture, direction and thresholds.
use Rattle.std.specs.Prelude.{Bool, cond, ◌||◌, List, ℕ, ◌*◌, eqb, ltb, length, Option, None, Some, Result, Float}
use Rattle.image.specs.Call.{Gray8, Decision, refuses, decided, told, same, Outcome}
use Rattle.image.specs.declared.refusal.Refusal.{Refusal}
use Rattle.image.specs.Refusal.{layout_refusal, first_refusal}
use Rattle.raster.specs.declared.direction.RasterDirection4.{RasterDirection4}
use Rattle.raster.specs.Lines.{line_count, place_step}
use Rattle.swings.specs.declared.Swing.{Swing}
use Rattle.swings.specs.declared.scan.ScanPlan.{ScanPlan}
use Rattle.blur.specs.declared.length.LineLengthConfig.{LineLengthConfig}
use Rattle.swings.specs.Line.{lines_of, step_pixels}
use Rattle.swings.specs.Swings.{swings}
use Rattle.blur.specs.Median.{length_of}

-- how many swings there must be, and how strong the least of them
abbrev pub thresholds : ℕ → ℕ → LineLengthConfig
thresholds transitions amplitude = record { minimum_transitions = transitions; minimum_amplitude = amplitude }

-- "The default thresholds are 8 and 24."
abbrev pub defaults : LineLengthConfig
defaults = thresholds 8 24

-- 1 to 4 of the layout; 10 fewer than width × height records are lent; 0 none
abbrev pub length_refusal : ℕ → ℕ → ℕ → ℕ → ℕ → ℕ
length_refusal len w h stride lent = first_refusal (layout_refusal len w h stride) (cond (ltb lent (w * h)) 10 0)

-- "Nothing if a threshold is 0 or a side is below 3."
abbrev pub too_little : ℕ → ℕ → LineLengthConfig → Bool
too_little w h config = eqb config.minimum_transitions 0 || eqb config.minimum_amplitude 0 || ltb w 3 || ltb h 3

-- the length along a direction
abbrev pub length_along : Gray8 → RasterDirection4 → LineLengthConfig → Option Float
length_along src d config =
    cond (too_little src.width src.height config) None
    (length_of (swings config.minimum_amplitude (step_pixels d) (lines_of src.bytes d src.width src.height src.stride))
    config.minimum_transitions)

-- the length, or the refusal where `lent` records are lent
unfoldable pub length_decision : Gray8 → RasterDirection4 → LineLengthConfig → ℕ → Decision (Option Float)
length_decision src d config lent =
    decided (length_refusal (length src.bytes) src.width src.height src.stride lent) (length_along src d config)

-- A call has no destination; its scratch is the records.
abbrev pub LengthMeasured : Gray8 → RasterDirection4 → LineLengthConfig → List Swing → List Swing
    → Result (Option Float) Refusal → Type 0
LengthMeasured src d config swings swings' answer =
    Outcome (length_decision src d config (length swings)) same (λ _ _ _. Unit {0}) (tt {0}) (tt {0}) swings swings'
    (told answer)

-- ---- the length along the direction of an angle (document 02, K7: "Length estimates .. meet the new answer and give 7
-- in its usual place")

-- 1 to 4 of the layout, then 7, where there is no direction
abbrev pub undirected_refusal : ℕ → ℕ → ℕ → ℕ → ℕ
undirected_refusal len w h stride = first_refusal (layout_refusal len w h stride) 7

abbrev pub snapped_decision : Gray8 → Option RasterDirection4 → LineLengthConfig → ℕ → Decision (Option Float)
snapped_decision src (Some d) config lent = length_decision src d config lent
snapped_decision src None config lent =
    refuses (undirected_refusal (length src.bytes) src.width src.height src.stride)

abbrev pub SnappedMeasured : Gray8 → Option RasterDirection4 → LineLengthConfig → List Swing → List Swing
    → Result (Option Float) Refusal → Type 0
SnappedMeasured src s config swings swings' answer =
    Outcome (snapped_decision src s config (length swings)) same (λ _ _ _. Unit {0}) (tt {0}) (tt {0}) swings swings'
    (told answer)

-- ---- what is scanned: all lines of a direction
abbrev pub scan_plan : ℕ → ℕ → ℕ → RasterDirection4 → ℕ → ScanPlan
scan_plan w h stride d amplitude = record {
  direction = d;
  count = line_count d w h;
  step = place_step d stride;
  pixel = step_pixels d;
  minimum_amplitude = amplitude;
}
