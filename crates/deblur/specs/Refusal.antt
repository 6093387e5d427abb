-- Document 01, "Refusals, first match wins", for the line filters: a test for each number, which is 0 where nothing is
-- refused, and the tests in the document's order.
use Rattle.std.specs.Prelude.{ℕ, ◌*◌, ◌%◌, ◌≤◌, max, Bool, true, not, cond, ◌||◌, ◌≡◌, eqb, ltb, Float, is_some}
use Rattle.floats.specs.Factor.{max_relaxation, max_gain, within}
use Rattle.image.specs.Refusal.{layout_refusal, pair_refusal, first_refusal, Laid, LaidPair}
use Rattle.raster.specs.Direction.{from_angle, angle_refusal}
use Rattle.line.specs.Kernel.{max_iterations, max_blur_length}
use Rattle.deblur.specs.declared.VanCittertConfig.{VanCittertConfig}
use Rattle.deblur.specs.declared.DirectionalUnsharpConfig.{DirectionalUnsharpConfig}

-- how many i32 a line filter asks as scratch (document 02, K5: "3 × max(width, height) i32 has to suffice")
abbrev pub scratch_needed : ℕ → ℕ → ℕ
scratch_needed width height = 3 * max width height

-- ---- the settings

-- 7 blur length is below 3, even, or above 2 × max(width, height) + 1
unfoldable pub blur_length_refusal : ℕ → ℕ → ℕ → ℕ
blur_length_refusal width height L = cond (ltb L 3 || eqb (L % 2) 0 || ltb (max_blur_length width height) L) 7 0

-- 8 relaxation, or gain, is not finite or outside 0..limit
unfoldable pub factor_refusal : ℕ → Float → ℕ
factor_refusal limit factor = cond (not (within limit factor)) 8 0

-- 8 iterations are 0; 9 iterations exceed 22
unfoldable pub iterations_refusal : ℕ → ℕ
iterations_refusal iterations = cond (eqb iterations 0) 8 (cond (ltb max_iterations iterations) 9 0)

-- 8 and 9 of an iterated restoration
abbrev pub iterated_refusal : Float → ℕ → ℕ
iterated_refusal relaxation iterations =
    first_refusal (factor_refusal max_relaxation relaxation) (iterations_refusal iterations)

-- 7 of a filter along lines: the blur length, or an angle without a direction (document 02, K7)
abbrev pub line_refusal : ℕ → ℕ → ℕ → Float → ℕ
line_refusal width height L angle = first_refusal (blur_length_refusal width height L) (angle_refusal (from_angle angle))

-- 7 to 9 of the restoration
abbrev pub restoration_refusal : ℕ → ℕ → VanCittertConfig → ℕ
restoration_refusal width height config =
    first_refusal (line_refusal width height config.blur_length config.theta_radians)
    (iterated_refusal config.relaxation config.iterations)

-- 7 and 8 of the line unsharp
abbrev pub unsharp_refusal : ℕ → ℕ → DirectionalUnsharpConfig → ℕ
unsharp_refusal width height config =
    first_refusal (line_refusal width height config.blur_length config.theta_radians)
    (factor_refusal max_gain config.gain)

-- ---- the calls

-- scratch is too short
abbrev pub scratch_short : ℕ → ℕ → ℕ → Bool
scratch_short width height scratch_len = ltb scratch_len (scratch_needed width height)

-- 10 what is lent is too short
abbrev pub lent_refusal : Bool → ℕ
lent_refusal short = cond short 10 0

-- in document 01's order
abbrev pub in_order : ℕ → ℕ → Bool → ℕ
in_order pictures settings short = first_refusal pictures (first_refusal settings (lent_refusal short))

-- restoration and line unsharp, whose destination is a picture, by the refusal of their settings
unfoldable pub filter_refusal : ℕ → ℕ → ℕ → ℕ → ℕ → ℕ → ℕ → ℕ → ℕ → ℕ → ℕ
filter_refusal len width height stride dst_len dst_width dst_height dst_stride settings scratch_len =
    in_order (pair_refusal len width height stride dst_len dst_width dst_height dst_stride) settings
    (scratch_short width height scratch_len)

-- the estimate call, whose destination has no layout: 10 too where it is shorter than width × height
unfoldable pub estimate_refusal : ℕ → ℕ → ℕ → ℕ → ℕ → ℕ → ℕ → ℕ
estimate_refusal len width height stride dst_len settings scratch_len =
    in_order (layout_refusal len width height stride) settings
    (ltb dst_len (width * height) || scratch_short width height scratch_len)

-- ---- what is accepted

-- `blur_length_refusal` is 0 exactly there.
pub record LengthTaken (width height L : ℕ) : Type 0 where
  pub least : 3 ≤ L
  pub odd : L % 2 ≡ 1
  pub most : L ≤ max_blur_length width height

-- `iterations_refusal` is 0 exactly there.
pub record IterationsTaken (iterations : ℕ) : Type 0 where
  pub least : 1 ≤ iterations
  pub most : iterations ≤ max_iterations

-- `restoration_refusal` is 0 exactly there.
pub record RestorationTaken (width height : ℕ) (config : VanCittertConfig) : Type 0 where
  pub length_taken : LengthTaken width height config.blur_length
  pub direction_found : is_some (from_angle config.theta_radians) ≡ true
  pub relaxation_taken : within max_relaxation config.relaxation ≡ true
  pub iterations_taken : IterationsTaken config.iterations

-- `unsharp_refusal` is 0 exactly there.
pub record UnsharpTaken (width height : ℕ) (config : DirectionalUnsharpConfig) : Type 0 where
  pub length_taken : LengthTaken width height config.blur_length
  pub direction_found : is_some (from_angle config.theta_radians) ≡ true
  pub gain_taken : within max_gain config.gain ≡ true

-- An accepted restoration or line unsharp: `filter_refusal` is 0 exactly there.
pub record FilterAccepted (len width height stride dst_len dst_width dst_height dst_stride settings scratch_len : ℕ) : Type 0
  where
    pub pictures : LaidPair len width height stride dst_len dst_width dst_height dst_stride
    pub settings_taken : settings ≡ 0
    pub scratch_least : scratch_needed width height ≤ scratch_len

-- An accepted estimate call: `estimate_refusal` is 0 exactly there.
pub record EstimateAccepted (len width height stride dst_len settings scratch_len : ℕ) : Type 0 where
  pub picture : Laid len width height stride
  pub settings_taken : settings ≡ 0
  pub dst_least : width * height ≤ dst_len
  pub scratch_least : scratch_needed width height ≤ scratch_len
