-- Document 01, "Refusals, first match wins", for the line filters: each number with its condition, in the document's
-- order (of the two that give 8 the factor comes first). What is accepted stands in `Refusal`.
use Rattle.std.specs.Prelude.{ℕ, ◌*◌, ◌%◌, ◌<◌, false, List, [], ◌∷◌, ◌++◌, ◌⊎◌, ◌≡◌, Float}
use Rattle.floats.specs.Factor.{max_relaxation, max_gain, within}
use Rattle.image.specs.Conditions.{Refusal, given, layout_conditions, pair_conditions}
use Rattle.raster.specs.Direction.{NoDirection}
use Rattle.line.specs.Kernel.{max_iterations, max_blur_length}
use Rattle.deblur.specs.declared.VanCittertConfig.{VanCittertConfig}
use Rattle.deblur.specs.declared.DirectionalUnsharpConfig.{DirectionalUnsharpConfig}
use Rattle.deblur.specs.Refusal.{scratch_needed}

-- ---- the settings

-- "blur length is below 3, even, or above 2 × max(width, height) + 1, or the angle is not finite", and document 02, K7:
-- ".. or its value in degrees"
abbrev pub line_conditions : ℕ → ℕ → ℕ → Float → List Refusal
line_conditions width height L angle =
    given 7 (((L < 3) ⊎ (L % 2 ≡ 0)) ⊎ (max_blur_length width height < L))
    ∷ given 7 (NoDirection angle)
    ∷ []

-- "relaxation is not finite or outside 0..1, or gain is not finite or outside 0..8"
abbrev pub factor_conditions : ℕ → Float → List Refusal
factor_conditions limit factor = given 8 (within limit factor ≡ false) ∷ []

-- .. and "iterations are 0"; "iterations exceed 22"
abbrev pub iterated_conditions : Float → ℕ → List Refusal
iterated_conditions relaxation iterations =
    factor_conditions max_relaxation relaxation
    ++ (given 8 (iterations ≡ 0) ∷ given 9 (max_iterations < iterations) ∷ [])

abbrev pub restoration_conditions : ℕ → ℕ → VanCittertConfig → List Refusal
restoration_conditions width height config =
    line_conditions width height config.blur_length config.theta_radians
    ++ iterated_conditions config.relaxation config.iterations

abbrev pub unsharp_conditions : ℕ → ℕ → DirectionalUnsharpConfig → List Refusal
unsharp_conditions width height config =
    line_conditions width height config.blur_length config.theta_radians
    ++ factor_conditions max_gain config.gain

-- ---- the calls, by the conditions of their settings

abbrev pub filter_conditions : ℕ → ℕ → ℕ → ℕ → ℕ → ℕ → ℕ → ℕ → List Refusal → ℕ → List Refusal
filter_conditions len width height stride dst_len dst_width dst_height dst_stride settings scratch_len =
    pair_conditions len width height stride dst_len dst_width dst_height dst_stride
    ++ (settings ++ (given 10 (scratch_len < scratch_needed width height) ∷ []))

abbrev pub estimate_conditions : ℕ → ℕ → ℕ → ℕ → ℕ → List Refusal → ℕ → List Refusal
estimate_conditions len width height stride dst_len settings scratch_len =
    layout_conditions len width height stride
    ++ (settings ++ (given 10 ((dst_len < width * height) ⊎ (scratch_len < scratch_needed width height)) ∷ []))
