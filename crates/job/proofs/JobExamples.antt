-- Plans of small pictures. Document 01's ramp (three equal rows, "Length") has the direction Vertical, along which
-- nothing changes: refusal 11. A picture whose columns are such ramps and whose rows differ more has the direction
-- Vertical too, the estimate 5.0 and the blur length 5, and so has its inverse.
use mathlib.Core.List.{List, [], ◌∷◌, ◌++◌}
use mathlib.Core.Path.{◌≡◌, refl}
use Prim.Native.Nat.{ℕ}
use lib.Ieee.{binary64, of_bits, of_int, add, sub, mul, div, le, lt, eq}
use lib.ListN.{length}
use Rattle.numbers.specs.Sum.{total}
use Rattle.floats.specs.Factor.{within}
use Rattle.deblur.specs.Refusal.{factor_refusal, iterations_refusal}
use Rattle.floats.specs.Odd.{odd_of, odd_length}
use Rattle.image.specs.Call.{gray8, accepts, refuses}
use Rattle.image.specs.Refusal.{layout_refusal, pair_refusal}
use Rattle.raster.specs.Lines.{start_col, start_row}
use Rattle.raster.specs.declared.border.LineBorderMode.TheVariants.{Replicate}
use Rattle.raster.specs.declared.direction.RasterDirection4.TheVariants.{Vertical}
use Rattle.swings.specs.Rise.{level_of, crossed_at, place_at, crossing_of, rise_between, rise_of}
use Rattle.swings.specs.Runs.{runs_from, runs_after}
use Rattle.swings.specs.Swings.{swings_of, line_swings, swings_from}
use Rattle.tensor.specs.Confidence.{passes}
use Rattle.tensor.specs.Tensor.{gradient_x, gradient_y, row_sum, interior_sum, tensor_sums, tensor_direction, estimate_of}
use Rattle.job.specs.declared.JobResult.{JobResult}
use Rattle.job.specs.Floor.{with_floor}
use Rattle.job.specs.Job.{layout, Job, job_refusal, start_refusal, picture_direction, job_direction, plan}

-- a picture without padding into one like it, one iteration of relaxation 1, with thresholds 3 and 24 and the scratch
-- that is asked
abbrev tight : List ℕ → ℕ → ℕ → Job
tight source width height =
    record {
      source = gray8 source width height width;
      destination = layout (length source) width height width;
      config =
          record {
            minimum_transitions = 3;
            minimum_amplitude = 24;
            minimum_confidence = 0;
            iterations = 1;
            relaxation = of_bits binary64 0x3ff0_0000_0000_0000;
            border = Replicate;
          };
      scratch_len = 30;
      swings_len = 30;
    }

unfoldable pub row : List ℕ
row = 0 ∷ 0 ∷ 0 ∷ 50 ∷ 100 ∷ 150 ∷ 200 ∷ 250 ∷ 250 ∷ 250 ∷ []

unfoldable pub ramp : Job
unfolding row
ramp = tight (row ++ (row ++ row)) 10 3

ramp_vertical : job_direction ramp ≡ Vertical
unfolding ramp row picture_direction estimate_of tensor_sums tensor_direction interior_sum row_sum gradient_x gradient_y total
ramp_vertical = refl

ramp_refused : plan ramp ≡ refuses 11
unfolding ramp row plan start_refusal passes job_refusal pair_refusal layout_refusal factor_refusal iterations_refusal within
    picture_direction estimate_of tensor_sums tensor_direction interior_sum row_sum gradient_x gradient_y total start_col
    start_row swings_from line_swings swings_of runs_after runs_from rise_of of_bits
ramp_refused = refl

-- document 02, K6: it has one direction alone, so that the highest floor goes on to 11; no floor is above that
ramp_256 : plan (with_floor 256 ramp) ≡ refuses 11
unfolding ramp row plan start_refusal passes job_refusal pair_refusal layout_refusal factor_refusal iterations_refusal within
    picture_direction estimate_of tensor_sums tensor_direction interior_sum row_sum gradient_x gradient_y total start_col
    start_row swings_from line_swings swings_of runs_after runs_from rise_of of_bits
ramp_256 = refl

ramp_257 : plan (with_floor 257 ramp) ≡ refuses 17
unfolding ramp row plan start_refusal passes job_refusal pair_refusal layout_refusal factor_refusal iterations_refusal within
    estimate_of tensor_sums tensor_direction interior_sum row_sum gradient_x gradient_y total of_bits
ramp_257 = refl

-- 3 by 10: from row to row as the ramp by 10, from column to column by 100
unfoldable pub columns : Job
columns =
    tight
    (0 ∷ 100 ∷ 200 ∷ 0 ∷ 100 ∷ 200 ∷ 0 ∷ 100 ∷ 200 ∷ 10 ∷ 110 ∷ 210 ∷ 20 ∷ 120 ∷ 220
    ∷ 30 ∷ 130 ∷ 230 ∷ 40 ∷ 140 ∷ 240 ∷ 50 ∷ 150 ∷ 250 ∷ 50 ∷ 150 ∷ 250 ∷ 50 ∷ 150 ∷ 250 ∷ [])
    3
    10

-- each of its bytes b as 250 − b
unfoldable pub inverted : Job
inverted =
    tight
    (250 ∷ 150 ∷ 50 ∷ 250 ∷ 150 ∷ 50 ∷ 250 ∷ 150 ∷ 50 ∷ 240 ∷ 140 ∷ 40 ∷ 230 ∷ 130 ∷ 30
    ∷ 220 ∷ 120 ∷ 20 ∷ 210 ∷ 110 ∷ 10 ∷ 200 ∷ 100 ∷ 0 ∷ 200 ∷ 100 ∷ 0 ∷ 200 ∷ 100 ∷ 0 ∷ [])
    3
    10

-- the estimate is 5.0
unfoldable pub vertical_5 : JobResult
vertical_5 = record { direction = Vertical; blur_length = 5; estimate = of_bits binary64 0x4014_0000_0000_0000 }

pub runs : (plan columns ≡ accepts vertical_5) × (plan inverted ≡ accepts vertical_5)
unfolding columns inverted vertical_5 plan start_refusal passes job_refusal pair_refusal layout_refusal factor_refusal
    iterations_refusal within picture_direction estimate_of tensor_sums tensor_direction interior_sum row_sum gradient_x
    gradient_y total start_col start_row swings_from line_swings swings_of runs_after runs_from rise_of level_of crossed_at place_at
    crossing_of rise_between odd_of odd_length of_bits of_int add sub mul div le lt eq
runs = (refl, refl)

-- A, C, E = 5120000, 320000, 28800: (512 − 255)² × (D² + 4C²) ≥ 255² × (A + E)², and not for 256
floors : (plan (with_floor 255 columns) ≡ accepts vertical_5) × (plan (with_floor 256 columns) ≡ refuses 17)
unfolding columns vertical_5 plan start_refusal passes job_refusal pair_refusal layout_refusal factor_refusal
    iterations_refusal within picture_direction estimate_of tensor_sums tensor_direction interior_sum row_sum gradient_x
    gradient_y total start_col start_row swings_from line_swings swings_of runs_after runs_from rise_of level_of crossed_at place_at
    crossing_of rise_between odd_of odd_length of_bits of_int add sub mul div le lt eq
floors = (refl, refl)
