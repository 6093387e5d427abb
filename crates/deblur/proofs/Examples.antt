-- Document 01's cases of the restoration, the line unsharp and refusals 7 to 10, and a diagonal that wraps.
use mathlib.Core.Path.{◌≡◌, refl}
use mathlib.Core.List.{List, [], ◌∷◌, map}
use Prim.Native.Nat.{ℕ}
use lib.IntN.{ℤ, pos, negsuc}
use lib.Ieee.{binary64, of_bits, mul}
use lib.ListN.{replicate}
use Rattle.numbers.specs.Scalar.{clamp_byte}
use Rattle.numbers.specs.Sum.{total}
use Rattle.floats.specs.Factor.{within}
use Rattle.image.specs.Call.{Gray8, gray8}
use Rattle.image.specs.Refusal.{layout_refusal, pair_refusal}
use Rattle.image.specs.Picture.{pixel}
use Rattle.raster.specs.Border.{border_map}
use Rattle.raster.specs.Direction.{from_angle}
use Rattle.raster.specs.Lines.{start_col, start_row, line_of}
use Rattle.raster.specs.declared.border.LineBorderMode.TheVariants.{Replicate, Constant, Wrap}
use Rattle.raster.specs.declared.direction.RasterDirection4.TheVariants.{Horizontal, DownRight, DownLeft}
use Rattle.line.specs.Iteration.{mean, stepped, after}
use Rattle.line.specs.Line.{sample, window}
use Rattle.deblur.specs.declared.DirectionalUnsharpConfig.{DirectionalUnsharpConfig}
use Rattle.deblur.specs.declared.VanCittertConfig.{VanCittertConfig}
use Rattle.deblur.specs.Before.{filter_number_before}
use Rattle.deblur.specs.Calls.{filter_number}
use Rattle.deblur.specs.Picture.{estimate, estimate_on}
use Rattle.deblur.specs.Refusal.{blur_length_refusal, factor_refusal, iterations_refusal}
use Rattle.deblur.specs.Refusal.{restoration_refusal, unsharp_refusal, filter_refusal, estimate_refusal}
use Rattle.deblur.specs.Settings.{van_cittert_default, restoration_of}

-- ---- "Restoration and line unsharp": row 10 10 40 10 10, L = 3, Replicate, Horizontal

row : List ℕ
row = 10 ∷ 10 ∷ 40 ∷ 10 ∷ 10 ∷ []

-- the row's estimates after n iterations with q
estimates : ℕ → ℕ → List ℤ
unfolding estimate row
estimates q n = map (λ c. estimate (pixel row 5) Horizontal 5 1 Replicate 3 q n c 0) (0 ∷ 1 ∷ 2 ∷ 3 ∷ 4 ∷ [])

-- relaxation 1
one : map clamp_byte (estimates 65536 1) ≡ 10 ∷ 0 ∷ 60 ∷ 0 ∷ 10 ∷ []
unfolding estimates estimate estimate_on after stepped mean window sample border_map total row start_col start_row line_of
one = refl

two : estimates 65536 2 ≡ pos 14 ∷ negsuc 12 ∷ pos 80 ∷ negsuc 12 ∷ pos 14 ∷ []
unfolding estimates estimate estimate_on after stepped mean window sample border_map total row start_col start_row line_of
two = refl

two_cut : map clamp_byte (estimates 65536 2) ≡ 14 ∷ 0 ∷ 80 ∷ 0 ∷ 14 ∷ []
unfolding estimates estimate estimate_on after stepped mean window sample border_map total row start_col start_row line_of
two_cut = refl

-- gain 1.5
unsharp : map clamp_byte (estimates 98304 1) ≡ 10 ∷ 0 ∷ 70 ∷ 0 ∷ 10 ∷ []
unfolding estimates estimate estimate_on after stepped mean window sample border_map total row start_col start_row line_of
unsharp = refl

-- the diagonal 2 3 of the picture 1 2 over 3 4, outside which stands 9: 3 + (3 − (2 + 3 + 9) / 3)
square : List ℕ
square = 1 ∷ 2 ∷ 3 ∷ 4 ∷ []

diagonal : estimate (pixel square 2) DownLeft 2 2 (Constant 9) 3 65536 1 0 1 ≡ pos 2
unfolding estimate estimate_on after stepped mean window sample border_map total square start_col start_row line_of
diagonal = refl

-- 0 30 0 over 0 0 0, along the diagonal from (1, 0), whose start is repeated: 30 + (30 − (30 + 30 + 0) / 3). "Clamping
-- column and row separately" would take (0, 0) before the start, and give 50.
corner : List ℕ
corner = 0 ∷ 30 ∷ 0 ∷ 0 ∷ 0 ∷ 0 ∷ []

diagonal_start : estimate (pixel corner 3) DownRight 3 2 Replicate 3 65536 1 1 0 ≡ pos 40
unfolding estimate estimate_on after stepped mean window sample border_map total corner start_col start_row line_of
diagonal_start = refl

-- 12 30 0 over 60 0 9, along the same diagonal under Wrap (document 02, K2), which goes on at its own other end:
-- 30 + (30 − (9 + 30 + 9) / 3). On a torus (0, 1) would stand before the start, and give 27.
tile : List ℕ
tile = 12 ∷ 30 ∷ 0 ∷ 60 ∷ 0 ∷ 9 ∷ []

diagonal_wrap : estimate (pixel tile 3) DownRight 3 2 Wrap 3 65536 1 1 0 ≡ pos 44
unfolding estimate estimate_on after stepped mean window sample border_map total tile start_col start_row line_of
diagonal_wrap = refl

-- ---- "Refusals"

-- by the bits of the angle and of the relaxation
restoring : ℕ → ℕ → ℕ → ℕ → VanCittertConfig
restoring angle length iterations relaxation =
    record {
      theta_radians = of_bits binary64 angle;
      blur_length = length;
      iterations = iterations;
      relaxation = of_bits binary64 relaxation;
      border = Replicate;
    }

-- angle 0.0, relaxation 1.0
plain : ℕ → ℕ → ℕ
unfolding restoring
plain length iterations = restoration_refusal 5 1 (restoring 0 length iterations 0x3ff0_0000_0000_0000)

-- on 5 by 1, length 11 is accepted, 13 gives 7
lengths : map (λ (length : ℕ). plain length 3) (1 ∷ 2 ∷ 3 ∷ 4 ∷ 11 ∷ 12 ∷ 13 ∷ []) ≡ 7 ∷ 7 ∷ 0 ∷ 7 ∷ 0 ∷ 7 ∷ 7 ∷ []
unfolding plain restoring blur_length_refusal from_angle factor_refusal iterations_refusal within of_bits mul
lengths = refl

-- the last angle with a direction, the next double, the largest, infinity, not a number (document 02, K7)
angles :
    map (λ (angle : ℕ). restoration_refusal 5 1 (restoring angle 3 3 0))
    (0x7f91_df46_a252_9d38
    ∷ 0x7f91_df46_a252_9d39
    ∷ 0x7fef_ffff_ffff_ffff
    ∷ 0x7ff0_0000_0000_0000
    ∷ 0x7ff8_0000_0000_0000
    ∷ [])
    ≡ 0 ∷ 7 ∷ 7 ∷ 7 ∷ 7 ∷ []
unfolding restoring blur_length_refusal from_angle factor_refusal iterations_refusal within of_bits mul
angles = refl

-- 7 of the angle stands before 8
angle_first : restoration_refusal 5 1 (restoring 0x7f91_df46_a252_9d39 3 0 0x7ff8_0000_0000_0000) ≡ 7
unfolding restoring blur_length_refusal from_angle factor_refusal iterations_refusal within of_bits mul
angle_first = refl

-- relaxation −0.0, 1.0, the next double above it, not a number
relaxations :
    map (λ (relaxation : ℕ). restoration_refusal 5 1 (restoring 0 3 3 relaxation))
    (0x8000_0000_0000_0000 ∷ 0x3ff0_0000_0000_0000 ∷ 0x3ff0_0000_0000_0001 ∷ 0x7ff8_0000_0000_0000 ∷ [])
    ≡ 0 ∷ 0 ∷ 8 ∷ 8 ∷ []
unfolding restoring blur_length_refusal from_angle factor_refusal iterations_refusal within of_bits mul
relaxations = refl

-- gain 8.0 and the next
sharpening : ℕ → DirectionalUnsharpConfig
sharpening gain =
    record { theta_radians = of_bits binary64 0; blur_length = 3; gain = of_bits binary64 gain; border = Replicate }

gains : map (λ (gain : ℕ). unsharp_refusal 5 1 (sharpening gain)) (0x4020_0000_0000_0000 ∷ 0x4020_0000_0000_0001 ∷ [])
    ≡ 0 ∷ 8 ∷ []
unfolding sharpening blur_length_refusal from_angle factor_refusal within of_bits mul
gains = refl

-- 22 iterations are accepted, 23 give 9
iteration_limits : map (plain 3) (0 ∷ 1 ∷ 22 ∷ 23 ∷ []) ≡ 8 ∷ 0 ∷ 0 ∷ 9 ∷ []
unfolding plain restoring blur_length_refusal from_angle factor_refusal iterations_refusal within of_bits mul
iteration_limits = refl

-- 8 comes before 9
factor_first : restoration_refusal 5 1 (restoring 0 3 23 0x7ff8_0000_0000_0000) ≡ 8
unfolding restoring blur_length_refusal from_angle factor_refusal iterations_refusal within of_bits mul
factor_first = refl

-- 10 on 5 by 1: scratch of 14 and 15, an estimate's destination of 4 and 5
scratch_limits : map (filter_refusal 5 5 1 5 5 5 1 5 0) (14 ∷ 15 ∷ []) ≡ 10 ∷ 0 ∷ []
unfolding filter_refusal pair_refusal layout_refusal
scratch_limits = refl

estimate_limits : map (estimate_refusal 5 5 1 5 5 0) (14 ∷ 15 ∷ []) ≡ 10 ∷ 0 ∷ []
unfolding estimate_refusal layout_refusal
estimate_limits = refl

destination_limits : map (λ (len : ℕ). estimate_refusal 5 5 1 5 len 0 15) (4 ∷ 5 ∷ []) ≡ 10 ∷ 0 ∷ []
unfolding estimate_refusal layout_refusal
destination_limits = refl

-- on 5 by 3, before document 02's K5 and now
black : Gray8
black = gray8 (replicate 15 0) 5 3 5

scratch_before : map (filter_number_before black black (restoration_of van_cittert_default)) (14 ∷ 15 ∷ 44 ∷ 45 ∷ [])
    ≡ 10 ∷ 10 ∷ 10 ∷ 0 ∷ []
unfolding black van_cittert_default pair_refusal layout_refusal blur_length_refusal from_angle factor_refusal
    iterations_refusal within of_bits mul
scratch_before = refl

scratch_now : map (filter_number black black (restoration_of van_cittert_default)) (14 ∷ 15 ∷ 44 ∷ 45 ∷ [])
    ≡ 10 ∷ 0 ∷ 0 ∷ 0 ∷ []
unfolding black van_cittert_default filter_refusal pair_refusal layout_refusal blur_length_refusal from_angle factor_refusal
    iterations_refusal within of_bits mul
scratch_now = refl

-- 7 comes before 8; 7, 8 and 9 before 10; 4 before all of them
in_order : map (λ (settings : ℕ). filter_refusal 5 5 1 5 5 5 1 5 settings 14) (plain 2 0 ∷ plain 3 0 ∷ plain 3 23 ∷ [])
    ≡ 7 ∷ 8 ∷ 9 ∷ []
unfolding filter_refusal pair_refusal layout_refusal plain restoring blur_length_refusal from_angle factor_refusal
    iterations_refusal within of_bits mul
in_order = refl

layout_first : filter_refusal 4 5 1 5 5 5 1 5 7 14 ≡ 4
unfolding filter_refusal pair_refusal layout_refusal
layout_first = refl
