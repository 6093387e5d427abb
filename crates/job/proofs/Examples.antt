-- The exact run on worked rows, each value computed apart from these definitions. Over L = 3, S is 196,608 and S²
-- 38,654,705,664.
use mathlib.Core.Path.{◌≡◌, refl}
use mathlib.Core.List.{List, [], ◌∷◌, map}
use Prim.Native.Nat.{ℕ, ◌-◌, ◌*◌, ◌^◌}
use lib.IntN.{ℤ, pos, negsuc, nat_abs, ◌-ℤ◌, ◌*ℤ◌}
use Rattle.numbers.specs.Sum.{total}
use Rattle.image.specs.Picture.{pixel}
use Rattle.raster.specs.Border.{border_map}
use Rattle.raster.specs.Lines.{start_col, start_row, line_of}
use Rattle.raster.specs.declared.border.LineBorderMode.TheVariants.{Replicate, Constant}
use Rattle.raster.specs.declared.direction.RasterDirection4.TheVariants.{Horizontal, DownLeft}
use Rattle.line.specs.Iteration.{mean, stepped, after}
use Rattle.line.specs.Line.{sample, window}
use Rattle.line.specs.Exact.{scale_of, exact}
use Rattle.line.specs.ExactLine.{exact_window}
use Rattle.line.specs.Near.{cut_numerator}
use Rattle.deblur.specs.Picture.{estimate, estimate_on}
use Rattle.job.specs.Exact.{exact_estimate}

-- row 10 10 40 10 10, L = 3, Replicate, Horizontal: its exact numerators after k iterations with q
row : List ℕ
row = 10 ∷ 10 ∷ 40 ∷ 10 ∷ 10 ∷ []

numerators : ℕ → ℕ → List ℤ
unfolding exact_estimate row
numerators q k = map (λ c. exact_estimate (pixel row 5) Horizontal 5 1 Replicate 3 q k c 0) (0 ∷ 1 ∷ 2 ∷ 3 ∷ 4 ∷ [])

-- relaxation 1: after one iteration 10 0 60 0 10, which the working run meets
one : numerators 65536 1 ≡ pos 1966080 ∷ pos 0 ∷ pos 11796480 ∷ pos 0 ∷ pos 1966080 ∷ []
unfolding numerators exact_estimate exact exact_window border_map total row start_col start_row line_of
one = refl

-- after two 40/3 −40/3 80 −40/3 40/3
two : numerators 65536 2 ≡ pos 515396075520 ∷ negsuc 515396075519 ∷ pos 3092376453120
    ∷ negsuc 515396075519 ∷ pos 515396075520 ∷ []
unfolding numerators exact_estimate exact exact_window border_map total row start_col start_row line_of
two = refl

-- .. cut to 0..255; and 300 cut
two_cut : map (λ (n : ℤ). cut_numerator n (scale_of 3 ^ 2)) (numerators 65536 2) ≡ 515396075520 ∷ 0
    ∷ 3092376453120 ∷ 0 ∷ 515396075520 ∷ []
unfolding numerators exact_estimate exact exact_window border_map total row start_col start_row line_of
two_cut = refl

above : cut_numerator (pos (300 * scale_of 3)) (scale_of 3) ≡ 255 * scale_of 3
above = refl

-- how far the working run lies from it at column c of a row of n, over S^k
distance : List ℕ → ℕ → ℕ → ℕ → ℕ → ℕ
distance xs n q k c =
    nat_abs
    (pos (scale_of 3 ^ k) *ℤ estimate (pixel xs n) Horizontal n 1 Replicate 3 q k c 0 -ℤ exact_estimate
    (pixel xs n) Horizontal n 1 Replicate 3 q k c 0)

-- 14 −13 80 −13 14: 2/3 1/3 0 1/3 2/3
distances : map (distance row 5 65536 2) (0 ∷ 1 ∷ 2 ∷ 3 ∷ 4 ∷ []) ≡ 25769803776 ∷ 12884901888 ∷ 0
    ∷ 12884901888 ∷ 25769803776 ∷ []
unfolding distance estimate estimate_on after stepped mean window sample exact_estimate exact exact_window border_map total
    row start_col start_row line_of
distances = refl

-- a distance between 2^2 − 3 and 2^2 − 2 after one iteration: 0 17 1 with q = 65,535, at its start, 327,663 / S
further : distance (0 ∷ 17 ∷ 1 ∷ []) 3 65535 1 0 ≡ 327663
unfolding distance estimate estimate_on after stepped mean window sample exact_estimate exact exact_window border_map
    total start_col start_row line_of
further = refl

-- relaxation 0.1
tenth : numerators 6554 2 ≡ pos 387835704120 ∷ pos 307944279240 ∷ pos 1700816486400
    ∷ pos 307944279240 ∷ pos 387835704120 ∷ []
unfolding numerators exact_estimate exact exact_window border_map total row start_col start_row line_of
tenth = refl

-- the diagonal 2 3 of the picture 1 2 over 3 4, outside which stands 9, which counts 9 × S in the second iteration
square : List ℕ
square = 1 ∷ 2 ∷ 3 ∷ 4 ∷ []

diagonal : map (λ c. exact_estimate (pixel square 2) DownLeft 2 2 (Constant 9) 3 6554 2 c (1 - c)) (1 ∷ 0 ∷ [])
    ≡ pos 57250723924 ∷ pos 103636842580 ∷ []
unfolding exact_estimate exact exact_window border_map total square start_col start_row line_of
diagonal = refl
