-- Document 01's case of the mean along a line, and two of its "Mistakes that tempt", each of which gives something
-- else: the q product floored (`product_floored_differs`), and estimates cut to 0..255 between iterations
-- (`cut_between_differs`).
use mathlib.Core.Path.{◌≡◌, refl}
use mathlib.Core.List.{[], ◌∷◌}
use Prim.Native.Nat.{ℕ, zero, suc}
use native.Mathlib.Omega.{arith}
use lib.IntN.{ℤ, pos, negsuc, ◌+ℤ◌, ◌-ℤ◌, ◌*ℤ◌}
use lib.ListN.{get_or}
use lib.Signed.{shr_z}
use Rattle.numbers.specs.Scalar.{clamp_byte}
use Rattle.numbers.specs.Sum.{total}
use Rattle.raster.specs.Border.{border_map}
use Rattle.raster.specs.declared.border.LineBorderMode.TheVariants.{Replicate}
use Rattle.line.specs.Iteration as iteration
use Rattle.line.specs.Line.{sample, window, mean, after}

-- samples −1, 0, 0, L = 3, middle: −1
dip : ℕ → ℤ
dip i = get_or (negsuc 0 ∷ pos 0 ∷ pos 0 ∷ []) i (pos 0)

floored : mean (border_map Replicate 3) dip 3 1 ≡ negsuc 0
unfolding iteration.mean window sample border_map dip total
floored = refl

-- one step from 5 with the observed 0, the mean 1 and q = 1: −1 / 65,536 is cut to 0, and floored to −1
product_floored : (iteration.step_from 1 (pos 0) (pos 1) (pos 5) ≡ pos 5)
    × (pos 5 +ℤ shr_z ((pos 0 -ℤ pos 1) *ℤ pos 1) 65536 ≡ pos 4)
product_floored = (refl, refl)

product_floored_differs : iteration.step_from 1 (pos 0) (pos 1) (pos 5)
    ≡ pos 5 +ℤ shr_z ((pos 0 -ℤ pos 1) *ℤ pos 1) 65536 → ⊥
product_floored_differs e = let s = product_floored in let z : ◌≡◌ {A = ℕ} 5 4 = cc in omega arith

-- row 10 10 40 10 10, L = 3, Replicate, relaxation 1
row : ℕ → ℤ
row i = get_or (pos 10 ∷ pos 10 ∷ pos 40 ∷ pos 10 ∷ pos 10 ∷ []) i (pos 0)

-- the estimate after k, each one cut
cut_after : ℕ → ℕ → ℤ
cut_after zero p = row p
cut_after (suc k) p =
    pos (clamp_byte (iteration.stepped (window (border_map Replicate 5) 3) 3 row 65536 (cut_after k) p))

-- 19 and 15 at the first place, computed apart too
cut_between : (clamp_byte (after (border_map Replicate 5) row 65536 3 3 0) ≡ 19) × (cut_after 3 0 ≡ pos 15)
unfolding cut_after row iteration.after iteration.stepped iteration.mean window sample border_map total
cut_between = (refl, refl)

cut_between_differs : pos (clamp_byte (after (border_map Replicate 5) row 65536 3 3 0)) ≡ cut_after 3 0 → ⊥
cut_between_differs e = let s = cut_between in let z : ◌≡◌ {A = ℕ} 19 15 = cc in omega arith
