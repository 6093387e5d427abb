-- The border map at document 01's places ("Mean along a line"), at document 02's (K2) and at each border's ends.
use mathlib.Core.Path.{◌≡◌, refl}
use Prim.Native.Nat.{ℕ}
use native.Mathlib.Omega.{arith}
use lib.IntN.{ℤ, pos, negsuc, nat_abs, sub_ℕ}
use lib.Signed.{rem_z}
use Rattle.raster.specs.Border.{modℤ, border_map}
use Rattle.raster.specs.declared.border.LineBorderMode.TheVariants.{Replicate, Reflect, Constant, Wrap}
use Rattle.raster.specs.declared.border.BorderSample.TheVariants.{Inside, Outside}

-- n = 4, Reflect: −2 gives 2, 7 gives 1
reflect_before : border_map Reflect 4 (sub_ℕ 0 2) ≡ Inside 2
unfolding border_map
reflect_before = refl

reflect_behind : border_map Reflect 4 (pos 7) ≡ Inside 1
unfolding border_map
reflect_behind = refl

-- the ends are not repeated
reflect_end : border_map Reflect 4 (pos 4) ≡ Inside 2
unfolding border_map
reflect_end = refl

-- a place many periods away
reflect_far : border_map Reflect 4 (sub_ℕ 0 602) ≡ Inside 2
unfolding border_map
reflect_far = refl

-- n = 1 gives 0, whatever the place
reflect_one : (p : ℤ) → border_map Reflect 1 p ≡ Inside 0
unfolding border_map
reflect_one p = refl

replicate_before : border_map Replicate 4 (negsuc 0) ≡ Inside 0
unfolding border_map
replicate_before = refl

replicate_behind : border_map Replicate 4 (pos 4) ≡ Inside 3
unfolding border_map
replicate_behind = refl

constant_before : border_map (Constant 7) 4 (negsuc 0) ≡ Outside 7
unfolding border_map
constant_before = refl

constant_last : border_map (Constant 7) 4 (pos 3) ≡ Inside 3
unfolding border_map
constant_last = refl

constant_behind : border_map (Constant 7) 4 (pos 4) ≡ Outside 7
unfolding border_map
constant_behind = refl

-- n = 4, Wrap: −1 gives 3, 4 gives 0, −5 gives 3, 9 gives 1
wrap_before : border_map Wrap 4 (negsuc 0) ≡ Inside 3
unfolding border_map
wrap_before = refl

wrap_behind : border_map Wrap 4 (pos 4) ≡ Inside 0
unfolding border_map
wrap_behind = refl

wrap_far_before : border_map Wrap 4 (negsuc 4) ≡ Inside 3
unfolding border_map
wrap_far_before = refl

wrap_far_behind : border_map Wrap 4 (pos 9) ≡ Inside 1
unfolding border_map
wrap_far_behind = refl

-- n = 1 gives 0, before the line and behind it
wrap_one : (border_map Wrap 1 (negsuc 6) ≡ Inside 0) × (border_map Wrap 1 (pos 7) ≡ Inside 0)
unfolding border_map
wrap_one = (refl, refl)

-- Two mistakes that tempt, each of which gives another place: modulus n − 1, and a remainder cut toward zero, which has
-- −1 for −1, or 1 without its sign.
modulus_less_differs : border_map Wrap 4 (pos 4) ≡ Inside (modℤ (pos 4) 3) → ⊥
unfolding border_map
modulus_less_differs e = let z : ◌≡◌ {A = ℕ} 0 1 = cc in omega arith

toward_zero_differs : border_map Wrap 4 (negsuc 0) ≡ Inside (nat_abs (rem_z (negsuc 0) (pos 4))) → ⊥
unfolding border_map
toward_zero_differs e = let z : ◌≡◌ {A = ℕ} 3 1 = cc in omega arith

remainder_before : modℤ (sub_ℕ 0 2) 6 ≡ 4
remainder_before = refl

remainder_whole : modℤ (sub_ℕ 0 6) 6 ≡ 0
remainder_whole = refl
