-- The four directions, and the direction nearest to an angle, where it has one.
use Rattle.std.specs.Prelude.{◌≡◌, refl, false, cond, ◌&&◌, [], ◌∷◌, map, ◌⊎◌, ℕ, eqb, pos, negsuc, replicate, Float, Option, Some, None, is_some}
use Rattle.std.specs.Float.{binary64}
use Rattle.std.specs.Float.Ieee.{of_bits, add, mul, div, rem, lt}
use Rattle.std.specs.Float.Ieee.Scale.{finite}
use Rattle.raster.specs.declared.direction.RasterDirection4.{RasterDirection4}
use Rattle.raster.specs.declared.direction.RasterDirection4.TheVariants.{Horizontal, DownRight}
use Rattle.raster.specs.declared.direction.RasterDirection4.TheVariants.{Vertical, DownLeft}
use Rattle.raster.specs.declared.direction.RasterStep.{RasterStep}

-- ---- document 01, "Views and lines": a line steps (1,0) Horizontal, (1,1) DownRight, (0,1) Vertical, (−1,1) DownLeft

abbrev pub step_of : RasterDirection4 → RasterStep
step_of Horizontal = record { dx = pos 1; dy = pos 0 }
step_of DownRight = record { dx = pos 1; dy = pos 1 }
step_of Vertical = record { dx = pos 0; dy = pos 1 }
step_of DownLeft = record { dx = negsuc 0; dy = pos 1 }

-- document 01, "The 32-byte record": direction 0 to 3 in the order above
abbrev pub direction_index : RasterDirection4 → ℕ
direction_index Horizontal = 0
direction_index DownRight = 1
direction_index Vertical = 2
direction_index DownLeft = 3

abbrev pub direction_from : ℕ → RasterDirection4
direction_from d = cond (eqb d 0) Horizontal (cond (eqb d 1) DownRight (cond (eqb d 2) Vertical DownLeft))

-- ---- document 01, "Direction from an angle": each operation rounds once

-- deg = angle × 57.29577951308232
unfoldable pub in_degrees : Float → Float
in_degrees angle = mul binary64 angle (of_bits binary64 0x404c_a5dc_1a63_c1f8)

-- .. % 180
unfoldable pub signed_rest : Float → Float
signed_rest deg = rem binary64 deg (of_bits binary64 0x4066_8000_0000_0000)

-- .. plus 180 if negative
unfoldable pub half_turn : Float → Float
unfolding signed_rest
half_turn deg =
    cond (lt (signed_rest deg) (of_bits binary64 0))
    (add binary64 (signed_rest deg) (of_bits binary64 0x4066_8000_0000_0000))
    (signed_rest deg)

-- v below 0.5 Horizontal, below 1.5 DownRight, below 2.5 Vertical, below 3.5 DownLeft, else Horizontal
unfoldable pub nearest : Float → RasterDirection4
nearest v =
    cond (lt v (of_bits binary64 0x3fe0_0000_0000_0000)) Horizontal
    (cond (lt v (of_bits binary64 0x3ff8_0000_0000_0000)) DownRight
    (cond (lt v (of_bits binary64 0x4004_0000_0000_0000)) Vertical
    (cond (lt v (of_bits binary64 0x400c_0000_0000_0000)) DownLeft Horizontal)))

-- v = deg / 45
unfoldable pub nearest_to : Float → RasterDirection4
unfolding half_turn nearest
nearest_to deg = nearest (div binary64 (half_turn deg) (of_bits binary64 0x4046_8000_0000_0000))

-- document 02, K7: "Snapping an angle now answers either a direction or that there is none, the latter where the angle
-- or its value in degrees isn't finite."
unfoldable pub from_angle : Float → Option RasterDirection4
unfolding in_degrees nearest_to
from_angle angle = cond (finite angle && finite (in_degrees angle)) (Some (nearest_to (in_degrees angle))) None

-- "the angle or its value in degrees isn't finite"
abbrev pub NoDirection : Float → Type 0
NoDirection angle = (finite angle ≡ false) ⊎ (finite (in_degrees angle) ≡ false)

-- ".. and give 7 in its usual place"
abbrev pub angle_refusal : Option RasterDirection4 → ℕ
angle_refusal s = cond (is_some s) 0 7

-- the last angle with a direction, and the next double (theorems of proofs/LastAngle.antt)
unfoldable pub last_angle : Float
last_angle = of_bits binary64 0x7f91_df46_a252_9d38

unfoldable pub next_angle : Float
next_angle = of_bits binary64 0x7f91_df46_a252_9d39

-- 0.39, 0.40, −1.0, 3.0; 1e306; the last angle with a direction, and negated
found :
    map (λ (bits : ℕ). from_angle (of_bits binary64 bits))
    (0x3fd8_f5c2_8f5c_28f6
    ∷ 0x3fd9_9999_9999_999a
    ∷ 0xbff0_0000_0000_0000
    ∷ 0x4008_0000_0000_0000
    ∷ 0x7f76_c8e5_ca23_9029
    ∷ 0x7f91_df46_a252_9d38
    ∷ 0xff91_df46_a252_9d38
    ∷ [])
    ≡ map Some (Horizontal ∷ DownRight ∷ DownLeft ∷ Horizontal ∷ Vertical ∷ DownRight ∷ DownLeft ∷ [])
unfolding from_angle of_bits mul rem lt add div
found = refl

-- the next one, and negated; 1e307; the largest double; the infinities; not a number
not_found :
    map (λ (bits : ℕ). from_angle (of_bits binary64 bits))
    (0x7f91_df46_a252_9d39
    ∷ 0xff91_df46_a252_9d39
    ∷ 0x7fac_7b1f_3cac_7433
    ∷ 0x7fef_ffff_ffff_ffff
    ∷ 0x7ff0_0000_0000_0000
    ∷ 0xfff0_0000_0000_0000
    ∷ 0x7ff8_0000_0000_0000
    ∷ [])
    ≡ replicate 7 None
unfolding from_angle of_bits mul rem lt add div
not_found = refl

-- ---- document 01, "Whole job and exact run": an angle that snaps to the direction, 0, 0.75, 1.5 or 2.25

abbrev pub angle_of : RasterDirection4 → Float
angle_of Horizontal = of_bits binary64 0
angle_of DownRight = of_bits binary64 0x3fe8_0000_0000_0000
angle_of Vertical = of_bits binary64 0x3ff8_0000_0000_0000
angle_of DownLeft = of_bits binary64 0x4002_0000_0000_0000

pub snaps : (d : RasterDirection4) → from_angle (angle_of d) ≡ Some d
unfolding from_angle of_bits mul rem lt add div
snaps Horizontal = refl
snaps DownRight = refl
snaps Vertical = refl
snaps DownLeft = refl
