-- The scalar functions' definitions.
use Rattle.std.specs.Prelude.{◌≡◌, refl, ℕ, min, ℤ, pos, negsuc}

-- z cut to 0..255, as document 01 has every output byte ("Restoration and line unsharp", "Binomial unsharp")
abbrev pub clamp_byte : ℤ → ℕ
clamp_byte (pos n) = min n 255
clamp_byte (negsuc n) = 0

-- worked
below : clamp_byte (negsuc 4) ≡ 0
below = refl

within : clamp_byte (pos 255) ≡ 255
within = refl

above : clamp_byte (pos 300) ≡ 255
above = refl
