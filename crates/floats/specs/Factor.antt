-- q from a factor (document 01, "Restoration and line unsharp"), which factors refusal 8 takes, and the factor of a q
-- ("The 32-byte record"). A finite double is the fraction `num` / `den` of lib.Ieee.Positive: m * up e / down e of `fin
-- s m e`, its sign aside.
use Rattle.std.specs.Prelude.{ℕ, ◌+◌, ◌*◌, ◌/◌, Bool, false, cond, not, ◌&&◌, ◌||◌, pos, ◌==◌, nat_le, Option, Some, None}
use lib.Ieee.{Float, nan, inf, fin, binary64, up, down, div, of_int}
use Rattle.std.specs.Float.Ieee.Positive.{num, den}

-- ---- the limits

-- q counts parts of 1 / 65,536
abbrev pub scale : ℕ
scale = 65536

abbrev pub max_relaxation : ℕ
max_relaxation = 1

abbrev pub max_gain : ℕ
max_gain = 8

-- ---- q

-- "Refusals", 8: a factor is taken where it is finite and in 0..limit. -0.0 is 0.
unfoldable pub within : ℕ → Float → Bool
within limit nan = false
within limit (inf s) = false
within limit (fin s m e) = m == 0 || (not s && nat_le (m * up e) (limit * down e))

-- q is the factor × 65,536, rounded half away from zero. Of a factor that is not negative that is its floor after
-- adding 1 / 2: num / den × scale + 1 / 2 is (2 × scale × num + den) / (2 × den).
unfoldable pub rounded_q16 : Float → ℕ
rounded_q16 x = (2 * scale * num x + den x) / (2 * den x)

-- q of a factor in 0..limit, and none of any other, which is refused
unfoldable pub quantized : ℕ → Float → Option ℕ
unfolding within rounded_q16
quantized limit x = cond (within limit x) (Some (rounded_q16 x)) None

-- The factor is q / 65,536. `fin false 1 (pos 16)` is `scale` as a double, and the quotient is exact (`factor_value` of
-- proofs/Factor.antt).
unfoldable pub factor_of : ℕ → Float
unfolding div of_int
factor_of q = div binary64 (of_int binary64 (pos q)) (fin false 1 (pos 16))
