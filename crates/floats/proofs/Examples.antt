-- The definitions of specs/ at worked values, each by its bits; document 01 gives 0.1, 2 ^ -17 and -0.0.
use Rattle.std.proofs.Common.{◌≡◌, refl}
use lib.Ieee.{binary64, of_bits}
use Rattle.std.specs.Prelude.{Some, None}
use Rattle.floats.specs.Factor.{quantized, factor_of}
use Rattle.floats.specs.Odd.{odd_length}

-- ---- q of a factor

-- 0.1
at_tenth : quantized 1 (of_bits binary64 0x3fb9_9999_9999_999a) ≡ Some 6554
unfolding quantized of_bits
at_tenth = refl

-- 2 ^ -17, half of 1 / 65,536
at_half_step : quantized 1 (of_bits binary64 0x3ee0_0000_0000_0000) ≡ Some 1
unfolding quantized of_bits
at_half_step = refl

-- the double below it
at_below_half_step : quantized 1 (of_bits binary64 0x3edf_ffff_ffff_ffff) ≡ Some 0
unfolding quantized of_bits
at_below_half_step = refl

-- -0.0
at_minus_zero : quantized 1 (of_bits binary64 0x8000_0000_0000_0000) ≡ Some 0
unfolding quantized of_bits
at_minus_zero = refl

-- 2 ^ -1074, the smallest double above 0
at_smallest : quantized 1 (of_bits binary64 0x0000_0000_0000_0001) ≡ Some 0
unfolding quantized of_bits
at_smallest = refl

-- 1.0, and the double above it
at_one : quantized 1 (of_bits binary64 0x3ff0_0000_0000_0000) ≡ Some 65536
unfolding quantized of_bits
at_one = refl

at_above_one : quantized 1 (of_bits binary64 0x3ff0_0000_0000_0001) ≡ None
unfolding quantized of_bits
at_above_one = refl

-- 8.0 is a gain and no relaxation
at_eight : quantized 8 (of_bits binary64 0x4020_0000_0000_0000) ≡ Some 524288
unfolding quantized of_bits
at_eight = refl

at_eight_relaxation : quantized 1 (of_bits binary64 0x4020_0000_0000_0000) ≡ None
unfolding quantized of_bits
at_eight_relaxation = refl

-- the double above 8.0
at_above_eight : quantized 8 (of_bits binary64 0x4020_0000_0000_0001) ≡ None
unfolding quantized of_bits
at_above_eight = refl

-- -2 ^ -1074, the largest double below 0
at_below_zero : quantized 8 (of_bits binary64 0x8000_0000_0000_0001) ≡ None
unfolding quantized of_bits
at_below_zero = refl

-- no number, and the infinities
at_nan : quantized 8 (of_bits binary64 0x7ff8_0000_0000_0000) ≡ None
unfolding quantized of_bits
at_nan = refl

at_infinity : quantized 8 (of_bits binary64 0x7ff0_0000_0000_0000) ≡ None
unfolding quantized of_bits
at_infinity = refl

at_minus_infinity : quantized 8 (of_bits binary64 0xfff0_0000_0000_0000) ≡ None
unfolding quantized of_bits
at_minus_infinity = refl

-- ---- the odd length of an estimate

-- 5.0, 4.0, 3.0, 0.1, 4.5
at_length_five : odd_length (of_bits binary64 0x4014_0000_0000_0000) ≡ Some 5
unfolding odd_length of_bits
at_length_five = refl

at_length_four : odd_length (of_bits binary64 0x4010_0000_0000_0000) ≡ Some 5
unfolding odd_length of_bits
at_length_four = refl

at_length_three : odd_length (of_bits binary64 0x4008_0000_0000_0000) ≡ Some 3
unfolding odd_length of_bits
at_length_three = refl

at_length_tenth : odd_length (of_bits binary64 0x3fb9_9999_9999_999a) ≡ Some 3
unfolding odd_length of_bits
at_length_tenth = refl

at_length_four_and_a_half : odd_length (of_bits binary64 0x4012_0000_0000_0000) ≡ Some 5
unfolding odd_length of_bits
at_length_four_and_a_half = refl

-- 5.000000000000001, the double above 5.0
at_length_above_five : odd_length (of_bits binary64 0x4014_0000_0000_0001) ≡ Some 7
unfolding odd_length of_bits
at_length_above_five = refl

-- -0.0, -7.5 and -infinity
at_length_minus_zero : odd_length (of_bits binary64 0x8000_0000_0000_0000) ≡ Some 3
unfolding odd_length of_bits
at_length_minus_zero = refl

at_length_negative : odd_length (of_bits binary64 0xc01e_0000_0000_0000) ≡ Some 3
unfolding odd_length of_bits
at_length_negative = refl

at_length_minus_infinity : odd_length (of_bits binary64 0xfff0_0000_0000_0000) ≡ Some 3
unfolding odd_length of_bits
at_length_minus_infinity = refl

-- 2 ^ 53, and the double above it
at_length_top : odd_length (of_bits binary64 0x4340_0000_0000_0000) ≡ Some 9007199254740993
unfolding odd_length of_bits
at_length_top = refl

at_length_above_top : odd_length (of_bits binary64 0x4340_0000_0000_0001) ≡ None
unfolding odd_length of_bits
at_length_above_top = refl

-- infinity, and no number
at_length_infinity : odd_length (of_bits binary64 0x7ff0_0000_0000_0000) ≡ None
unfolding odd_length of_bits
at_length_infinity = refl

at_length_nan : odd_length (of_bits binary64 0x7ff8_0000_0000_0000) ≡ None
unfolding odd_length of_bits
at_length_nan = refl

-- ---- the factor of a q

at_factor : factor_of 6554 ≡ of_bits binary64 0x3fb9_9a00_0000_0000
unfolding factor_of of_bits
at_factor = refl
