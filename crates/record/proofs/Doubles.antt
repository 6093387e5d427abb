-- Laws of double bits: which patterns are finite, and that a double and its bits determine each other.
use mathlib.Core.Path.{◌≡◌, refl, sym, ap, ◌∙◌}
use mathlib.Core.Bool.{Bool, true, false, not, false≢true, true≢false, and-eq-true_iff}
use Prim.Native.Nat.{ℕ, ◌*◌, ◌%◌, ◌^◌, ◌≤◌, ◌<◌}
use borrow.Author.Tests.{lt-ltb, le-ltb, eqb-true}
use lib.Dec.{T, eqb}
use lib.IntN.{pos}
use lib.Ieee.{Float, nan, inf, fin, binary64, of_int, top, is_nan, of_bits, nan_bits, to_bits, fits}
use lib.Ieee.Bits.{of_bits-to_bits, to_bits-of_bits, nan_bits_is, nan_bits_above}
use lib.Ieee.Exact.{HasValue}
use lib.Ieee.Fits.{div-fits}
use lib.Ieee.Scale.{finite}
use Rattle.floats.specs.Factor.{scale, factor_of}
use Rattle.record.specs.Record.{is_factor}
use Rattle.std.specs.Float.{float_is_finite}
use Rattle.floats.proofs.Factor.{factor_value}
use Rattle.floats.proofs.Finite.{is_finite_is}

-- what std's test says
pub tested : (x : Float) {b v : Bool} → b ≡ float_is_finite x → b ≡ v → finite x ≡ v
tested x e h = sym (is_finite_is x) ∙ sym e ∙ h

pub finite_number : (x : Float) → finite x ≡ true → is_nan x ≡ false
unfolding is_nan
finite_number nan h = absurd (false≢true h)
finite_number (inf s) h = refl
finite_number (fin s m e) h = refl

nan_not_finite : (x : Float) → is_nan x ≡ true → finite x ≡ false
unfolding is_nan
nan_not_finite nan h = refl
nan_not_finite (inf s) h = refl
nan_not_finite (fin s m e) h = absurd (false≢true h)

pub not_nan : (x : Float) → is_nan x ≡ false → T (not (is_nan x))
not_nan x h = rw h tt

-- a number's bits, without the sign's, are at most infinity's
pub number_pattern : (b : ℕ) → b % 0x8000_0000_0000_0000 ≤ 0x7ff0_0000_0000_0000 → T (not (nan_bits binary64 b))
number_pattern b h = rw (nan_bits_above binary64 b, le-ltb _ _ h) tt

pub nan_pattern : (b : ℕ) → 0x7ff0_0000_0000_0000 < b % 0x8000_0000_0000_0000 → finite (of_bits binary64 b) ≡ false
nan_pattern b h =
    nan_not_finite (of_bits binary64 b) (sym (nan_bits_is binary64 b) ∙ nan_bits_above binary64 b ∙ lt-ltb _ _ h)

-- a finite pattern is a number's, and is the bits of what it stands for
pub finite_pattern : (b : ℕ) → finite (of_bits binary64 b) ≡ true → T (not (nan_bits binary64 b))
finite_pattern b h = rw (nan_bits_is binary64 b ∙ finite_number (of_bits binary64 b) h) tt

pub bits_back : (b : ℕ) → b < 2 * top binary64 → finite (of_bits binary64 b) ≡ true
    → to_bits binary64 (of_bits binary64 b) ≡ b
bits_back b l h = to_bits-of_bits binary64 b l (not_nan (of_bits binary64 b) (finite_number (of_bits binary64 b) h))

pub not_finite_bits : (x : Float) → finite x ≡ false → finite (of_bits binary64 (to_bits binary64 x)) ≡ false
unfolding to_bits of_bits
not_finite_bits nan h = refl
not_finite_bits (inf true) h = refl
not_finite_bits (inf false) h = refl
not_finite_bits (fin s m e) h = absurd (true≢false h)

-- doubles of equal bits are equal
same_bits : (x y : Float) → T (fits binary64 x) → T (fits binary64 y) → to_bits binary64 x ≡ to_bits binary64 y → x ≡ y
same_bits x y f g e = sym (of_bits-to_bits binary64 x f) ∙ ap (of_bits binary64) e ∙ of_bits-to_bits binary64 y g

-- the bits of what is not finite are not 0
pub bits_not_zero : (x : Float) → finite x ≡ false → eqb (to_bits binary64 x) 0 ≡ false
unfolding to_bits
bits_not_zero nan h = refl
bits_not_zero (inf true) h = refl
bits_not_zero (inf false) h = refl
bits_not_zero (fin s m e) h = absurd (true≢false h)

-- the factor of a q is a number that fits
factor_fits : (q : ℕ) → T (fits binary64 (factor_of q))
unfolding factor_of
factor_fits q = div-fits binary64 (of_int binary64 (pos q)) (fin false 1 (pos 16))

value_finite : (x : Float) (s : Bool) (a c : ℕ) → HasValue x s a c → finite x ≡ true
value_finite nan s a c h = absurd h
value_finite (inf t) s a c h = absurd h
value_finite (fin t m e) s a c h = refl

pub factor_finite : (q : ℕ) → q < 2 ^ 53 → finite (factor_of q) ≡ true
factor_finite q h = value_finite (factor_of q) false q scale (factor_value q h)

-- a factor that passes the test is q / 65,536
pub factor_same : (q : ℕ) (x : Float) → T (fits binary64 x) → is_factor q x ≡ true → factor_of q ≡ x
unfolding is_factor
factor_same q x t h =
    same_bits (factor_of q) x (factor_fits q) t
    (eqb-true (to_bits binary64 (factor_of q)) (to_bits binary64 x) ((and-eq-true_iff (finite x) _).0 h).1)
