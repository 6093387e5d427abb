-- Document 02, K7: how far angles have a direction. Of the angles above 0 those up to 0x7f91df46a2529d38 have one
-- (`up_to_last`), and those from the next double on have none (`from_next`); an angle has one exactly where the angle
-- without its sign has (`either_sign`).
use mathlib.Core.Bool.{true, false, false≢true}
use mathlib.Core.Logic.{⊎_elim}
use mathlib.Core.Path.{◌≡◌, refl, sym, subst, ◌∙◌, ap}
use Prim.Native.Nat.{ℕ, ◌*◌}
use lib.Dec.{T}
use lib.IntN.{ℤ}
use lib.Ieee.{Float, nan, inf, fin, binary64, up, down, of_bits, mul, le}
use lib.Ieee.Positive.{positive, num, den, den_pos, own_value, mul_at, mul_mono}
use lib.Ieee.Scale.{finite}
use Rattle.std.specs.Prelude.{is_some}
use Rattle.numbers.proofs.Test.{bool_cases}
use Rattle.floats.proofs.Overflow.{round_sign, round_infinite}
use Rattle.raster.specs.Direction.{in_degrees, from_angle, last_angle, next_angle}
use Rattle.raster.proofs.Snapped.{by_degrees}

-- 57.29577951308232
unfoldable degree : Float
degree = of_bits binary64 0x404c_a5dc_1a63_c1f8

degree_positive : T (positive degree)
unfolding degree of_bits
degree_positive = tt

degree_same : T (le degree degree)
unfolding degree of_bits le
degree_same = tt

last_positive : T (positive last_angle)
unfolding last_angle of_bits
last_positive = tt

next_positive : T (positive next_angle)
unfolding next_angle of_bits
next_positive = tt

-- the degrees of an angle above 0 are finite or an infinity
positive_degrees : (x : Float) → T (positive x) → finite (in_degrees x) ≡ false → in_degrees x ≡ inf false
unfolding in_degrees degree
positive_degrees x p e =
    let is = mul_at binary64 x degree (num x) (den x) (num degree) (den degree) p degree_positive (den_pos x)
    (den_pos degree) (own_value x p) (own_value degree degree_positive) in
    is ∙ round_infinite binary64 false (num x * num degree) (den x * den degree) (ap finite (sym is) ∙ e)

-- they grow with the angle
degrees_grow : (x y : Float) → T (positive x) → T (positive y) → T (le x y) → T (le (in_degrees x) (in_degrees y))
unfolding in_degrees degree
degrees_grow x y p q h = mul_mono binary64 x y degree degree p q degree_positive degree_positive h degree_same

not_below_finite : (y : Float) → finite y ≡ true → T (le (inf false) y) → ⊥
unfolding le
not_below_finite nan f h = h
not_below_finite (inf s) f h = false≢true f
not_below_finite (fin s m e) f h = h

last_finite : finite (in_degrees last_angle) ≡ true
unfolding in_degrees last_angle of_bits mul
last_finite = refl

next_infinite : in_degrees next_angle ≡ inf false
unfolding in_degrees next_angle of_bits mul
next_infinite = refl

pub up_to_last : (x : Float) → T (positive x) → T (le x last_angle) → is_some (from_angle x) ≡ true
up_to_last x p h =
    by_degrees x
    ∙ ⊎_elim (λ e. e)
    (λ e. absurd (not_below_finite (in_degrees last_angle) last_finite
    (subst (λ (z : Float). T (le z (in_degrees last_angle))) (positive_degrees x p e)
    (degrees_grow x last_angle p last_positive h))))
    (bool_cases (finite (in_degrees x)))

pub from_next : (x : Float) → T (positive x) → T (le next_angle x) → is_some (from_angle x) ≡ false
from_next x p h =
    by_degrees x
    ∙ ⊎_elim
    (λ e. absurd (not_below_finite (in_degrees x) e
    (subst (λ (z : Float). T (le z (in_degrees x))) next_infinite
    (degrees_grow next_angle x next_positive p h)))) (λ e. e)
    (bool_cases (finite (in_degrees x)))

pub either_sign : (m : ℕ) (e : ℤ) → is_some (from_angle (fin true m e)) ≡ is_some (from_angle (fin false m e))
unfolding in_degrees degree of_bits mul
either_sign m e =
    by_degrees (fin true m e)
    ∙ round_sign binary64 true false (m * up e * num degree) (down e * den degree)
    ∙ sym (by_degrees (fin false m e))
