-- How near the working run is to the exact one: the distances of demand 3 (document 01, "Whole job and exact run":
-- "Demand 3's distances are absolute differences; a relaxation with q = 65,536 counts as 1").
use Rattle.std.specs.Prelude.{ℕ, ◌+◌, ◌-◌, ◌*◌, ◌^◌, ◌<◌, min, ◌≡◌, ℤ, pos, negsuc, nat_abs, ◌-ℤ◌, ◌*ℤ◌}
use Rattle.floats.specs.Factor.{scale}
use Rattle.line.specs.Exact.{Fraction}

-- |y − x| < bound, both sides multiplied by the denominator of x
abbrev pub LessFrom : ℕ → ℤ → Fraction → Type 0
LessFrom bound y x = nat_abs (pos x.denominator *ℤ y -ℤ x.numerator) < bound * x.denominator

-- "less than 2^(k+1) − 2 grey levels", ..
abbrev pub bound : ℕ → ℕ
bound k = 2 ^ (k + 1) - 2

-- .. "and less than 2^k − 1 at relaxation 1"
abbrev pub bound_at_one : ℕ → ℕ
bound_at_one k = 2 ^ k - 1

-- y lies that near to x
pub record Near (q k : ℕ) (y : ℤ) (x : Fraction) : Type 0 where
  pub near : LessFrom (bound k) y x
  pub near_at_one : q ≡ scale → LessFrom (bound_at_one k) y x

-- x cut to 0..255, the denominator kept
abbrev pub cut_numerator : ℤ → ℕ → ℕ
cut_numerator (pos n) denominator = min n (255 * denominator)
cut_numerator (negsuc n) denominator = 0

abbrev pub cut : Fraction → Fraction
cut x = record { numerator = pos (cut_numerator x.numerator x.denominator); denominator = x.denominator }
