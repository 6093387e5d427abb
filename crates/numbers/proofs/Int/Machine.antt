-- Answers to the needs of signed code, over any width w. The machine holds a signed number as bits, and goals read it
-- back as `to_z w (of_z w z)`, which is z by `to_z-of_z f` of mir.Facts, f : SFits w z. Each operation has two laws, over
-- operands x, y that are known to be a, b (by `to_z-of_z` or by the law of the operation before; `refl` for a literal):
-- `add_fits` says that the sum fits, `add_held` what is read back. A test is read by `omega (arith, linear)`. An unsigned n
-- read as signed is `to_z_pos` of mir.Facts; a wider width is `sfits_widen` there.
use mathlib.Core.Path.{◌≡◌, sym, ◌∙◌, ap, ap₂, subst}
use Prim.Native.Nat.{ℕ, zero, suc, ◌+◌, ◌*◌, ◌/◌, ◌^◌, ◌≤◌, ◌<◌}
use native.Mathlib.Nat.{lt_of_le_of_lt, div-le_self}
use native.Mathlib.Omega.{arith}
use lib.IntN.{ℤ, pos, negsuc, neg_ℤ, nat_abs, ◌+ℤ◌, ◌-ℤ◌, ◌*ℤ◌}
use lib.Signed.{◌≤ℤ◌, mag, quot_z}
use mir.Syntax.{Width}
use mir.Val.{SFits, hbits, to_z, of_z}
use mir.Facts.{to_z-of_z}
use Rattle.numbers.proofs.Int.Size.{nat_abs_add, nat_abs_sub, nat_abs_mul, sfits_size}

-- ---- a result x that is known to be z: it fits as z does, and is read back as z. So is a cast between signed widths

pub fits_as : {w : Width} {x z : ℤ} → x ≡ z → SFits w z → SFits w x
fits_as {w} e f = subst (SFits w) (sym e) f

pub held : {w : Width} {x z : ℤ} → x ≡ z → SFits w z → to_z w (of_z w x) ≡ z
held {w} e f = ap (λ (y : ℤ). to_z w (of_z w y)) e ∙ to_z-of_z f

-- ---- sums, differences, products: by the operands' sizes

pub sfits_add : {w : Width} (a b : ℤ) → nat_abs a + nat_abs b < 2 ^ hbits w → SFits w (a +ℤ b)
sfits_add a b h = sfits_size (lt_of_le_of_lt (nat_abs_add a b) h)

pub sfits_sub : {w : Width} (a b : ℤ) → nat_abs a + nat_abs b < 2 ^ hbits w → SFits w (a -ℤ b)
sfits_sub a b h = sfits_size (lt_of_le_of_lt (nat_abs_sub a b) h)

pub sfits_mul : {w : Width} (a b : ℤ) → nat_abs a * nat_abs b < 2 ^ hbits w → SFits w (a *ℤ b)
sfits_mul a b h = sfits_size (rw (nat_abs_mul a b) h)

module _ (w : Width) {x y a b : ℤ} (p : x ≡ a) (q : y ≡ b) where
  pub add_fits : nat_abs a + nat_abs b < 2 ^ hbits w → SFits w (x +ℤ y)
  add_fits h = fits_as (ap₂ ◌+ℤ◌ p q) (sfits_add a b h)

  pub add_held : nat_abs a + nat_abs b < 2 ^ hbits w → to_z w (of_z w (x +ℤ y)) ≡ a +ℤ b
  add_held h = held (ap₂ ◌+ℤ◌ p q) (sfits_add a b h)

  pub sub_held : nat_abs a + nat_abs b < 2 ^ hbits w → to_z w (of_z w (x -ℤ y)) ≡ a -ℤ b
  sub_held h = held (ap₂ ◌-ℤ◌ p q) (sfits_sub a b h)

-- ---- quotients by a positive number: they fit where the dividend does

mag_neg : (n : ℕ) {a : ℕ} → n ≤ suc a → mag (neg_ℤ (pos n)) ≤ a
mag_neg zero h = omega arith
mag_neg (suc n) h = omega arith

mag_quot : (z : ℤ) (d : ℕ) → mag (quot_z z (pos d)) ≤ mag z
mag_quot (pos a) d = div-le_self a d
mag_quot (negsuc a) d = mag_neg (suc a / d) (div-le_self (suc a) d)

pub sfits_quot : {w : Width} {a b : ℤ} → pos 0 ≤ℤ b → SFits w a → SFits w (quot_z a b)
sfits_quot {a = a} {b = pos n} p f = record { sfits = lt_of_le_of_lt (mag_quot a n) f.sfits }
sfits_quot {a = a} {b = negsuc n} p f = absurd p.le
