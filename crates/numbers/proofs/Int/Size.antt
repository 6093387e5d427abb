-- Ranges by size: `nat_abs` of sums, products, quotients and floors, and the machine ranges as bounds on it.
use mathlib.Core.Path.{◌≡◌, refl}
use mathlib.Core.Logic.{⊎_elim}
use Prim.Native.Nat.{ℕ, zero, suc, ◌+◌, ◌*◌, ◌/◌, ◌%◌, ◌^◌, ◌≤◌, ◌<◌}
use native.Mathlib.Nat.{div-le_of_le-mul, div-lt_iff_lt-mul, le_refl, lt_of_le_of_lt}
use native.Mathlib.Omega.{arith}
use lib.IntN.{ℤ, pos, negsuc, neg_ℤ, nat_abs, ◌+ℤ◌, ◌-ℤ◌, ◌*ℤ◌}
use lib.Signed.{◌≤ℤ◌, quot_z, rem_z, shr_z, mag, nat_abs-le}
use mir.Syntax.{Width}
use mir.Val.{SFits, hbits}
use Rattle.numbers.proofs.Int.Linear.{up, dn, up_or_dn, nat_abs_up_dn, updown, linear, up_add, up_sub}

-- ---- the operations

pub nat_abs_neg : (z : ℤ) → nat_abs (neg_ℤ z) ≡ nat_abs z
nat_abs_neg (pos zero) = refl
nat_abs_neg (pos (suc n)) = refl
nat_abs_neg (negsuc n) = refl

pub nat_abs_add : (a b : ℤ) → nat_abs (a +ℤ b) ≤ nat_abs a + nat_abs b
nat_abs_add a b =
    ⊎_elim
    (λ (e : up (a +ℤ b) ≡ 0). simp updown (omega (arith, up_add a b)))
    (λ (e : dn (a +ℤ b) ≡ 0). simp updown (omega (arith, up_add a b)))
    (up_or_dn (a +ℤ b))

pub nat_abs_sub : (a b : ℤ) → nat_abs (a -ℤ b) ≤ nat_abs a + nat_abs b
nat_abs_sub a b = rw (nat_abs_neg b) at (nat_abs_add a (neg_ℤ b))

pub nat_abs_mul : (a b : ℤ) → nat_abs (a *ℤ b) ≡ nat_abs a * nat_abs b
nat_abs_mul (pos a) (pos b) = refl
nat_abs_mul (pos a) (negsuc b) = nat_abs_neg (pos (a * suc b))
nat_abs_mul (negsuc a) (pos b) = nat_abs_neg (pos (suc a * b))
nat_abs_mul (negsuc a) (negsuc b) = refl

pub nat_abs_quot : (a b : ℤ) → nat_abs (quot_z a b) ≡ nat_abs a / nat_abs b
nat_abs_quot (pos a) (pos b) = refl
nat_abs_quot (pos a) (negsuc b) = nat_abs_neg (pos (a / suc b))
nat_abs_quot (negsuc a) (pos b) = nat_abs_neg (pos (suc a / b))
nat_abs_quot (negsuc a) (negsuc b) = refl

pub nat_abs_rem : (a b : ℤ) → nat_abs (rem_z a b) ≡ nat_abs a % nat_abs b
nat_abs_rem (pos a) b = refl
nat_abs_rem (negsuc a) b = nat_abs_neg (pos (suc a % nat_abs b))

-- within k multiples of the divisor
pub nat_abs_shr : (z : ℤ) (m k : ℕ) → 0 < m → nat_abs z ≤ k * m → nat_abs (shr_z z m) ≤ k
nat_abs_shr (pos a) m k p h = div-le_of_le-mul m (omega arith)
nat_abs_shr (negsuc a) m k p h = (div-lt_iff_lt-mul p).1 h

pub nat_abs_zero : (z : ℤ) → nat_abs z ≡ 0 → z ≡ pos 0
nat_abs_zero z e = omega (arith, linear, nat_abs_up_dn z)

pub nat_abs_pos : (z : ℤ) → pos 0 ≤ℤ z → pos (nat_abs z) ≡ z
nat_abs_pos (pos n) h = refl
nat_abs_pos (negsuc n) h = absurd h.le

-- of two naturals within c
pub nat_abs_sub_pos : {a b c : ℕ} → a ≤ c → b ≤ c → nat_abs (pos a -ℤ pos b) ≤ c
nat_abs_sub_pos {a} {b} {c} h k =
    ⊎_elim
    (λ (e : up (pos a -ℤ pos b) ≡ 0). simp nat_abs_up_dn (omega (arith, up_sub (pos a) (pos b))))
    (λ (e : dn (pos a -ℤ pos b) ≡ 0). simp nat_abs_up_dn (omega (arith, up_sub (pos a) (pos b))))
    (up_or_dn (pos a -ℤ pos b))

-- ---- machine ranges

mag-≤ : (z : ℤ) → mag z ≤ nat_abs z
mag-≤ (pos n) = le_refl n
mag-≤ (negsuc n) = omega arith

pub sfits_size : {w : Width} {z : ℤ} → nat_abs z < 2 ^ hbits w → SFits w z
sfits_size {z = z} h = record { sfits = lt_of_le_of_lt (mag-≤ z) h }

pub size_sfits : {w : Width} {z : ℤ} → SFits w z → nat_abs z ≤ 2 ^ hbits w
size_sfits {z = z} f = nat_abs-le z f.sfits
