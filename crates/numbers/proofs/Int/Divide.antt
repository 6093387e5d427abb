-- Division on ℤ by a natural m > 0. `shr_z z m` is the floor of z / m: `shr_low` and `shr_high` say so, `shr_unique`
-- that nothing else does; `shr_by_mul` has it by a multiplication. `quot_z z (pos d)` is cut toward zero: `quot_rem`,
-- `quot_near`, `quot_exact`.
use mathlib.Core.Path.{◌≡◌, refl, sym, ap, ◌∙◌}
use Prim.Native.Nat.{ℕ, suc, ◌+◌, ◌*◌, ◌/◌, ◌%◌, ◌<◌}
use native.Mathlib.Nat.{mul_comm, mul-div-le, lt-mul-div-succ, div-add-mod, mod-lt, zero-mod, mul-div_right}
use native.Mathlib.Omega.{arith}
use lib.IntN.{ℤ, pos, negsuc, nat_abs, ◌+ℤ◌, ◌-ℤ◌, ◌*ℤ◌, +ℤ_comm}
use lib.Signed.{◌≤ℤ◌, ◌<ℤ◌, quot_z, rem_z, shr_z, ≤ℤ_refl}
use Rattle.numbers.proofs.Int.Ring.{z_ind, zring, ⊖-same, *ℤ-add, sub_of_add}
use Rattle.numbers.proofs.Int.Linear.{up, dn, linear, updown, up_add, ≡-by_up, ≤ℤ-by_up, <ℤ-by_up}
use Rattle.numbers.proofs.Int.Linear.{up_neg, dn_neg}
use Rattle.numbers.proofs.Int.Order.{≤ℤ-trans, ≤ℤ-<ℤ-trans, ≤ℤ-antisym, ≤ℤ-of-<ℤ-suc, *ℤ-<-cancel, +ℤ-mono}
use Rattle.numbers.proofs.Int.Order.{+ℤ-mono-<}
use Rattle.numbers.proofs.Int.Size.{nat_abs_rem}
use Rattle.numbers.proofs.Nat.{div_by_mul}

-- ---- the floor

pub shr_low : (z : ℤ) (m : ℕ) → 0 < m → (pos m *ℤ shr_z z m) ≤ℤ z
shr_low (pos a) m p = omega (arith, linear, mul-div-le a m)
shr_low (negsuc a) m p =
    ≤ℤ-by_up (pos m *ℤ negsuc (a / m)) (negsuc a) (simp updown (omega (arith, lt-mul-div-succ a p)))

-- one step above a multiple
step : (m : ℕ) (f : ℤ) → pos m *ℤ (f +ℤ pos 1) ≡ pos m *ℤ f +ℤ pos m
step m = z_ind _ λ a a'. simp zring (omega (arith, ⊖-same))

pub shr_high : (z : ℤ) (m : ℕ) → 0 < m → z <ℤ (pos m *ℤ (shr_z z m +ℤ pos 1))
shr_high (pos a) m p = omega (arith, linear, lt-mul-div-succ a p)
shr_high (negsuc a) m p =
    rw (step m (negsuc (a / m)))
    (<ℤ-by_up (negsuc a) (pos m *ℤ negsuc (a / m) +ℤ pos m)
    (omega (arith, mul-div-le a m, simp updown at (up_add (pos m *ℤ negsuc (a / m)) (pos m)))))

-- which multiples lie at or below z, and which above
pub le_shr : (z : ℤ) (m : ℕ) → 0 < m → (k : ℤ) → (pos m *ℤ k) ≤ℤ z → k ≤ℤ shr_z z m
le_shr z m p k h = ≤ℤ-of-<ℤ-suc k (shr_z z m) (*ℤ-<-cancel m k (shr_z z m +ℤ pos 1) (≤ℤ-<ℤ-trans h (shr_high z m p)))

pub shr_le : (z : ℤ) (m : ℕ) → 0 < m → (k : ℤ) → z <ℤ (pos m *ℤ (k +ℤ pos 1)) → shr_z z m ≤ℤ k
shr_le z m p k h = ≤ℤ-of-<ℤ-suc (shr_z z m) k (*ℤ-<-cancel m (shr_z z m) (k +ℤ pos 1) (≤ℤ-<ℤ-trans (shr_low z m p) h))

pub shr_unique : (z : ℤ) (m : ℕ) → 0 < m → (f : ℤ) → (pos m *ℤ f) ≤ℤ z → z <ℤ (pos m *ℤ (f +ℤ pos 1)) → f ≡ shr_z z m
shr_unique z m p f h k = ≤ℤ-antisym (le_shr z m p f h) (shr_le z m p f k)

pub shr_mono : (m : ℕ) → 0 < m → {a b : ℤ} → a ≤ℤ b → shr_z a m ≤ℤ shr_z b m
shr_mono m p {a} {b} h = le_shr b m p (shr_z a m) (≤ℤ-trans (shr_low a m p) h)

-- whole multiples pass through
pub shr_add : (z : ℤ) (m : ℕ) → 0 < m → (k : ℤ) → shr_z (z +ℤ pos m *ℤ k) m ≡ shr_z z m +ℤ k
shr_add z m p k = sym (shr_unique (z +ℤ pos m *ℤ k) m p (shr_z z m +ℤ k) low high)
  where
    low : (pos m *ℤ (shr_z z m +ℤ k)) ≤ℤ (z +ℤ pos m *ℤ k)
    low = rw (*ℤ-add (pos m) (shr_z z m) k) (+ℤ-mono (shr_low z m p) (≤ℤ_refl (pos m *ℤ k)))

    apart : (s j : ℤ) → pos m *ℤ (s +ℤ j +ℤ pos 1) ≡ pos m *ℤ (s +ℤ pos 1) +ℤ pos m *ℤ j
    apart = z_ind _ λ a a'. z_ind _ λ b b'. simp zring (omega (arith, ⊖-same))

    high : (z +ℤ pos m *ℤ k) <ℤ (pos m *ℤ (shr_z z m +ℤ k +ℤ pos 1))
    high = rw (apart (shr_z z m) k) (+ℤ-mono-< (shr_high z m p) (≤ℤ_refl (pos m *ℤ k)))

-- by a multiplication (`div_by_mul`), an offset of whole multiples making z a natural n
pub shr_by_mul : {s : ℕ} (z : ℤ) (l off n : ℕ) → 0 < l → n * l < s → pos n ≡ z +ℤ pos (off * l)
    → shr_z z l ≡ pos (n * (s / l + 1) / s) -ℤ pos off
shr_by_mul z l off n p h e =
    sub_of_add (shr_z z l) (pos off)
    (sym (shr_add z l p (pos off)) ∙ ap (λ (y : ℤ). shr_z y l) (ap (λ (k : ℕ). z +ℤ pos k) (mul_comm l off) ∙ sym e)
    ∙ ap pos (div_by_mul n l p h))

-- ---- the cut quotient

pub up_rem : (z : ℤ) (d : ℕ) → up (rem_z z (pos d)) ≡ up z % d
up_rem (pos n) d = refl
up_rem (negsuc n) d = up_neg (pos (suc n % d)) ∙ sym (zero-mod d)

pub dn_rem : (z : ℤ) (d : ℕ) → dn (rem_z z (pos d)) ≡ dn z % d
dn_rem (pos n) d = sym (zero-mod d)
dn_rem (negsuc n) d = dn_neg (pos (suc n % d))

pub quot_rem : (z : ℤ) (d : ℕ) → pos d *ℤ quot_z z (pos d) +ℤ rem_z z (pos d) ≡ z
quot_rem z d =
    ≡-by_up (pos d *ℤ quot_z z (pos d) +ℤ rem_z z (pos d)) z
    (omega (
      arith,
      simp (updown, up_rem, dn_rem) at (up_add (pos d *ℤ quot_z z (pos d)) (rem_z z (pos d))),
      div-add-mod
          (up z) d,
      div-add-mod (dn z) d,
    ))

-- the remainder is what is left
pub rem_sub : (z : ℤ) (d : ℕ) → z -ℤ pos d *ℤ quot_z z (pos d) ≡ rem_z z (pos d)
rem_sub z d = sym (sub_of_add (rem_z z (pos d)) (pos d *ℤ quot_z z (pos d))
    (+ℤ_comm (rem_z z (pos d)) (pos d *ℤ quot_z z (pos d)) ∙ quot_rem z d))

pub quot_near : (z : ℤ) {d : ℕ} → 0 < d → nat_abs (z -ℤ pos d *ℤ quot_z z (pos d)) < d
quot_near z {d} p = rw (rem_sub z d, nat_abs_rem z (pos d)) (mod-lt (nat_abs z) p)

pub quot_exact : {d : ℕ} → 0 < d → (k : ℤ) → quot_z (pos d *ℤ k) (pos d) ≡ k
quot_exact {d} p k =
    ≡-by_up (quot_z (pos d *ℤ k) (pos d)) k (simp updown (omega (arith, mul-div_right (up k) p, mul-div_right (dn k) p)))
