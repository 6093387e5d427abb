-- The order on ℤ: transitivity, antisymmetry, and how sums and products by a natural keep it. Most are instances of
-- `omega (arith, linear, ..)`; here are those that are cited by name.
use mathlib.Core.Path.{◌≡◌}
use Prim.Native.Nat.{ℕ, ◌+◌, ◌*◌, ◌≤◌, ◌<◌}
use native.Mathlib.Nat.{lt_of_mul-lt-mul_left}
use native.Mathlib.Omega.{arith}
use lib.IntN.{ℤ, pos, ◌+ℤ◌, ◌*ℤ◌}
use lib.Signed.{◌≤ℤ◌, ◌<ℤ◌}
use Rattle.numbers.proofs.Int.Linear.{up, dn, linear, updown, up_add, up-<ℤ, <ℤ-by_up}

pub ≤ℤ-trans : {a b c : ℤ} → a ≤ℤ b → b ≤ℤ c → a ≤ℤ c
≤ℤ-trans h k = omega (arith, linear)

pub ≤ℤ-<ℤ-trans : {a b c : ℤ} → a ≤ℤ b → b <ℤ c → a <ℤ c
≤ℤ-<ℤ-trans h k = omega (arith, linear)

pub ≤ℤ-antisym : {a b : ℤ} → a ≤ℤ b → b ≤ℤ a → a ≡ b
≤ℤ-antisym h k = omega (arith, linear)

-- ---- naturals

pub pos-≤ℤ : {m n : ℕ} → m ≤ n → pos m ≤ℤ pos n
pos-≤ℤ h = omega (arith, linear)

-- ---- one more

pub ≤ℤ-of-<ℤ-suc : (a b : ℤ) → a <ℤ (b +ℤ pos 1) → a ≤ℤ b
≤ℤ-of-<ℤ-suc a b h = omega (arith, linear, up_add b (pos 1))

-- ---- sums, negations, products by a natural

pub +ℤ-mono : {a b c d : ℤ} → a ≤ℤ b → c ≤ℤ d → (a +ℤ c) ≤ℤ (b +ℤ d)
+ℤ-mono {a} {b} {c} {d} h k = omega (arith, linear, up_add a c, up_add b d)

pub +ℤ-mono-< : {a b c d : ℤ} → a <ℤ b → c ≤ℤ d → (a +ℤ c) <ℤ (b +ℤ d)
+ℤ-mono-< {a} {b} {c} {d} h k = omega (arith, linear, up_add a c, up_add b d)

pub *ℤ-<-cancel : (m : ℕ) (a b : ℤ) → (pos m *ℤ a) <ℤ (pos m *ℤ b) → a <ℤ b
*ℤ-<-cancel m a b h = <ℤ-by_up a b (lt_of_mul-lt-mul_left m (part (simp updown at (up-<ℤ h))))
  where
    part : m * up a + m * dn b < m * up b + m * dn a → m * (up a + dn b) < m * (up b + dn a)
    part k = omega arith
