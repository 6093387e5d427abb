-- A chain of refusals: where it comes out as 0, and where the first of two decides.
use Prim.Native.Nat.{ℕ, zero, suc, ◌<◌}
use native.Mathlib.Omega.{arith}
use mathlib.Core.Bool.{Bool, true, false, cond}
use mathlib.Core.Path.{◌≡◌, refl}
use Rattle.image.specs.Refusal.{first_refusal}

-- a chain gives 0: its first test fails, and the rest gives 0
pub cond_zero : (t : Bool) (n m : ℕ) → 0 < n → cond t n m ≡ 0 → (t ≡ false) × (m ≡ 0)
cond_zero true n m h e = absurd (omega (arith, h, e))
cond_zero false n m h e = (refl, e)

-- a test that must hold gives 0: it holds, and so does what is behind it
pub cond_holds : (t : Bool) (m n : ℕ) → 0 < n → cond t m n ≡ 0 → (t ≡ true) × (m ≡ 0)
cond_holds true m n h e = (refl, e)
cond_holds false m n h e = absurd (omega (arith, h, e))

pub cond_left : (t : Bool) (n : ℕ) → 0 < n → cond t 0 n ≡ 0 → t ≡ true
cond_left t n h e = (cond_holds t 0 n h e).0

pub first_zero : (a b : ℕ) → first_refusal a b ≡ 0 → (a ≡ 0) × (b ≡ 0)
first_zero zero b e = (refl, e)
first_zero (suc a) b e = absurd (omega (arith, e))

-- the first of two decides what the next does not
pub first_other : (a b : ℕ) {n : ℕ} → (b ≡ n → ⊥) → first_refusal a b ≡ n → a ≡ n
first_other zero b h e = absurd (h e)
first_other (suc a) b h e = e

pub first_own : (a b : ℕ) → (a ≡ 0 → ⊥) → first_refusal a b ≡ a
first_own zero b h = absurd (h refl)
first_own (suc a) b h = refl
