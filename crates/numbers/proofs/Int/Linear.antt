-- Linear facts on ℤ by `omega`, through ups and downs: z is `up z` − `dn z`, two naturals of which one is 0. `omega
-- (arith, linear, up-add x y, ..)` reads and proves `≡`, `≤ℤ`, `<ℤ` and the tests `lt_z`, `le_z` between integers. Each
-- sum or difference in them is one listed equation, `up_add x y`, `up_sub x y` or `up_sub_ℕ a b`; negations and products
-- by a natural are rewritten first, by `simp updown`.
use mathlib.Core.Path.{◌≡◌, refl, sym, ◌∙◌, ap, ap₂, subst}
use mathlib.Core.Bool.{Bool, true, false, not}
use mathlib.Core.Logic.{◌⊎◌, inl, inr}
use Prim.Native.Nat.{ℕ, zero, suc, ◌+◌, ◌*◌, ◌/◌, ◌<◌, ◌≤◌}
use native.Mathlib.Nat.{mul-zero, zero-div}
use native.Mathlib.Omega.{arith}
use lib.Dec.{T, leb→le, le→leb, ltb→lt, lt→ltb}
use lib.IntN.{ℤ, pos, negsuc, neg_ℤ, nat_abs, ◌+ℤ◌, ◌-ℤ◌, ◌*ℤ◌}
use lib.Signed.{◌≤ℤ◌, ◌<ℤ◌, le_z, lt_z, quot_z, lt_z_no}
use Rattle.numbers.proofs.Int.Ring.{◌⊖◌, ⊖-add, ⊖-same, ⊖-same⁻¹, pos-⊖, negsuc-⊖}

abbrev pub up : ℤ → ℕ
up (pos n) = n
up (negsuc n) = 0

abbrev pub dn : ℤ → ℕ
dn (pos n) = 0
dn (negsuc n) = suc n

pub up_dn : (z : ℤ) → z ≡ up z ⊖ dn z
up_dn (pos n) = pos-⊖ n
up_dn (negsuc n) = negsuc-⊖ n

is_true : (t : Bool) → T t → t ≡ true
is_true true h = refl
is_true false h = absurd h

is_false : (t : Bool) → (T t → ⊥) → t ≡ false
is_false true h = absurd (h tt)
is_false false h = refl

pub up_or_dn : (z : ℤ) → (up z ≡ 0) ⊎ (dn z ≡ 0)
up_or_dn (pos n) = inr refl
up_or_dn (negsuc n) = inl refl

pub nat_abs_up_dn : (z : ℤ) → nat_abs z ≡ up z + dn z
nat_abs_up_dn (pos n) = omega arith
nat_abs_up_dn (negsuc n) = omega arith

-- ---- sums: one linear equation for each

pub up_add : (a b : ℤ) → up (a +ℤ b) + (dn a + dn b) ≡ dn (a +ℤ b) + (up a + up b)
up_add a b = turn (⊖-same⁻¹ _ _ _ _
    (sym (up_dn (a +ℤ b)) ∙ ap₂ ◌+ℤ◌ (up_dn a) (up_dn b) ∙ ⊖-add (up a) (dn a) (up b) (dn b)))
  where
    turn : up (a +ℤ b) + (dn a + dn b) ≡ (up a + up b) + dn (a +ℤ b)
        → up (a +ℤ b) + (dn a + dn b) ≡ dn (a +ℤ b) + (up a + up b)
    turn e = omega arith

-- ---- negation and products by a natural: rewritten

pub up_neg : (z : ℤ) → up (neg_ℤ z) ≡ dn z
up_neg (pos zero) = refl
up_neg (pos (suc n)) = refl
up_neg (negsuc n) = refl

pub dn_neg : (z : ℤ) → dn (neg_ℤ z) ≡ up z
dn_neg (pos zero) = refl
dn_neg (pos (suc n)) = refl
dn_neg (negsuc n) = refl

pub up_mul : (m : ℕ) (z : ℤ) → up (pos m *ℤ z) ≡ m * up z
up_mul m (pos n) = refl
up_mul m (negsuc n) = up_neg (pos (m * suc n)) ∙ sym (mul-zero m)

pub dn_mul : (m : ℕ) (z : ℤ) → dn (pos m *ℤ z) ≡ m * dn z
dn_mul m (pos n) = sym (mul-zero m)
dn_mul m (negsuc n) = dn_neg (pos (m * suc n))

pub up_quot : (z : ℤ) (d : ℕ) → up (quot_z z (pos d)) ≡ up z / d
up_quot (pos n) d = refl
up_quot (negsuc n) d = up_neg (pos (suc n / d)) ∙ sym (zero-div d)

pub dn_quot : (z : ℤ) (d : ℕ) → dn (quot_z z (pos d)) ≡ dn z / d
dn_quot (pos n) d = sym (zero-div d)
dn_quot (negsuc n) d = dn_neg (pos (suc n / d))

pub ruleset updown = (up_neg, dn_neg, up_mul, dn_mul, up_quot, dn_quot, nat_abs_up_dn)

-- a difference
pub up_sub : (a b : ℤ) → up (a -ℤ b) + (dn a + up b) ≡ dn (a -ℤ b) + (up a + dn b)
up_sub a b = simp updown at (up_add a (neg_ℤ b))

-- ---- equations, orders and tests, read and proved

pub up-≡ : {a b : ℤ} → a ≡ b → up a + dn b ≡ up b + dn a
up-≡ e = ap₂ ◌+◌ (ap up e) (sym (ap dn e))

pub ≡-by_up : (a b : ℤ) → up a + dn b ≡ up b + dn a → a ≡ b
≡-by_up a b e = up_dn a ∙ ⊖-same (up a) (dn a) (up b) (dn b) e ∙ sym (up_dn b)

le_up : (a b : ℤ) → T (le_z a b) → up a + dn b ≤ up b + dn a
le_up (pos a) (pos b) t = omega (arith, leb→le a b t)
le_up (pos a) (negsuc b) t = absurd t
le_up (negsuc a) (pos b) t = omega arith
le_up (negsuc a) (negsuc b) t = omega (arith, leb→le b a t)

le_by : (a b : ℤ) → up a + dn b ≤ up b + dn a → T (le_z a b)
le_by (pos a) (pos b) h = le→leb a b (omega arith)
le_by (pos a) (negsuc b) h = absurd (omega arith)
le_by (negsuc a) (pos b) h = tt
le_by (negsuc a) (negsuc b) h = le→leb b a (omega arith)

lt_up : (a b : ℤ) → T (lt_z a b) → up a + dn b < up b + dn a
lt_up (pos a) (pos b) t = omega (arith, ltb→lt a b t)
lt_up (pos a) (negsuc b) t = absurd t
lt_up (negsuc a) (pos b) t = omega arith
lt_up (negsuc a) (negsuc b) t = omega (arith, ltb→lt b a t)

lt_by : (a b : ℤ) → up a + dn b < up b + dn a → T (lt_z a b)
lt_by (pos a) (pos b) h = lt→ltb a b (omega arith)
lt_by (pos a) (negsuc b) h = absurd (omega arith)
lt_by (negsuc a) (pos b) h = tt
lt_by (negsuc a) (negsuc b) h = lt→ltb b a (omega arith)

pub up-≤ℤ : {a b : ℤ} → a ≤ℤ b → up a + dn b ≤ up b + dn a
up-≤ℤ {a} {b} h = le_up a b h.le

pub ≤ℤ-by_up : (a b : ℤ) → up a + dn b ≤ up b + dn a → a ≤ℤ b
≤ℤ-by_up a b h = record { le = le_by a b h }

pub up-<ℤ : {a b : ℤ} → a <ℤ b → up a + dn b < up b + dn a
up-<ℤ {a} {b} h = lt_up a b h.lt

pub <ℤ-by_up : (a b : ℤ) → up a + dn b < up b + dn a → a <ℤ b
<ℤ-by_up a b h = record { lt = lt_by a b h }

-- the tests, as a branch leaves them
pub lt_z_true : (a b : ℤ) → lt_z a b ≡ true → up a + dn b < up b + dn a
lt_z_true a b e = lt_up a b (subst T (sym e) tt)

pub lt_z_false : (a b : ℤ) → lt_z a b ≡ false → up b + dn a ≤ up a + dn b
lt_z_false a b e = up-≤ℤ {a = b} {b = a} (lt_z_no {a = a} {b = b} (subst (λ (t : Bool). T (not t)) (sym e) tt))

pub le_z_true : (a b : ℤ) → le_z a b ≡ true → up a + dn b ≤ up b + dn a
le_z_true a b e = le_up a b (subst T (sym e) tt)

pub le_z_false : (a b : ℤ) → le_z a b ≡ false → up b + dn a < up a + dn b
le_z_false a b e = not-le (λ h. subst T e (le_by a b h))
  where
    not-le : ¬ (up a + dn b ≤ up b + dn a) → up b + dn a < up a + dn b
    not-le h = omega arith

-- and back
pub lt_z_is_true : (a b : ℤ) → up a + dn b < up b + dn a → lt_z a b ≡ true
lt_z_is_true a b h = is_true (lt_z a b) (lt_by a b h)

pub lt_z_is_false : (a b : ℤ) → up b + dn a ≤ up a + dn b → lt_z a b ≡ false
lt_z_is_false a b h = is_false (lt_z a b) (λ t. clash (lt_up a b t))
  where
    clash : up a + dn b < up b + dn a → ⊥
    clash k = omega arith

pub le_z_is_true : (a b : ℤ) → up a + dn b ≤ up b + dn a → le_z a b ≡ true
le_z_is_true a b h = is_true (le_z a b) (le_by a b h)

pub le_z_is_false : (a b : ℤ) → up b + dn a < up a + dn b → le_z a b ≡ false
le_z_is_false a b h = is_false (le_z a b) (λ t. clash (le_up a b t))
  where
    clash : up a + dn b ≤ up b + dn a → ⊥
    clash k = omega arith

-- what `omega` is handed beside `arith`
pub ruleset linear = (
  up-≡,
  ≡-by_up,
  up-≤ℤ,
  ≤ℤ-by_up,
  up-<ℤ,
  <ℤ-by_up,
  lt_z_true,
  lt_z_false,
  le_z_true,
  le_z_false,
  lt_z_is_true,
  lt_z_is_false,
  le_z_is_true,
  le_z_is_false,
)
