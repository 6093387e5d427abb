-- Ring equations on ℤ. `a ⊖ b` is a − b for two naturals; every integer is one (`z_ind`), and sums, negations and
-- products of them are again such (`zring`). So an equation is proved in one line: `z-ind _ λ a a'. z-ind _ λ b b'.
-- simp zring (omega (arith, ⊖-same))`. Then the laws that are cited by name.
use mathlib.Core.Path.{◌≡◌, refl, sym, ◌∙◌, ap, ap₂, subst}
use Prim.Native.Nat.{ℕ, zero, suc, ◌+◌, ◌*◌, ◌-◌, ◌≤◌, ◌<◌, zero-le}
use native.Mathlib.Omega.{arith}
use borrow.Author.Tests.{le-ltb, lt-ltb}
use lib.IntN.{ℤ, pos, negsuc, suc_ℤ, pred_ℤ, neg_ℤ, sub_ℕ, ◌+ℤ◌, ◌-ℤ◌, ◌*ℤ◌, ℤ_ind, +ℤ_idl, +ℤ_idr, +ℤ_assoc, +ℤ_comm}
use lib.IntN.{+ℤ_invr, neg_ℤ-+ℤ, neg_ℤ-neg_ℤ, suc_ℤ-*ℤ, pred_ℤ-*ℤ, *ℤ_comm, zero-*ℤ, +ℤ_one, -ℤ_one, suc_ℤ-+ℤ, pred_ℤ-+ℤ}
use lib.IntN.{nat_abs, +ℤ-neg_ℤ_cancel}

-- ---- a − b

infixl 6 ◌⊖◌
pub ◌⊖◌ : ℕ → ℕ → ℤ
a ⊖ b = sub_ℕ a b

pub ⊖-sub : (a b : ℕ) → a ⊖ b ≡ sub_ℕ a b
unfolding ◌⊖◌
⊖-sub a b = refl

pub sub_ℕ-is : (a b : ℕ) → sub_ℕ a b ≡ pos a -ℤ pos b
sub_ℕ-is a zero = rw (le-ltb a zero zero-le) (ap pos (omega arith))
sub_ℕ-is a (suc b) = refl

pub ⊖-is : (a b : ℕ) → a ⊖ b ≡ pos a -ℤ pos b
⊖-is a b = ⊖-sub a b ∙ sub_ℕ-is a b

pub pos-⊖ : (n : ℕ) → pos n ≡ n ⊖ 0
pos-⊖ n = sym (⊖-is n 0 ∙ +ℤ_idr (pos n))

pub negsuc-⊖ : (n : ℕ) → negsuc n ≡ 0 ⊖ suc n
negsuc-⊖ n = sym (⊖-is 0 (suc n) ∙ +ℤ_idl (negsuc n))

-- every integer is some a ⊖ b
pub z_ind {ℓ} : (P : ℤ → Type ℓ) → ((a b : ℕ) → P (a ⊖ b)) → (z : ℤ) → P z
z_ind P f (pos n) = subst P (sym (pos-⊖ n)) (f n 0)
z_ind P f (negsuc n) = subst P (sym (negsuc-⊖ n)) (f 0 (suc n))

-- ---- its sum, negation and product

pub +ℤ-swap : (a b c d : ℤ) → (a +ℤ b) +ℤ (c +ℤ d) ≡ (a +ℤ c) +ℤ (b +ℤ d)
+ℤ-swap a b c d = +ℤ_assoc a b (c +ℤ d) ∙ ap (a +ℤ◌) (sym (+ℤ_assoc b c d) ∙ ap (◌+ℤ d) (+ℤ_comm b c) ∙ +ℤ_assoc c b d)
    ∙ sym (+ℤ_assoc a c (b +ℤ d))

pub ⊖-add : (a b c d : ℕ) → (a ⊖ b) +ℤ (c ⊖ d) ≡ (a + c) ⊖ (b + d)
⊖-add a b c d =
    ap₂ ◌+ℤ◌ (⊖-is a b) (⊖-is c d)
    ∙ +ℤ-swap (pos a) (neg_ℤ (pos b)) (pos c) (neg_ℤ (pos d))
    ∙ ap (pos (a + c) +ℤ◌) (sym (neg_ℤ-+ℤ (pos b) (pos d)))
    ∙ sym (⊖-is (a + c) (b + d))

pub ⊖-neg : (a b : ℕ) → neg_ℤ (a ⊖ b) ≡ b ⊖ a
⊖-neg a b =
    ap neg_ℤ (⊖-is a b)
    ∙ neg_ℤ-+ℤ (pos a) (neg_ℤ (pos b))
    ∙ ap (neg_ℤ (pos a) +ℤ◌) (neg_ℤ-neg_ℤ (pos b))
    ∙ +ℤ_comm (neg_ℤ (pos a)) (pos b)
    ∙ sym (⊖-is b a)

-- the product, by distributivity over a sum, which is by induction on the first summand
suc_step : (a b c : ℤ) → (a +ℤ b) *ℤ c ≡ a *ℤ c +ℤ b *ℤ c → (suc_ℤ a +ℤ b) *ℤ c ≡ suc_ℤ a *ℤ c +ℤ b *ℤ c
suc_step a b c h =
    ap (◌*ℤ c) (suc_ℤ-+ℤ a b)
    ∙ suc_ℤ-*ℤ (a +ℤ b) c
    ∙ ap (◌+ℤ c) h
    ∙ +ℤ_assoc (a *ℤ c) (b *ℤ c) c
    ∙ ap (a *ℤ c +ℤ◌) (+ℤ_comm (b *ℤ c) c)
    ∙ sym (+ℤ_assoc (a *ℤ c) c (b *ℤ c))
    ∙ ap (◌+ℤ b *ℤ c) (sym (suc_ℤ-*ℤ a c))

pred_step : (a b c : ℤ) → (a +ℤ b) *ℤ c ≡ a *ℤ c +ℤ b *ℤ c → (pred_ℤ a +ℤ b) *ℤ c ≡ pred_ℤ a *ℤ c +ℤ b *ℤ c
pred_step a b c h =
    ap (◌*ℤ c) (pred_ℤ-+ℤ a b)
    ∙ pred_ℤ-*ℤ (a +ℤ b) c
    ∙ ap (◌-ℤ c) h
    ∙ +ℤ_assoc (a *ℤ c) (b *ℤ c) (neg_ℤ c)
    ∙ ap (a *ℤ c +ℤ◌) (+ℤ_comm (b *ℤ c) (neg_ℤ c))
    ∙ sym (+ℤ_assoc (a *ℤ c) (neg_ℤ c) (b *ℤ c))
    ∙ ap (◌+ℤ b *ℤ c) (sym (pred_ℤ-*ℤ a c))

pub add-*ℤ : (a b c : ℤ) → (a +ℤ b) *ℤ c ≡ a *ℤ c +ℤ b *ℤ c
add-*ℤ a b c =
    ℤ_ind (λ (z : ℤ). (z +ℤ b) *ℤ c ≡ z *ℤ c +ℤ b *ℤ c)
    (ap (◌*ℤ c) (+ℤ_idl b) ∙ sym (ap (◌+ℤ b *ℤ c) (zero-*ℤ c) ∙ +ℤ_idl (b *ℤ c)))
    (λ n h. subst (λ (z : ℤ). (z +ℤ b) *ℤ c ≡ z *ℤ c +ℤ b *ℤ c) (sym (+ℤ_one (pos n))) (suc_step (pos n) b c h))
    (λ n h. subst (λ (z : ℤ). (z +ℤ b) *ℤ c ≡ z *ℤ c +ℤ b *ℤ c) (sym (-ℤ_one (neg_ℤ (pos n))))
    (pred_step (neg_ℤ (pos n)) b c h))
    a

pub *ℤ-add : (a b c : ℤ) → a *ℤ (b +ℤ c) ≡ a *ℤ b +ℤ a *ℤ c
*ℤ-add a b c = *ℤ_comm a (b +ℤ c) ∙ add-*ℤ b c a ∙ ap₂ ◌+ℤ◌ (*ℤ_comm b a) (*ℤ_comm c a)

pub neg-*ℤ : (a b : ℤ) → neg_ℤ a *ℤ b ≡ neg_ℤ (a *ℤ b)
neg-*ℤ (pos zero) b = zero-*ℤ b ∙ ap neg_ℤ (sym (zero-*ℤ b))
neg-*ℤ (pos (suc a)) (pos b) = refl
neg-*ℤ (pos (suc a)) (negsuc b) = sym (neg_ℤ-neg_ℤ (pos (suc a * suc b)))
neg-*ℤ (negsuc a) (pos b) = sym (neg_ℤ-neg_ℤ (pos (suc a * b)))
neg-*ℤ (negsuc a) (negsuc b) = refl

pub *ℤ-neg : (a b : ℤ) → a *ℤ neg_ℤ b ≡ neg_ℤ (a *ℤ b)
*ℤ-neg a b = *ℤ_comm a (neg_ℤ b) ∙ neg-*ℤ b a ∙ ap neg_ℤ (*ℤ_comm b a)

pub ⊖-mul : (a b c d : ℕ) → (a ⊖ b) *ℤ (c ⊖ d) ≡ (a * c + b * d) ⊖ (a * d + b * c)
⊖-mul a b c d =
    ap₂ ◌*ℤ◌ (⊖-is a b) (⊖-is c d)
    ∙ add-*ℤ (pos a) (neg_ℤ (pos b)) (pos c -ℤ pos d)
    ∙ ap₂ ◌+ℤ◌ (times a) (neg-*ℤ (pos b) (pos c -ℤ pos d) ∙ ap neg_ℤ (times b) ∙ ⊖-neg (b * c) (b * d))
    ∙ ⊖-add (a * c) (a * d) (b * d) (b * c)
  where
    times : (n : ℕ) → pos n *ℤ (pos c -ℤ pos d) ≡ (n * c) ⊖ (n * d)
    times n = *ℤ-add (pos n) (pos c) (neg_ℤ (pos d)) ∙ ap (pos (n * c) +ℤ◌) (*ℤ-neg (pos n) (pos d))
        ∙ sym (⊖-is (n * c) (n * d))

-- ---- equal differences

pub pos_inj : {m n : ℕ} → pos m ≡ pos n → m ≡ n
pos_inj e = ap nat_abs e

more : (a b k : ℕ) → a ⊖ b ≡ (a + k) ⊖ (b + k)
more a b k = sym (+ℤ_idr (a ⊖ b)) ∙ ap ((a ⊖ b) +ℤ◌) (sym (⊖-is k k ∙ +ℤ_invr (pos k))) ∙ ⊖-add a b k k

pub ⊖-same : (a b c d : ℕ) → a + d ≡ c + b → a ⊖ b ≡ c ⊖ d
⊖-same a b c d e = more a b d ∙ ap₂ ◌⊖◌ e (omega arith) ∙ sym (more c d b)

pub ⊖-same⁻¹ : (a b c d : ℕ) → a ⊖ b ≡ c ⊖ d → a + d ≡ c + b
⊖-same⁻¹ a b c d e = pos_inj (cast ∙ ap (◌+ℤ pos (b + d)) e ∙ sym cast')
  where
    plus : (m n k : ℕ) → (m ⊖ n) +ℤ pos (n + k) ≡ pos (m + k)
    plus m n k = ap ((m ⊖ n) +ℤ◌) (pos-⊖ (n + k)) ∙ ⊖-add m n (n + k) 0
        ∙ ⊖-same (m + (n + k)) (n + 0) (m + k) 0 (omega arith) ∙ sym (pos-⊖ (m + k))

    cast : pos (a + d) ≡ (a ⊖ b) +ℤ pos (b + d)
    cast = sym (plus a b d)

    cast' : pos (c + b) ≡ (c ⊖ d) +ℤ pos (b + d)
    cast' = sym (ap (λ (n : ℕ). (c ⊖ d) +ℤ pos n) (omega arith) ∙ plus c d b)

-- the rules of the one-line proofs
pub ruleset zring = (pos-⊖, negsuc-⊖, ⊖-add, ⊖-neg, ⊖-mul)

-- ---- sub_ℕ, by which places are written

pub sub_ℕ-add : (a b c : ℕ) → sub_ℕ a b +ℤ pos c ≡ sub_ℕ (a + c) b
sub_ℕ-add a b c =
    ap₂ ◌+ℤ◌ (sym (⊖-sub a b)) (pos-⊖ c)
    ∙ ⊖-add a b c 0
    ∙ ⊖-same (a + c) (b + 0) (a + c) b (omega arith)
    ∙ ⊖-sub (a + c) b

-- at or above zero, and below it
pub sub_ℕ-pos : {a b : ℕ} → b ≤ a → sub_ℕ a b ≡ pos (a - b)
sub_ℕ-pos {a} {b} h = rw (le-ltb a b h)

pub sub_ℕ-neg : {a b : ℕ} → a < b → sub_ℕ a b ≡ negsuc (b - suc a)
sub_ℕ-neg {a} {b} h = rw (lt-ltb a b h)

-- ---- products

pub one-*ℤ : (z : ℤ) → pos 1 *ℤ z ≡ z
one-*ℤ = z_ind _ λ a a'. simp zring (omega (arith, ⊖-same))

-- a product by a natural, in the laws that sums by steps use
pub suc-*ℤ : (n : ℕ) (z : ℤ) → pos (suc n) *ℤ z ≡ pos n *ℤ z +ℤ z
suc-*ℤ n = z_ind _ λ a a'. simp zring (omega (arith, ⊖-same))

-- ---- sums and differences

pub -ℤ-self : (z : ℤ) → z -ℤ z ≡ pos 0
-ℤ-self = +ℤ_invr

-- a sum moved to the other side
pub sub_of_add : (a b : ℤ) {c : ℤ} → a +ℤ b ≡ c → a ≡ c -ℤ b
sub_of_add a b e = sym (+ℤ-neg_ℤ_cancel a b) ∙ ap (◌-ℤ b) e
