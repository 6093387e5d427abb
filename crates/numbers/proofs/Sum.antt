-- Laws of the sums of specs/Sum: `total` (of integers, from a start) and `count` (of naturals, from 0). Ends, parts,
-- terms changed or bounded, sums of sums, multiples, constants, shifts, periods. A pointwise premise asks only for the
-- places that are summed.
use mathlib.Core.Path.{◌≡◌, refl, sym, ◌∙◌, ap, ap₂, subst}
use Prim.Native.Nat.{ℕ, zero, suc, ◌+◌, ◌-◌, ◌*◌, ◌≤◌, ◌<◌, zero-le}
use native.Mathlib.Nat.{add-zero, add-suc, add-le-add, le_refl, suc-sub-suc, sub-zero, suc-mul, zero-mul, zero-add}
use native.Mathlib.Omega.{arith}
use lib.IntN.{ℤ, pos, nat_abs, neg_ℤ, ◌+ℤ◌, ◌-ℤ◌, ◌*ℤ◌, +ℤ_idl, +ℤ_idr, +ℤ_assoc, +ℤ_comm, neg_ℤ-+ℤ, zero-*ℤ, *ℤ-zero}
use lib.Signed.{◌≤ℤ◌, ≤ℤ_refl}
use Rattle.numbers.specs.Sum.{total, count}
use Rattle.numbers.proofs.Int.Ring.{+ℤ-swap, *ℤ-add, suc-*ℤ, sub_of_add}
use Rattle.numbers.proofs.Int.Order.{+ℤ-mono}
use Rattle.numbers.proofs.Int.Size.{nat_abs_add}

-- ---- total: its ends

pub total_zero : (g : ℕ → ℤ) (a : ℕ) → total g a 0 ≡ pos 0
unfolding total
total_zero g a = refl

pub total_next : (g : ℕ → ℤ) (a k : ℕ) → total g a (suc k) ≡ total g a k +ℤ g (a + k)
unfolding total
total_next g a k = refl

pub total_first : (g : ℕ → ℤ) (a k : ℕ) → total g a (suc k) ≡ g a +ℤ total g (suc a) k
unfolding total
total_first g a zero = +ℤ_idl (g (a + 0)) ∙ ap g (add-zero a) ∙ sym (+ℤ_idr (g a))
total_first g a (suc k) =
    ap (◌+ℤ g (a + suc k)) (total_first g a k)
    ∙ +ℤ_assoc (g a) (total g (suc a) k) (g (a + suc k))
    ∙ ap (λ (i : ℕ). g a +ℤ (total g (suc a) k +ℤ g i)) {x = a + suc k} {y = suc a + k} (omega arith)

-- one step of a window: the next term comes in, the first goes out
pub total_slide : (g : ℕ → ℤ) (a k : ℕ) → total g (suc a) k ≡ total g a k +ℤ g (a + k) -ℤ g a
total_slide g a k =
    sub_of_add (total g (suc a) k) (g a)
    (+ℤ_comm (total g (suc a) k) (g a) ∙ sym (total_first g a k) ∙ total_next g a k)

pub total_split : (g : ℕ → ℤ) (a j k : ℕ) → total g a (j + k) ≡ total g a j +ℤ total g (a + j) k
unfolding total
total_split g a j zero = ap (total g a) (add-zero j) ∙ sym (+ℤ_idr (total g a j))
total_split g a j (suc k) =
    ap (total g a) (add-suc j k)
    ∙ ap₂ ◌+ℤ◌ (total_split g a j k) (ap g {x = a + (j + k)} {y = a + j + k} (omega arith))
    ∙ +ℤ_assoc (total g a j) (total g (a + j) k) (g (a + j + k))

-- ---- total: its terms changed or bounded

pub total_same : (g h : ℕ → ℤ) (a k : ℕ) → ((i : ℕ) → a ≤ i → i < a + k → g i ≡ h i) → total g a k ≡ total h a k
unfolding total
total_same g h a zero e = refl
total_same g h a (suc k) e =
    ap₂ ◌+ℤ◌ (total_same g h a k (λ i p q. e i p (omega arith))) (e (a + k) (omega arith) (omega arith))

pub total_within : (g : ℕ → ℤ) (a k b : ℕ) → ((i : ℕ) → a ≤ i → i < a + k → nat_abs (g i) ≤ b)
    → nat_abs (total g a k) ≤ k * b
unfolding total
total_within g a zero b h = zero-le
total_within g a (suc k) b h =
    omega (
      arith,
      nat_abs_add (total g a k) (g (a + k)),
      total_within g a k b (λ i p q. h i p (omega arith)),
      h (a + k)
          (omega arith) (omega arith),
    )

pub total_mono : (g h : ℕ → ℤ) (a k : ℕ) → ((i : ℕ) → a ≤ i → i < a + k → g i ≤ℤ h i) → total g a k ≤ℤ total h a k
unfolding total
total_mono g h a zero e = ≤ℤ_refl (pos 0)
total_mono g h a (suc k) e =
    +ℤ-mono (total_mono g h a k (λ i p q. e i p (omega arith))) (e (a + k) (omega arith) (omega arith))

-- ---- total: sums of sums, multiples, constants, shifts

pub total_add : (g h : ℕ → ℤ) (a k : ℕ) → total (λ i. g i +ℤ h i) a k ≡ total g a k +ℤ total h a k
unfolding total
total_add g h a zero = refl
total_add g h a (suc k) =
    ap (◌+ℤ (g (a + k) +ℤ h (a + k))) (total_add g h a k) ∙ +ℤ-swap (total g a k) (total h a k) (g (a + k)) (h (a + k))

pub total_neg : (g : ℕ → ℤ) (a k : ℕ) → total (λ i. neg_ℤ (g i)) a k ≡ neg_ℤ (total g a k)
unfolding total
total_neg g a zero = refl
total_neg g a (suc k) = ap (◌+ℤ neg_ℤ (g (a + k))) (total_neg g a k) ∙ sym (neg_ℤ-+ℤ (total g a k) (g (a + k)))

pub total_sub : (g h : ℕ → ℤ) (a k : ℕ) → total (λ i. g i -ℤ h i) a k ≡ total g a k -ℤ total h a k
total_sub g h a k = total_add g (λ i. neg_ℤ (h i)) a k ∙ ap (total g a k +ℤ◌) (total_neg h a k)

pub total_scale : (z : ℤ) (g : ℕ → ℤ) (a k : ℕ) → total (λ i. z *ℤ g i) a k ≡ z *ℤ total g a k
unfolding total
total_scale z g a zero = sym (*ℤ-zero z)
total_scale z g a (suc k) = ap (◌+ℤ z *ℤ g (a + k)) (total_scale z g a k) ∙ sym (*ℤ-add z (total g a k) (g (a + k)))

pub total_const : (z : ℤ) (a k : ℕ) → total (λ i. z) a k ≡ pos k *ℤ z
unfolding total
total_const z a zero = sym (zero-*ℤ z)
total_const z a (suc k) = ap (◌+ℤ z) (total_const z a k) ∙ sym (suc-*ℤ k z)

pub total_shift : (g : ℕ → ℤ) (a m k : ℕ) → total (λ i. g (i + m)) a k ≡ total g (a + m) k
unfolding total
total_shift g a m zero = refl
total_shift g a m (suc k) = ap₂ ◌+ℤ◌ (total_shift g a m k) (ap g {x = a + k + m} {y = a + m + k} (omega arith))

-- s times a sum beside another, where s times each term lies within c of the other's
pub total_near : (f g : ℕ → ℤ) (s c k : ℕ) → ((u : ℕ) → nat_abs (pos s *ℤ f u -ℤ g u) ≤ c)
    → nat_abs (pos s *ℤ total f 0 k -ℤ total g 0 k) ≤ k * c
total_near f g s c k h =
    subst (λ (z : ℤ). nat_abs z ≤ k * c)
    (total_sub (λ u. pos s *ℤ f u) g 0 k ∙ ap (◌-ℤ total g 0 k) (total_scale (pos s) f 0 k))
    (total_within (λ u. pos s *ℤ f u -ℤ g u) 0 k c (λ u _ _. h u))

-- terms that come again after m: k times the sum of m, and a rest of r
pub total_periods : (g : ℕ → ℤ) (m : ℕ) → ((u : ℕ) → g (u + m) ≡ g u) → (k r : ℕ)
    → total g 0 (k * m + r) ≡ pos k *ℤ total g 0 m +ℤ total g 0 r
total_periods g m again zero r =
    ap (total g 0) (rw (zero-mul m) (zero-add r))
    ∙ sym (ap (◌+ℤ total g 0 r) (zero-*ℤ (total g 0 m)) ∙ +ℤ_idl (total g 0 r))
total_periods g m again (suc k) r =
    let e : suc k * m + r ≡ m + (k * m + r) = omega (arith, suc-mul k m) in
    let t = total g 0 m in
    ap (total g 0) e
    ∙ total_split g 0 m (k * m + r)
    ∙ ap (t +ℤ◌)
    (sym (total_shift g 0 m (k * m + r))
    ∙ total_same (λ i. g (i + m)) g 0 (k * m + r) (λ i _ _. again i)
    ∙ total_periods g m again k r)
    ∙ sym (+ℤ_assoc t (pos k *ℤ t) (total g 0 r))
    ∙ ap (◌+ℤ total g 0 r) (+ℤ_comm t (pos k *ℤ t) ∙ sym (suc-*ℤ k t))

-- ---- count

pub count_zero : (f : ℕ → ℕ) → count f 0 ≡ 0
unfolding count
count_zero f = refl

pub count_next : (f : ℕ → ℕ) (k : ℕ) → count f (suc k) ≡ count f k + f k
unfolding count
count_next f k = refl

pub count_split : (f : ℕ → ℕ) (j k : ℕ) → count f (j + k) ≡ count f j + count (λ i. f (j + i)) k
unfolding count
count_split f j zero = ap (count f) (add-zero j) ∙ sym (add-zero (count f j))
count_split f j (suc k) = ap (count f) (add-suc j k) ∙ omega (arith, count_split f j k)

pub count_same : (f g : ℕ → ℕ) (k : ℕ) → ((i : ℕ) → i < k → f i ≡ g i) → count f k ≡ count g k
unfolding count
count_same f g zero e = refl
count_same f g (suc k) e = ap₂ ◌+◌ (count_same f g k (λ i p. e i (omega arith))) (e k (omega arith))

pub count_le : (f g : ℕ → ℕ) (k : ℕ) → ((i : ℕ) → i < k → f i ≤ g i) → count f k ≤ count g k
unfolding count
count_le f g zero e = le_refl 0
count_le f g (suc k) e = add-le-add (count_le f g k (λ i p. e i (omega arith))) (e k (omega arith))

pub count_scale : (m : ℕ) (f : ℕ → ℕ) (k : ℕ) → count (λ i. m * f i) k ≡ m * count f k
unfolding count
count_scale m f zero = omega arith
count_scale m f (suc k) = omega (arith, count_scale m f k)

pub count_const : (c k : ℕ) → count (λ i. c) k ≡ k * c
unfolding count
count_const c zero = omega arith
count_const c (suc k) = omega (arith, count_const c k)

-- the first term first
pub count_first : (f : ℕ → ℕ) (k : ℕ) → count f (suc k) ≡ f 0 + count (λ i. f (suc i)) k
unfolding count
count_first f zero = omega arith
count_first f (suc k) = omega (arith, count_first f k)

-- the terms in the other order: g k + .. + g 1 is g 1 + .. + g k
pub count_turned : (g : ℕ → ℕ) (k : ℕ) → count (λ i. g (k - i)) k ≡ count (λ i. g (suc i)) k
unfolding count
count_turned g zero = refl
count_turned g (suc k) =
    count_first (λ i. g (suc k - i)) k ∙ simp (suc-sub-suc, sub-zero) (omega (arith, count_turned g k))
