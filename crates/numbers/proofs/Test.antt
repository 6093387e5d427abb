-- Laws of tests that `lib.Dec`, `borrow.Author.Tests` and `mathlib.Core.Bool` lack. In order: a test's two cases, with
-- the equation; false is not true; tests that hold together are equal; `&&` and `||`; a test and the
-- fact that it tells; `cond`.
--
-- Not here: `ltb-true`, `lt-ltb` and their like, between a test and its fact (`borrow.Author.Tests`);
-- `and-eq-true_iff`, `&&` into a pair and back, and `or-eq-true_iff` (`mathlib.Core.Bool`).
use mathlib.Core.Path.{◌≡◌, refl, sym, ◌∙◌}
use mathlib.Core.Bool.{Bool, true, false, ◌&&◌, ◌||◌, cond, true≢false, false≢true}
use mathlib.Core.Logic.{◌⊎◌, inl, inr, ⊎_elim, ◌↔◌}
use Prim.Native.Nat.{ℕ, ◌≤◌, ◌<◌}
use borrow.Author.Tests.{eqb-true, eqb-false, eq-eqb, ltb-true, lt-ltb, leb-true, le-leb}
use lib.Dec.{eqb, ltb, leb}

-- ---- two cases, with the equation

pub bool_cases : (b : Bool) → (b ≡ true) ⊎ (b ≡ false)
bool_cases true = inl refl
bool_cases false = inr refl

-- what holds where b is true and where it is false holds
pub by_test {ℓ} : {P : Type ℓ} (b : Bool) → (b ≡ true → P) → (b ≡ false → P) → P
by_test b f g = ⊎_elim f g (bool_cases b)

-- ---- false is not true

pub false_not_true : {b : Bool} → b ≡ false → b ≡ true → ⊥
false_not_true e q = false≢true (sym e ∙ q)

pub false_of_not : (b : Bool) → (b ≡ true → ⊥) → b ≡ false
false_of_not true h = absurd (h refl)
false_of_not false h = refl

-- tests that hold together are equal
pub bool_ext : (a b : Bool) → (a ≡ true → b ≡ true) → (b ≡ true → a ≡ true) → a ≡ b
bool_ext true b f g = sym (f refl)
bool_ext false b f g = sym (false_of_not b (λ e. false≢true (g e)))

-- ---- `&&` and `||`

pub and_false_right : (a : Bool) {b : Bool} → b ≡ false → (a && b) ≡ false
and_false_right true e = e
and_false_right false e = refl

pub or_cases : (a b : Bool) → (a || b) ≡ true → (a ≡ true) ⊎ (b ≡ true)
or_cases true b e = inl refl
or_cases false b e = inr e

pub or_false_intro : {a b : Bool} → a ≡ false → b ≡ false → (a || b) ≡ false
or_false_intro p q = rw (p, q)

pub or_false_left : (a b : Bool) → (a || b) ≡ false → a ≡ false
or_false_left true b e = e
or_false_left false b e = refl

pub or_false_right : (a b : Bool) → (a || b) ≡ false → b ≡ false
or_false_right true b e = absurd (true≢false e)
or_false_right false b e = e

-- a holds where b or c does
pub or_ext : (a b c : Bool) → (a ≡ true → (b ≡ true) ⊎ (c ≡ true)) → (b ≡ true → a ≡ true) → (c ≡ true → a ≡ true)
    → a ≡ (b || c)
or_ext a true c f g h = g refl
or_ext a false true f g h = h refl
or_ext a false false f g h = false_of_not a (λ e. ⊎_elim false≢true false≢true (f e))

-- a holds where b does and at the place i: how a test on places goes on by one place
pub or_place : (a b : Bool) (i j : ℕ) → (a ≡ true → (j ≡ i → ⊥) → b ≡ true) → (b ≡ true → a ≡ true) → (j ≡ i → a ≡ true)
    → a ≡ (b || eqb j i)
or_place a b i j f g h =
    or_ext a b (eqb j i) (λ e. by_test (eqb j i) inr (λ q. inl (f e (eqb-false j i q)))) g (λ e. h (eqb-true j i e))

-- ---- a test and the fact that it tells

pub eqb_iff : (m n : ℕ) → (eqb m n ≡ true) ↔ (m ≡ n)
eqb_iff m n = (eqb-true m n, eq-eqb m n)

pub ltb_iff : (m n : ℕ) → (ltb m n ≡ true) ↔ (m < n)
ltb_iff m n = (ltb-true m n, lt-ltb m n)

-- orders that hold together
pub leb_same : (m n p q : ℕ) → (m ≤ n → p ≤ q) → (p ≤ q → m ≤ n) → leb m n ≡ leb p q
leb_same m n p q f g =
    bool_ext (leb m n) (leb p q) (λ t. le-leb p q (f (leb-true m n t))) (λ t. le-leb m n (g (leb-true p q t)))

-- a test that fails
pub false_iff {ℓ} : {A : Type ℓ} (a : Bool) → (a ≡ true) ↔ A → (a ≡ false) ↔ (A → ⊥)
false_iff a f = (λ e x. false_not_true e (f.1 x), λ h. false_of_not a (λ e. h (f.0 e)))

module _ {ℓ κ} {A : Type ℓ} {B : Type κ} where
  pub or_iff : (a b : Bool) → (a ≡ true) ↔ A → (b ≡ true) ↔ B → ((a || b) ≡ true) ↔ (A ⊎ B)
  or_iff true b f g = (λ _. inl (f.0 refl), λ _. refl)
  or_iff false b f g = (λ e. inr (g.0 e), ⊎_elim (λ x. absurd (false≢true (f.1 x))) g.1)

  pub and_false_iff : (a b : Bool) → (a ≡ true) ↔ A → (b ≡ true) ↔ B → ((a && b) ≡ false) ↔ ((A → ⊥) ⊎ (B → ⊥))
  and_false_iff true b f g =
      (λ e. inr ((false_iff b g).0 e), ⊎_elim (λ h. absurd (h (f.0 refl))) (false_iff b g).1)
  and_false_iff false b f g = (λ _. inl ((false_iff false f).0 refl), λ _. refl)

-- ---- `cond`

-- what holds of both holds of the choice
pub cond_both {ℓ κ} : {A : Type ℓ} (P : A → Type κ) (b : Bool) (x y : A) → P x → P y → P (cond b x y)
cond_both P true x y h k = h
cond_both P false x y h k = k

-- a function of a choice is the choice of its values
pub ap_cond {ℓ κ} : {A : Type ℓ} {B : Type κ} (f : A → B) (b : Bool) (x y : A) → f (cond b x y) ≡ cond b (f x) (f y)
ap_cond f true x y = refl
ap_cond f false x y = refl
