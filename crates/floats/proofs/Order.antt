-- Comparisons of doubles as comparisons of whole numbers. `lt_value`, `le_value`, `eq_value`: of two finite values with
-- any signs, by any fractions that they equal, cross-multiplied. `le_positive`: of two that are not negative. Then
-- those with an infinity and with a NaN.
use Rattle.std.proofs.Common.{◌≡◌, ℕ, zero, suc, ◌+◌, ◌*◌, ◌<◌, Bool, true, false, ◌&&◌, ◌||◌, T, eqb, ltb, leb, ◌⊎◌, ℤ, sym, refl, ap, ◌∙◌, inl, inr, le_of_eq, le_of_lt, mul_assoc, mul_comm, add-mul, lt_of_mul-lt-mul_right, eq-or-lt_of_le, mul-lt-mul_of_pos_right, mul-pos, zero-mul, mul_left_comm, arith, le→leb, eqb→eq, ltb→lt, lt→ltb, leb→le}
use native.Mathlib.Nat.{eq_of_mul-eq-mul_right}
use mathlib.Core.Bool.{beq, false≢true}
use lib.Ieee.{Float, nan, inf, fin, up, down, below, level, lt, eq, le}
use lib.Ieee.Fits.{eq→eqb, and_i, and_l, and_r, down_pos}
use lib.Ieee.Exact.{HasValue}

-- ---- tests

pub never : {A : Type 0} → false ≡ true → A
never h = absurd (false≢true h)

-- tests that pass together are equal
pub same_test : (a b : Bool) → (T a → T b) → (T b → T a) → a ≡ b
same_test true true f g = refl
same_test true false f g = absurd (f tt)
same_test false true f g = absurd (g tt)
same_test false false f g = refl

-- ---- both sides times k

module _ (k : ℕ) (h : 0 < k) where
  ltb-mul : (p q : ℕ) → ltb p q ≡ ltb (p * k) (q * k)
  ltb-mul p q = same_test (ltb p q) (ltb (p * k) (q * k))
      (λ t. lt→ltb (p * k) (q * k) (mul-lt-mul_of_pos_right (ltb→lt p q t) h))
      (λ t. lt→ltb p q (lt_of_mul-lt-mul_right k (ltb→lt (p * k) (q * k) t)))

  eqb-mul : (p q : ℕ) → eqb p q ≡ eqb (p * k) (q * k)
  eqb-mul p q = same_test (eqb p q) (eqb (p * k) (q * k)) (λ t. eq→eqb (ap (λ (x : ℕ). x * k) (eqb→eq p q t)))
      (λ t. eq→eqb (eq_of_mul-eq-mul_right k h p q (eqb→eq (p * k) (q * k) t)))

  below-mul : (s : Bool) (p : ℕ) (t : Bool) (q : ℕ) → below s p t q ≡ below s (p * k) t (q * k)
  below-mul false p false q = ltb-mul p q
  below-mul false p true q = refl
  below-mul true p false q = ltb-mul 0 (p + q) ∙ ap (λ (x : ℕ). ltb x ((p + q) * k)) (zero-mul k)
      ∙ ap (λ (x : ℕ). ltb 0 x) (add-mul p q k)
  below-mul true p true q = ltb-mul q p

  level-mul : (s : Bool) (p : ℕ) (t : Bool) (q : ℕ) → level s p t q ≡ level s (p * k) t (q * k)
  level-mul s p t q =
      ap (λ (x : Bool). x && (beq s t || eqb p 0)) (eqb-mul p q)
      ∙ ap (λ (x : Bool). eqb (p * k) (q * k) && (beq s t || x))
      (eqb-mul p 0 ∙ ap (λ (x : ℕ). eqb (p * k) x) (zero-mul k))

-- ---- ±p ≤ ±q

abbrev pub at_most : Bool → ℕ → Bool → ℕ → Bool
at_most false p false q = leb p q
at_most false p true q = eqb p 0 && eqb q 0
at_most true p false q = true
at_most true p true q = leb q p

pub or_l : (a b : Bool) → T a → T (a || b)
or_l true b t = tt
or_l false b t = absurd t

pub or_r : (a b : Bool) → T b → T (a || b)
or_r true b t = tt
or_r false b t = t

pub or_split : {A : Type 0} (a b : Bool) → (T a → A) → (T b → A) → T (a || b) → A
or_split true b f g t = f tt
or_split false b f g t = g t

lt_or_eq : (p q : ℕ) → (ltb p q || (eqb p q && true)) ≡ leb p q
lt_or_eq p q = same_test (ltb p q || (eqb p q && true)) (leb p q)
    (or_split (ltb p q) (eqb p q && true) (λ t. le→leb p q (le_of_lt (ltb→lt p q t)))
    (λ t. le→leb p q (le_of_eq (eqb→eq p q (and_l (eqb p q) true t)))))
    (λ t. go (eq-or-lt_of_le (leb→le p q t)))
  where
    go : (p ≡ q) ⊎ (p < q) → T (ltb p q || (eqb p q && true))
    go (inl e) = or_r (ltb p q) (eqb p q && true) (and_i (eqb p q) true (eq→eqb e) tt)
    go (inr l) = or_l (ltb p q) (eqb p q && true) (lt→ltb p q l)

-- of two zeros each equals the other
zeros : (p q : ℕ) → (eqb p q && eqb p 0) ≡ (eqb p 0 && eqb q 0)
zeros p q = same_test (eqb p q && eqb p 0) (eqb p 0 && eqb q 0)
    (λ t. let e = eqb→eq p q (and_l (eqb p q) (eqb p 0) t) in let z = eqb→eq p 0 (and_r (eqb p q) (eqb p 0) t) in
    and_i (eqb p 0) (eqb q 0) (eq→eqb z) (eq→eqb (sym e ∙ z)))
    (λ t. let y = eqb→eq p 0 (and_l (eqb p 0) (eqb q 0) t) in let z = eqb→eq q 0 (and_r (eqb p 0) (eqb q 0) t) in
    and_i (eqb p q) (eqb p 0) (eq→eqb (y ∙ sym z)) (eq→eqb y))

some_or_zeros : (p q : ℕ) → T (ltb 0 (p + q) || (eqb p q && eqb p 0))
some_or_zeros zero zero = tt
some_or_zeros (suc p) q = or_l (ltb 0 (suc p + q)) (eqb (suc p) q && eqb (suc p) 0) (lt→ltb 0 (suc p + q) (omega arith))
some_or_zeros zero (suc q) =
    or_l (ltb 0 (zero + suc q)) (eqb zero (suc q) && eqb zero 0) (lt→ltb 0 (zero + suc q) (omega arith))

below_or_level : (s : Bool) (p : ℕ) (t : Bool) (q : ℕ) → (below s p t q || level s p t q) ≡ at_most s p t q
below_or_level false p false q = lt_or_eq p q
below_or_level false p true q = zeros p q
below_or_level true p false q =
    same_test (ltb 0 (p + q) || (eqb p q && eqb p 0)) true (λ t. tt) (λ t. some_or_zeros p q)
below_or_level true p true q =
    ap (λ (x : Bool). ltb q p || (x && true))
    (same_test (eqb p q) (eqb q p) (λ t. eq→eqb (sym (eqb→eq p q t))) (λ t. eq→eqb (sym (eqb→eq q p t)))) ∙ lt_or_eq q p

-- ---- two finite values

-- n / l is a / c, and so n * r * (c * d) is a * d * (l * r), whatever r and d are
cross : (n l a c d r : ℕ) → n * c ≡ a * l → n * r * (c * d) ≡ a * d * (l * r)
cross n l a c d r h =
    simp (mul_assoc, mul_comm, mul_left_comm)
    (simp (mul_assoc, mul_comm, mul_left_comm) at (ap (λ (x : ℕ). x * (r * d)) h))

module _ (s : Bool) (a c : ℕ) (t : Bool) (b d : ℕ) (C : 0 < c) (D : 0 < d) where
  -- a test that is the same with both sides times k, at x = n / l and y = m / r
  by_value : (test : Bool → ℕ → Bool → ℕ → Bool)
      → ((k : ℕ) → 0 < k → (u : Bool) (p : ℕ) (v : Bool) (q : ℕ) → test u p v q ≡ test u (p * k) v (q * k))
      → (u v : Bool) (n l m r : ℕ) → 0 < l → 0 < r → u ≡ s → v ≡ t → n * c ≡ a * l → m * d ≡ b * r
      → test u (n * r) v (m * l) ≡ test s (a * d) t (b * c)
  by_value test scale u v n l m r L R e f g h =
      ap (λ (w : Bool). test w (n * r) v (m * l)) e
      ∙ ap (λ (w : Bool). test s (n * r) w (m * l)) f
      ∙ scale (c * d) (mul-pos C D) s (n * r) t (m * l)
      ∙ ap (λ (w : ℕ). test s w t (m * l * (c * d))) (cross n l a c d r g)
      ∙ ap (λ (w : ℕ). test s (a * d * (l * r)) t w)
      (ap (λ (w : ℕ). m * l * w) (mul_comm c d) ∙ cross m r b d c l h ∙ ap (λ (w : ℕ). b * c * w) (mul_comm r l))
      ∙ sym (scale (l * r) (mul-pos L R) s (a * d) t (b * c))

  pub lt_value : (x y : Float) → HasValue x s a c → HasValue y t b d → lt x y ≡ below s (a * d) t (b * c)
  unfolding lt
  lt_value nan y h k = absurd h
  lt_value (inf u) y h k = absurd h
  lt_value (fin u m e) nan h k = absurd k
  lt_value (fin u m e) (inf v) h k = absurd k
  lt_value (fin u m e) (fin v n g) h k =
      by_value below below-mul u v (m * up e) (down e) (n * up g) (down g) (down_pos e) (down_pos g) h.0 k.0
      h.1 k.1

  pub eq_value : (x y : Float) → HasValue x s a c → HasValue y t b d → eq x y ≡ level s (a * d) t (b * c)
  unfolding eq
  eq_value nan y h k = absurd h
  eq_value (inf u) y h k = absurd h
  eq_value (fin u m e) nan h k = absurd k
  eq_value (fin u m e) (inf v) h k = absurd k
  eq_value (fin u m e) (fin v n g) h k =
      by_value level level-mul u v (m * up e) (down e) (n * up g) (down g) (down_pos e) (down_pos g) h.0 k.0
      h.1 k.1

  pub le_value : (x y : Float) → HasValue x s a c → HasValue y t b d → le x y ≡ at_most s (a * d) t (b * c)
  unfolding le
  le_value x y h k =
      ap (λ (w : Bool). w || eq x y) (lt_value x y h k)
      ∙ ap (λ (w : Bool). below s (a * d) t (b * c) || w) (eq_value x y h k)
      ∙ below_or_level s (a * d) t (b * c)

-- neither is negative
module _ (x y : Float) (a c b d : ℕ) (C : 0 < c) (D : 0 < d) (h : HasValue x false a c) (k : HasValue y false b d) where
  pub le_positive : le x y ≡ leb (a * d) (b * c)
  le_positive = le_value false a c false b d C D x y h k

-- ---- an infinity beside a finite value, and a NaN beside any

pub inf_lt : (s t : Bool) (n : ℕ) (d : ℤ) → lt (inf s) (fin t n d) ≡ s
unfolding lt
inf_lt s t n d = refl

pub inf_le : (s t : Bool) (n : ℕ) (d : ℤ) → le (inf s) (fin t n d) ≡ s
unfolding le
inf_le true t n d = refl
inf_le false t n d = refl

pub nan_le : (y : Float) → le nan y ≡ false
unfolding le
nan_le y = refl
