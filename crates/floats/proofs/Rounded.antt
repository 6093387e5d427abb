-- Bounds on doubles. Rounding keeps the order, so what lies between two values that the format holds is rounded to
-- something between them: `quarters_round`. `Quarters s p q z`: z has the sign s, and is from p to q quarters in size.
-- `Bounded B z`: z is finite, and at most B in size. `AtLeastOne z`: z is finite, and at least 1 in size. Then what the
-- operations make of them.
use Rattle.std.proofs.Common.{◌≡◌, ℕ, suc, ◌+◌, ◌-◌, ◌*◌, ◌^◌, ◌<◌, ◌≤◌, Bool, true, false, cond, not, ◌&&◌, T, eqb, ltb, ℤ, pos, negsuc, nat_abs, sym, ap, ◌∙◌, subst, true≢false, le_trans, le_of_eq, lt_of_lt_of_le, lt_of_le_of_lt, lt_irrefl, mul-le-mul_right, zero-lt-suc, mul_assoc, mul_comm, mul-le-mul, lt_of_mul-lt-mul_right, mul-pos, zero-mul, le_of_mul-le-mul_right, arith, lit≤, eqb→eq, ltb→lt, leb→le, nltb→le, pow_pos, shl_lt, le-ltb, eq-eqb}
use native.Mathlib.Nat.{mul-mul-mul_comm}
use mathlib.Core.Bool.{beq}
use lib.Ieee.{Float, nan, inf, fin, binary64, up, down, unlike, round, neg, sum, add, sub, mul, div, le, eq, of_int}
use lib.Ieee.Fits.{round_is, down_pos}
use lib.Ieee.Exact.{HasValue, units_val, round_exact}
use lib.Ieee.Order.{drop, kept, round_mono}
use lib.Ieee.Scale.{finite, grid, overflow, round_val, round_under}
use Rattle.floats.proofs.Order.{le_positive}

abbrev pub Quarters : Bool → ℕ → ℕ → Float → Type 0
Quarters s p q nan = ⊥
Quarters s p q (inf t) = ⊥
Quarters s p q (fin t m e) = (t ≡ s) × (p * down e ≤ m * up e * 4) × (m * up e * 4 ≤ q * down e)

abbrev pub Bounded : ℕ → Float → Type 0
Bounded B nan = ⊥
Bounded B (inf s) = ⊥
Bounded B (fin s m e) = m * up e ≤ B * down e

abbrev pub AtLeastOne : Float → Type 0
AtLeastOne nan = ⊥
AtLeastOne (inf s) = ⊥
AtLeastOne (fin s m e) = down e ≤ m * up e

-- ---- a rounded fraction

quarters_held : (q : ℕ) → q < 2 ^ 53 → HasValue (round binary64 false q 4) false q 4
quarters_held q h = round_exact binary64 false q 4 q 1072 (zero-lt-suc 3) h
    (lt_of_lt_of_le (shl_lt 53 1072 h) (lit≤ tt)) (sym (mul_assoc q (2 ^ 1072) 4))

finite_between : (x z y : Float) (a c b d : ℕ) → HasValue x false a c → HasValue y false b d → T (le x z) → T (le z y)
    → T (finite z)
unfolding le
finite_between nan z y a c b d v w h k = absurd v
finite_between (inf s) z y a c b d v w h k = absurd v
finite_between (fin s m e) nan y a c b d v w h k = absurd h
finite_between (fin s m e) (inf true) y a c b d v w h k = absurd h
finite_between (fin s m e) (inf false) nan a c b d v w h k = absurd w
finite_between (fin s m e) (inf false) (inf t) a c b d v w h k = absurd w
finite_between (fin s m e) (inf false) (fin t n g) a c b d v w h k = absurd k
finite_between (fin s m e) (fin t n g) y a c b d v w h k = tt

-- the value with a sign is the value without one
signed_value : (s : Bool) (a c : ℕ) → grid binary64 a c < overflow binary64
    → HasValue (round binary64 s a c) s (grid binary64 a c) (2 ^ 1074)
signed_value s a c h =
    subst (λ (z : Float). HasValue z s (grid binary64 a c) (2 ^ 1074)) (sym (round_is binary64 s a c))
    (units_val binary64 s (kept 53 (a * 2 ^ 1074) c) (drop 53 (a * 2 ^ 1074) c) h)

quarters_value : (s : Bool) (p q : ℕ) (z : Float) (g l : ℕ) → 0 < l → HasValue z s g l → p * l ≤ g * 4 → g * 4 ≤ q * l
    → Quarters s p q z
quarters_value s p q nan g l L v h k = v
quarters_value s p q (inf t) g l L v h k = v
quarters_value s p q (fin t m e) g l L v h k =
    let low : p * down e * l ≤ m * up e * 4 * l = omega (arith, mul-le-mul_right (down e) h, v.1) in
    let high : m * up e * 4 * l ≤ q * down e * l = omega (arith, mul-le-mul_right (down e) k, v.1) in
    (v.0, le_of_mul-le-mul_right low L, le_of_mul-le-mul_right high L)

pub quarters_round : (s : Bool) (a c p q : ℕ) → 0 < c → p * c ≤ a * 4 → a * 4 ≤ q * c → q < 2 ^ 53
    → Quarters s p q (round binary64 s a c)
quarters_round s a c p q C h k b =
    let four = zero-lt-suc 3 in
    let unit = pow_pos 1074 in
    let lo = round binary64 false p 4 in
    let z = round binary64 false a c in
    let hi = round binary64 false q 4 in
    let lo-is = quarters_held p (lt_of_le_of_lt (le_of_mul-le-mul_right (le_trans h k) C) b) in
    let hi-is = quarters_held q b in
    let above = round_mono binary64 p 4 a c four C h in
    let below = round_mono binary64 a c q 4 C four k in
    let under = round_under binary64 a c (finite_between lo z hi p 4 q 4 lo-is hi-is above below) in
    let g = grid binary64 a c in
    let z-is = round_val binary64 a c under in
    quarters_value s p q (round binary64 s a c) g (2 ^ 1074) unit (signed_value s a c under)
    (leb→le (p * 2 ^ 1074) (g * 4) (subst T (le_positive lo z p 4 g (2 ^ 1074) four unit lo-is z-is) above))
    (leb→le (g * 4) (q * 2 ^ 1074) (subst T (le_positive z hi g (2 ^ 1074) q 4 unit four z-is hi-is) below))

-- ---- quarters: a product by a whole number, and the sum with one

product : (s : Bool) (p q m : ℕ) (e : ℤ) (n : ℕ) (g : ℤ) (d : ℕ) → q * d < 2 ^ 53 → p * down e ≤ m * up e * 4
    → m * up e * 4 ≤ q * down e
    → n * up g * 1 ≡ d * down g
    → Quarters s (p * d) (q * d) (round binary64 s (m * up e * (n * up g)) (down e * down g))
product s p q m e n g d b h k v =
    let whole = ap (λ (z : ℕ). m * up e * 4 * z) v in
    quarters_round s (m * up e * (n * up g)) (down e * down g) (p * d) (q * d) (mul-pos (down_pos e) (down_pos g))
    (omega (arith, mul-le-mul_right (d * down g) h, whole)) (omega (arith, mul-le-mul_right (d * down g) k, whole)) b

pub quarters_mul : (p q : ℕ) (x y : Float) (s : Bool) (d : ℕ) → q * d < 2 ^ 53 → Quarters false p q x → HasValue y s d 1
    → Quarters s (p * d) (q * d) (mul binary64 x y)
unfolding mul
quarters_mul p q nan y s d b h v = absurd h
quarters_mul p q (inf t) y s d b h v = absurd h
quarters_mul p q (fin true m e) y s d b h v = absurd (true≢false h.0)
quarters_mul p q (fin false m e) nan s d b h v = absurd v
quarters_mul p q (fin false m e) (inf u) s d b h v = absurd v
quarters_mul p q (fin false m e) (fin u n g) s d b h v =
    subst (λ (t : Bool). Quarters t (p * d) (q * d) (mul binary64 (fin false m e) (fin u n g))) v.0 (go u)
  where
    go : (t : Bool) → Quarters t (p * d) (q * d)
        (round binary64 (unlike false t) (m * up e * (n * up g)) (down e * down g))
    go true = product true p q m e n g d b h.1 h.2 v.1
    go false = product false p q m e n g d b h.1 h.2 v.1

pub quarters_add : (x y : Float) (v p q l h : ℕ) → h < 2 ^ 53 → HasValue x false v 1 → Quarters false p q y
    → l ≤ 4 * v + p → 4 * v + q ≤ h
    → Quarters false l h (add binary64 x y)
unfolding add sum
quarters_add nan y v p q l h b w k c d = w
quarters_add (inf t) y v p q l h b w k c d = absurd w
quarters_add (fin t m e) nan v p q l h b w k c d = absurd k
quarters_add (fin t m e) (inf u) v p q l h b w k c d = absurd k
quarters_add (fin true m e) (fin u n g) v p q l h b w k c d = absurd (true≢false w.0)
quarters_add (fin false m e) (fin true n g) v p q l h b w k c d = absurd (true≢false k.0)
quarters_add (fin false m e) (fin false n g) v p q l h b w k c d =
    let whole = ap (λ (z : ℕ). z * down g) w.1 in
    quarters_round false (m * up e * down g + n * up g * down e) (down e * down g) l h
    (mul-pos (down_pos e) (down_pos g))
    (omega (arith, whole, mul-le-mul_right (down e) k.1, mul-le-mul_right (down e * down g) c))
    (omega (arith, whole, mul-le-mul_right (down e) k.2, mul-le-mul_right (down e * down g) d)) b

pub quarters_sub : (x y : Float) (v p q l h : ℕ) → h < 2 ^ 53 → HasValue x false v 1 → Quarters true p q y
    → l + q ≤ 4 * v → 4 * v ≤ h + p
    → Quarters false l h (add binary64 x y)
unfolding add sum
quarters_sub nan y v p q l h b w k c d = w
quarters_sub (inf t) y v p q l h b w k c d = absurd w
quarters_sub (fin t m e) nan v p q l h b w k c d = absurd k
quarters_sub (fin t m e) (inf u) v p q l h b w k c d = absurd k
quarters_sub (fin true m e) (fin u n g) v p q l h b w k c d = absurd (true≢false w.0)
quarters_sub (fin false m e) (fin false n g) v p q l h b w k c d = absurd (true≢false (sym k.0))
quarters_sub (fin false m e) (fin true n g) v p q l h b w k c d =
    let whole = ap (λ (z : ℕ). z * down g) w.1 in
    let least = mul-le-mul_right (down e) k.1 in
    let most = mul-le-mul_right (down e) k.2 in
    let down_to = mul-le-mul_right (down e * down g) c in
    rw (le-ltb (m * up e * down g) (n * up g * down e) (omega (arith, whole, most, down_to)))
    (quarters_round false (m * up e * down g - n * up g * down e) (down e * down g) l h
    (mul-pos (down_pos e) (down_pos g))
    (omega (arith, whole, most, down_to)) (omega (arith, whole, least, mul-le-mul_right (down e * down g) d)) b)

-- ---- at most B in size

most_of_quarters : (s : Bool) (p B : ℕ) (z : Float) → Quarters s p (4 * B) z → Bounded B z
most_of_quarters s p B nan h = h
most_of_quarters s p B (inf t) h = h
most_of_quarters s p B (fin t m e) h = omega (arith, h.2)

pub bounded_round : (s : Bool) (a c B : ℕ) → 0 < c → a ≤ B * c → B ≤ 2 ^ 50 → Bounded B (round binary64 s a c)
bounded_round s a c B C h b =
    most_of_quarters s 0 B (round binary64 s a c)
    (quarters_round s a c 0 (4 * B) C (omega arith) (omega arith) (omega arith))

pub bounded_int : (z : ℤ) (B : ℕ) → nat_abs z ≤ B → B ≤ 2 ^ 50 → Bounded B (of_int binary64 z)
unfolding of_int
bounded_int (pos n) B h b = bounded_round false n 1 B (zero-lt-suc 0) (omega arith) b
bounded_int (negsuc n) B h b = bounded_round true (suc n) 1 B (zero-lt-suc 0) (omega arith) b

bounded_neg : (B : ℕ) (x : Float) → Bounded B x → Bounded B (neg x)
unfolding neg
bounded_neg B nan h = h
bounded_neg B (inf t) h = h
bounded_neg B (fin t m e) h = h

bounded_cond : (B : ℕ) (t : Bool) (x y : Float) → Bounded B x → Bounded B y → Bounded B (cond t x y)
bounded_cond B true x y h k = h
bounded_cond B false x y h k = k

bounded_sum : (s : Bool) (a : ℕ) (t : Bool) (b c B : ℕ) → 0 < c → a + b ≤ B * c → B ≤ 2 ^ 50
    → Bounded B (sum binary64 s a t b c)
unfolding sum
bounded_sum s a t b c B C h k =
    bounded_cond B (beq s t) _ _ (bounded_round s (a + b) c B C h k)
    (bounded_cond B (ltb a b) _ _ (bounded_round t (b - a) c B C (omega arith) k)
    (bounded_round (s && ltb b a) (a - b) c B C (omega arith) k))

pub bounded_add : (x y : Float) (A B : ℕ) → A + B ≤ 2 ^ 50 → Bounded A x → Bounded B y
    → Bounded (A + B) (add binary64 x y)
unfolding add
bounded_add nan y A B k h g = h
bounded_add (inf s) y A B k h g = absurd h
bounded_add (fin s m e) nan A B k h g = g
bounded_add (fin s m e) (inf t) A B k h g = g
bounded_add (fin s m e) (fin t n d) A B k h g =
    bounded_sum s (m * up e * down d) t (n * up d * down e) (down e * down d) (A + B)
    (mul-pos (down_pos e) (down_pos d))
    (omega (arith, mul-le-mul_right (down d) h, mul-le-mul_right (down e) g)) k

pub bounded_sub : (x y : Float) (A B : ℕ) → A + B ≤ 2 ^ 50 → Bounded A x → Bounded B y
    → Bounded (A + B) (sub binary64 x y)
unfolding sub
bounded_sub x y A B k h g = bounded_add x (neg y) A B k h (bounded_neg B y g)

pub bounded_mul : (x y : Float) (A B : ℕ) → A * B ≤ 2 ^ 50 → Bounded A x → Bounded B y
    → Bounded (A * B) (mul binary64 x y)
unfolding mul
bounded_mul nan y A B k h g = h
bounded_mul (inf s) y A B k h g = absurd h
bounded_mul (fin s m e) nan A B k h g = g
bounded_mul (fin s m e) (inf t) A B k h g = absurd g
bounded_mul (fin s m e) (fin t n d) A B k h g =
    bounded_round (unlike s t) (m * up e * (n * up d)) (down e * down d) (A * B) (mul-pos (down_pos e) (down_pos d))
    (le_trans (mul-le-mul h g) (le_of_eq (mul-mul-mul_comm A (down e) B (down d)))) k

-- a quotient by what is at least 1
pub bounded_div : (x y : Float) (A : ℕ) → A ≤ 2 ^ 50 → Bounded A x → AtLeastOne y → Bounded A (div binary64 x y)
unfolding div
bounded_div nan y A k h g = h
bounded_div (inf s) y A k h g = absurd h
bounded_div (fin s m e) nan A k h g = g
bounded_div (fin s m e) (inf t) A k h g = absurd g
bounded_div (fin s m e) (fin t n d) A k h g = go (eqb n 0) (eqb→eq n 0)
  where
    go : (z : Bool) → (T z → n ≡ 0)
        → Bounded A (cond z (cond (eqb m 0) nan (inf (unlike s t)))
        (round binary64 (unlike s t) (m * up e * down d) (n * up d * down e)))
    go true n0 = absurd (lt_irrefl 0
        (lt_of_lt_of_le (down_pos d) (le_trans g (le_of_eq (ap (λ (z : ℕ). z * up d) (n0 tt) ∙ zero-mul (up d))))))
    go false n0 =
        bounded_round (unlike s t) (m * up e * down d) (n * up d * down e) A
        (mul-pos (lt_of_lt_of_le (down_pos d) g) (down_pos e))
        (le_trans (mul-le-mul h g)
        (le_of_eq (mul_assoc A (down e) (n * up d) ∙ ap (A *◌) (mul_comm (down e) (n * up d))))) k

-- ---- two whole numbers that are not equal are at least 1 apart

least_of_quarters : (s : Bool) (q : ℕ) (z : Float) → Quarters s 4 q z → AtLeastOne z
least_of_quarters s q nan h = h
least_of_quarters s q (inf t) h = h
least_of_quarters s q (fin t m e) h = omega (arith, h.1)

-- k - n of them, over c
one_apart : (s : Bool) (a b c n k : ℕ) → 0 < c → a ≡ n * c → b ≡ k * c → a < b → k ≤ 2 ^ 50
    → AtLeastOne (round binary64 s (b - a) c)
one_apart s a b c n k C p q l k≤ =
    let less : n * c < k * c = omega arith in
    let next = mul-le-mul_right c (lt_of_mul-lt-mul_right c less) in
    least_of_quarters s (4 * k) (round binary64 s (b - a) c)
    (quarters_round s (b - a) c 4 (4 * k) C (omega (arith, next)) (omega arith) (omega arith))

difference : (a b c n k : ℕ) → 0 < c → a ≡ n * c → b ≡ k * c → (a ≡ b → ⊥) → n ≤ 2 ^ 50 → k ≤ 2 ^ 50
    → AtLeastOne (sum binary64 false a true b c)
unfolding sum
difference a b c n k C p q d n≤ k≤ = go (ltb a b) (ltb→lt a b) (nltb→le a b)
  where
    go : (t : Bool) → (T t → a < b) → (T (not t) → b ≤ a)
        → AtLeastOne (cond t (round binary64 true (b - a) c) (round binary64 false (a - b) c))
    go true l g = one_apart true a b c n k C p q (l tt) k≤
    go false l g = let h : b ≤ a = g tt in one_apart false b a c k n C q p (omega arith) n≤

pub differ_by_one : (x y : Float) (n k : ℕ) → HasValue x false n 1 → HasValue y false k 1 → n ≤ 2 ^ 50 → k ≤ 2 ^ 50
    → eq x y ≡ false
    → AtLeastOne (sub binary64 x y)
unfolding sub add neg eq
differ_by_one nan y n k v w n≤ k≤ u = v
differ_by_one (inf s) y n k v w n≤ k≤ u = absurd v
differ_by_one (fin s m e) nan n k v w n≤ k≤ u = w
differ_by_one (fin s m e) (inf t) n k v w n≤ k≤ u = w
differ_by_one (fin true m e) (fin t j d) n k v w n≤ k≤ u = absurd (true≢false v.0)
differ_by_one (fin false m e) (fin true j d) n k v w n≤ k≤ u = absurd (true≢false w.0)
differ_by_one (fin false m e) (fin false j d) n k v w n≤ k≤ u =
    difference (m * up e * down d) (j * up d * down e) (down e * down d) n k (mul-pos (down_pos e) (down_pos d))
    (omega (arith, ap (λ (z : ℕ). z * down d) v.1)) (omega (arith, ap (λ (z : ℕ). z * down e) w.1)) apart n≤ k≤
  where
    apart : m * up e * down d ≡ j * up d * down e → ⊥
    apart same = true≢false (sym (ap (◌&& true) (eq-eqb (m * up e * down d) (j * up d * down e) same)) ∙ u)
