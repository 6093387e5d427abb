-- Radix selection over keys: the digit in which the running sum of a pass's counts goes past the wanted place, and what
-- it says of the key at that place.
use mathlib.Core.Path.{◌≡◌, refl, sym, ap, ◌∙◌, subst}
use mathlib.Core.Bool.{Bool, true, false, not, cond}
use mathlib.Core.List.{List, [], ◌∷◌}
use Prim.Native.Nat.{ℕ, suc, ◌+◌, ◌-◌, ◌*◌, ◌/◌, ◌≤◌, ◌<◌}
use native.Mathlib.Nat.{zero-add, add-zero, add-suc, mul_assoc, mul-one, suc-mul, div-lt_iff_lt-mul, le-div_iff_mul-le}
use native.Mathlib.Omega.{arith}
use lib.Dec.{T, ltb, eqb, ltb→lt, nltb→le}
use lib.ListN.{length, get_or}
use borrow.Author.Tests.{lt-ltb, le-ltb, eq-eqb, ne_eqb, ltb-true, ltb-false}
use Rattle.std.specs.List.{AllByRecursion as Each}
use Rattle.blur.specs.Select.{pick_from}
use Rattle.numbers.proofs.Each.{each_map}
use Rattle.blur.proofs.Place.{bit, count, under, At, under_mono, under_none, count_le}

-- how many keys have the part q above the unit u
abbrev pub having : ℕ → ℕ → List ℕ → ℕ
having q u l = count (λ y. eqb (y / u) q) l

-- ---- a part is the difference of two counts
one_part : (y q u : ℕ) → 0 < u → bit (ltb y (suc q * u)) ≡ bit (ltb y (q * u)) + bit (eqb (y / u) q)
one_part y q u U = go (ltb (y / u) q) (ltb q (y / u)) (ltb→lt (y / u) q) (nltb→le (y / u) q) (ltb→lt q (y / u))
    (nltb→le q (y / u))
  where
    go : (a b : Bool) → (T a → y / u < q) → (T (not a) → q ≤ y / u) → (T b → q < y / u) → (T (not b) → y / u ≤ q)
        → bit (ltb y (suc q * u)) ≡ bit (ltb y (q * u)) + bit (eqb (y / u) q)
    go true b f f' g g' =
        let h : y < q * u = (div-lt_iff_lt-mul U).0 (f tt) in
        let k : y < suc q * u = (div-lt_iff_lt-mul U).0 (omega (arith, f tt)) in
        rw (lt-ltb y (q * u) h, lt-ltb y (suc q * u) k, ne_eqb (y / u) q (λ e. omega (arith, f tt))) refl
    go false true f f' g g' =
        let h : q * u ≤ y = below q (f' tt) in
        let k : suc q * u ≤ y = below (suc q) (g tt) in
        rw (le-ltb y (q * u) h, le-ltb y (suc q * u) k, ne_eqb (y / u) q (λ e. omega (arith, g tt))) refl
      where
        below : (t : ℕ) → t ≤ y / u → t * u ≤ y
        below t h = (le-div_iff_mul-le U).0 h
    go false false f f' g g' =
        let h : q * u ≤ y = (le-div_iff_mul-le U).0 (f' tt) in
        let k : y < suc q * u = (div-lt_iff_lt-mul U).0 (omega (arith, g' tt)) in
        rw (le-ltb y (q * u) h, lt-ltb y (suc q * u) k, eq-eqb (y / u) q (omega (arith, f' tt, g' tt))) refl

pub under_part : (l : List ℕ) (q u : ℕ) → 0 < u → under (suc q * u) l ≡ under (q * u) l + having q u l
under_part [] q u U = refl
under_part (y ∷ l) q u U = omega (arith, one_part y q u U, under_part l q u U)

-- ---- the choice
-- f runs up by the counts; the choice among cs, from the digit d on, is the digit o at which f o ≤ f d + p < f (o + 1)
record Chose (f : ℕ → ℕ) (d p o r : ℕ) : Type 0 where
  reached : f o + r ≡ f d + p
  within : f o + r < f (suc o)

choice : (f : ℕ → ℕ) (cs : List ℕ) (d p : ℕ) → ((i : ℕ) → i < length cs → f (suc (d + i)) ≡ f (d + i) + get_or cs i 0)
    → f d + p < f (d + length cs)
    → Chose f d p (pick_from cs d p).digit (pick_from cs d p).place
choice f [] d p e h = absurd (omega (arith, ap f (add-zero d)))
choice f (c ∷ cs) d p e h = go (ltb p c) refl (choice f cs (suc d) (p - c) rest)
  where
    first : f (suc d) ≡ f d + c
    first = ap (λ (n : ℕ). f (suc n)) (sym (add-zero d)) ∙ e 0 (omega arith) ∙ ap (λ (n : ℕ). f n + c) (add-zero d)

    shift : (i : ℕ) → suc d + i ≡ d + suc i
    shift i = omega arith

    rest : (i : ℕ) → i < length cs → f (suc (suc d + i)) ≡ f (suc d + i) + get_or cs i 0
    rest i k = rw (shift i) (e (suc i) (omega arith))

    later : (o r : ℕ) → c ≤ p → Chose f (suc d) (p - c) o r → Chose f d p o r
    later o r b t = record { reached = omega (arith, first, t.reached); within = t.within }

    go : (b : Bool) → ltb p c ≡ b
        → (f (suc d) + (p - c) < f (suc d + length cs)
        → Chose f (suc d) (p - c) (pick_from cs (suc d) (p - c)).digit (pick_from cs (suc d) (p - c)).place)
        → Chose f d p (cond b (record { digit = d; place = p }) (pick_from cs (suc d) (p - c))).digit
        (cond b (record { digit = d; place = p }) (pick_from cs (suc d) (p - c))).place
    go true t r = record { reached = refl; within = omega (arith, first, ltb-true p c t) }
    go false t r =
        let b : c ≤ p = ltb-false p c t in
        later (pick_from cs (suc d) (p - c)).digit (pick_from cs (suc d) (p - c)).place b
        (r (omega (arith, first, ap f (shift (length cs)), h)))

-- ---- a round: from the digits above the unit u * 8192 to those above u
-- x / u is p, as far as it matters: at most k keys are below p * u, more than k below (p + 1) * u, and r is what k has
-- over the first
pub record Narrowed (k u p r : ℕ) (l : List ℕ) : Type 0 where
  pub reached : under (p * u) l + r ≡ k
  pub within : k < under (suc p * u) l

pub narrow_step : (k u p r : ℕ) (l cs : List ℕ) → 0 < u → length cs ≡ 8192
    → ((i : ℕ) → i < 8192 → get_or cs i 0 ≡ having (p * 8192 + i) u l) → Narrowed k (8192 * u) p r l
    → Narrowed k u (p * 8192 + (pick_from cs 0 r).digit) (pick_from cs 0 r).place l
narrow_step k u p r l cs U n e a = made (choice f cs 0 r steps enough)
  where
    f : ℕ → ℕ
    f d = under ((p * 8192 + d) * u) l

    low : f 0 ≡ under (p * (8192 * u)) l
    low = ap (λ (t : ℕ). under t l) (ap (◌* u) (add-zero (p * 8192)) ∙ mul_assoc p 8192 u)

    high : f (0 + length cs) ≡ under (suc p * (8192 * u)) l
    high = ap f (zero-add (length cs) ∙ n)
        ∙ ap (λ (t : ℕ). under t l) (ap (◌* u) (sym (suc-mul p 8192)) ∙ mul_assoc (suc p) 8192 u)

    enough : f 0 + r < f (0 + length cs)
    enough = omega (arith, low, high, a.reached, a.within)

    steps : (i : ℕ) → i < length cs → f (suc (0 + i)) ≡ f (0 + i) + get_or cs i 0
    steps i h =
        rw (zero-add i)
        (ap (λ (t : ℕ). under (t * u) l) (add-suc (p * 8192) i) ∙ under_part l (p * 8192 + i) u U
        ∙ ap (under ((p * 8192 + i) * u) l +◌) (sym (e i (omega (arith, n)))))

    made : Chose f 0 r (pick_from cs 0 r).digit (pick_from cs 0 r).place
        → Narrowed k u (p * 8192 + (pick_from cs 0 r).digit) (pick_from cs 0 r).place l
    made c =
        record {
          reached = omega (arith, low, a.reached, c.reached);
          within = omega (
            arith,
            low,
            a.reached,
            c.reached,
            c.within,
            ap (λ (t : ℕ). under (t * u) l)
                (add-suc (p * 8192) (pick_from cs 0 r).digit),
          );
        }

-- where the unit is 1, what is found is the key at the place
pub narrowed_at : (k p r : ℕ) (l : List ℕ) → Narrowed k 1 p r l → At k p l
narrowed_at k p r l a =
    record {
      below = omega (arith, a.reached, ap (λ (t : ℕ). under t l) (mul-one p));
      up_to =
          omega (arith, a.within, ap (λ (t : ℕ). under t l) (mul-one (suc p)));
    }

-- before the first pass: all keys have the digits p above the pass's digit
under_all : (t : ℕ) (l : List ℕ) → Each (◌< t) l → under t l ≡ length l
under_all t [] e = refl
under_all t (y ∷ l) e = rw (lt-ltb y t e.0) (omega (arith, under_all t l e.1))

pub narrowed_start : (k u p : ℕ) (l : List ℕ) → 0 < u → Each (λ y. y / u / 8192 ≡ p) l → k < length l
    → Narrowed k (8192 * u) p k l
narrowed_start k u p l U e h =
    record {
      reached = omega (
        arith,
        under_none (p * (8192 * u)) l
            (each_map (λ y. y / u / 8192 ≡ p) (p * (8192 * u) ≤◌) from l e),
      );
      within = omega (
        arith,
        under_all (suc p * (8192 * u)) l
            (each_map (λ y. y / u / 8192 ≡ p) (◌< suc p * (8192 * u)) to l e),
      );
    }
  where
    from : (y : ℕ) → y / u / 8192 ≡ p → p * (8192 * u) ≤ y
    from y q = subst (λ (t : ℕ). t ≤ y) (mul_assoc p 8192 u) ((le-div_iff_mul-le U).0 (omega (arith, q)))

    to : (y : ℕ) → y / u / 8192 ≡ p → y < suc p * (8192 * u)
    to y q = subst (λ (t : ℕ). y < t) (mul_assoc (suc p) 8192 u) ((div-lt_iff_lt-mul U).0 (omega (arith, q)))

-- what is found is at most a key, so below whatever the keys are below
pub narrowed_small : (k u p r top : ℕ) (l : List ℕ) → Each (◌< top) l → Narrowed k u p r l → p * u < top
narrowed_small k u p r top l e a = go (ltb (p * u) top) (ltb→lt (p * u) top) (nltb→le (p * u) top)
  where
    go : (b : Bool) → (T b → p * u < top) → (T (not b) → top ≤ p * u) → p * u < top
    go true f g = f tt
    go false f g =
        absurd (omega (
          arith,
          a.reached,
          a.within,
          under_all top l e,
          under_mono top (p * u) l (g tt),
          count_le
              (λ y. ltb y (suc p * u)) l,
        ))
