-- A pass over any list of swings counts, for each digit, the keys that stay and have that digit below the prefix; and
-- it counts how many records it counted.
use mathlib.Core.Path.{◌≡◌, refl, sym, ap, ◌∙◌, subst}
use mathlib.Core.Bool.{Bool, true, false, cond, ◌&&◌}
use mathlib.Core.List.{List, [], ◌∷◌, map}
use Prim.Native.Nat.{ℕ, suc, ◌+◌, ◌*◌, ◌/◌, ◌%◌, ◌^◌, ◌≤◌, ◌<◌}
use native.Mathlib.Nat.{add-zero, add_assoc, mod-lt}
use native.Mathlib.Omega.{arith}
use lib.Dec.{eqb, lit<}
use lib.IntN.{ℤ}
use lib.ListN.{length, get_or, set, length-set, length-map}
use lib.Seq.{get_or-set_same, get_or-set_other}
use lib.Ieee.{Float, binary64, to_bits}
use lib.Ieee.Bits.{to_bits-lt}
use borrow.Author.Tests.{eq-eqb, ne_eqb, eqb-true, eqb-false}
use Rattle.swings.specs.declared.Swing.{Swing}
use Rattle.blur.specs.declared.select.Pass.{Pass}
use Rattle.blur.specs.Median.{stays, kept}
use Rattle.std.specs.List.{AllByRecursion as Each}
use Rattle.blur.specs.Select.{high, counted, passed, tallied, pass_all, tally_all, Positive, Widths}
use Rattle.blur.proofs.Place.{bit, count}
use Rattle.blur.proofs.Radix.{having}

abbrev pub keys : ℤ → List Swing → List ℕ
keys top l = map (to_bits binary64) (kept top l)

pub kept_each : (P : Float → Type 0) (top : ℤ) (l : List Swing) → Each (λ (s : Swing). P s.width) l
    → Each P (kept top l)
kept_each P top [] e = tt
kept_each P top (s ∷ l) e = go (stays top s) (kept_each P top l e.1)
  where
    go : (b : Bool) → Each P (kept top l) → Each P (cond b (s.width ∷ kept top l) (kept top l))
    go true r = (e.0, r)
    go false r = r

bits_lt : (ws : List Float) → Each (Positive binary64) ws → Each (◌< 2 ^ 64) (map (to_bits binary64) ws)
bits_lt [] e = tt
bits_lt (x ∷ ws) e = (to_bits-lt binary64 x e.0.holds, bits_lt ws e.1)

pub keys_lt : (top : ℤ) (l : List Swing) → Widths l → Each (◌< 2 ^ 64) (keys top l)
keys_lt top l e = bits_lt (kept top l) (kept_each (Positive binary64) top l e)

pub length_keys : (top : ℤ) (l : List Swing) → length (keys top l) ≡ length (kept top l)
length_keys top l = length-map (kept top l) (to_bits binary64)

pub length_kept : (top : ℤ) (l : List Swing) → length (kept top l) ≤ length l
length_kept top [] = omega arith
length_kept top (s ∷ l) = go (stays top s) (length_kept top l)
  where
    go : (b : Bool) → length (kept top l) ≤ length l
        → length (cond b (s.width ∷ kept top l) (kept top l)) ≤ suc (length l)
    go true h = omega arith
    go false h = omega arith

-- ---- the state: only its count changes
abbrev pub with_count : Pass → ℕ → Pass
with_count a n = record {
  left = a.left;
  total = a.total;
  reach = a.reach;
  low = a.low;
  high = a.high;
  strongest =
      a.strongest;
  prefix = a.prefix;
  shift = a.shift;
  place = a.place;
  kept = a.kept;
  count = n;
}

passed_is : (s : Swing) (a : Pass) (n : ℕ) → passed s (with_count a n) ≡ with_count a (n + bit (counted s a))
passed_is s a n = go (counted s a)
  where
    go : (b : Bool) → cond b (with_count a (n + 1)) (with_count a n) ≡ with_count a (n + bit b)
    go true = refl
    go false = ap (with_count a) (sym (add-zero n))

pass_all_from : (l : List Swing) (a : Pass) (n : ℕ)
    → pass_all l (with_count a n) ≡ with_count a (n + count (λ s. counted s a) l)
pass_all_from [] a n = ap (with_count a) (sym (add-zero n))
pass_all_from (s ∷ l) a n =
    ap (pass_all l) (passed_is s a n) ∙ pass_all_from l a (n + bit (counted s a))
    ∙ ap (with_count a) (add_assoc n (bit (counted s a)) (count (λ t. counted t a) l))

pub pass_all_is : (l : List Swing) (a : Pass) → pass_all l a ≡ with_count a (a.count + count (λ s. counted s a) l)
pass_all_is l a = pass_all_from l a a.count

-- ---- the counts
pub length_tallied : (s : Swing) (a : Pass) (cs : List ℕ) → length (tallied s a cs) ≡ length cs
length_tallied s a cs = go (counted s a)
  where
    go : (b : Bool) → length (cond b (set cs (high s a % 8192) (get_or cs (high s a % 8192) 0 + 1)) cs) ≡ length cs
    go true = length-set cs (high s a % 8192) (get_or cs (high s a % 8192) 0 + 1)
    go false = refl

pub length_tally_all : (l : List Swing) (a : Pass) (cs : List ℕ) → length (tally_all l a cs) ≡ length cs
length_tally_all [] a cs = refl
length_tally_all (s ∷ l) a cs = length_tally_all l (passed s a) (tallied s a cs) ∙ length_tallied s a cs

abbrev here : Swing → Pass → ℕ → Bool
here s a e = counted s a && eqb (high s a % 8192) e

get_or_tallied : (s : Swing) (a : Pass) (cs : List ℕ) (e : ℕ) → length cs ≡ 8192
    → get_or (tallied s a cs) e 0 ≡ get_or cs e 0 + bit (here s a e)
get_or_tallied s a cs e n = go (counted s a)
  where
    d : ℕ
    d = high s a % 8192

    at : (c : Bool) → eqb d e ≡ c → get_or (set cs d (get_or cs d 0 + 1)) e 0 ≡ get_or cs e 0 + bit c
    at true q =
        subst (λ (i : ℕ). get_or (set cs d (get_or cs d 0 + 1)) i 0 ≡ get_or cs i 0 + 1) (eqb-true d e q)
        (get_or-set_same cs d (get_or cs d 0 + 1) 0 (omega (arith, n, mod-lt (high s a) {m = 8192} (lit< tt))))
    at false q = get_or-set_other cs d e (get_or cs d 0 + 1) 0 (λ i. eqb-false d e q (sym i)) ∙ sym (add-zero (get_or cs e 0))

    go : (b : Bool) → get_or (cond b (set cs d (get_or cs d 0 + 1)) cs) e 0 ≡ get_or cs e 0 + bit (b && eqb d e)
    go true = at (eqb d e) refl
    go false = sym (add-zero (get_or cs e 0))

tally_all_from : (l : List Swing) (a : Pass) (n : ℕ) (cs : List ℕ) (e : ℕ) → length cs ≡ 8192
    → get_or (tally_all l (with_count a n) cs) e 0 ≡ get_or cs e 0 + count (λ s. here s a e) l
tally_all_from [] a n cs e h = sym (add-zero (get_or cs e 0))
tally_all_from (s ∷ l) a n cs e h =
    ap (λ (b : Pass). get_or (tally_all l b (tallied s a cs)) e 0) (passed_is s a n)
    ∙ tally_all_from l a (n + bit (counted s a)) (tallied s a cs) e (length_tallied s a cs ∙ h)
    ∙ ap (◌+ count (λ t. here t a e) l) (get_or_tallied s a cs e h)
    ∙ add_assoc (get_or cs e 0) (bit (here s a e)) (count (λ t. here t a e) l)

-- ---- records that stay, and keys
pub count_same : {A : Type 0} (p q : A → Bool) → ((x : A) → p x ≡ q x) → (l : List A) → count p l ≡ count q l
count_same p q e [] = refl
count_same p q e (x ∷ l) = rw (e x) (ap (bit (q x) +◌) (count_same p q e l))

pub count_keys : (top : ℤ) (p : ℕ → Bool) (l : List Swing)
    → count (λ s. stays top s && p (to_bits binary64 s.width)) l ≡ count p (keys top l)
count_keys top p [] = refl
count_keys top p (s ∷ l) = go (stays top s) (count_keys top p l)
  where
    go : (b : Bool) → count (λ t. stays top t && p (to_bits binary64 t.width)) l ≡ count p (keys top l)
        → bit (b && p (to_bits binary64 s.width)) + count (λ t. stays top t && p (to_bits binary64 t.width))
        l ≡ count p (map (to_bits binary64) (cond b (s.width ∷ kept top l) (kept top l)))
    go true e = ap (bit (p (to_bits binary64 s.width)) +◌) e
    go false e = omega (arith, e)

two_tests : (b : Bool) (h p e : ℕ) → e < 8192
    → (b && eqb (h / 8192) p && eqb (h % 8192) e) ≡ (b && eqb h (p * 8192 + e))
two_tests false h p e k = refl
two_tests true h p e k = go (eqb h (p * 8192 + e)) refl
  where
    go : (c : Bool) → eqb h (p * 8192 + e) ≡ c → (eqb (h / 8192) p && eqb (h % 8192) e) ≡ c
    go true q =
        let i : h ≡ p * 8192 + e = eqb-true h (p * 8192 + e) q in
        rw (eq-eqb (h / 8192) p (omega arith), eq-eqb (h % 8192) e (omega arith)) refl
    go false q = split (eqb (h / 8192) p) refl
      where
        split : (c : Bool) → eqb (h / 8192) p ≡ c → (c && eqb (h % 8192) e) ≡ false
        split true i = ne_eqb (h % 8192) e (λ j. eqb-false h (p * 8192 + e) q (omega (arith, eqb-true (h / 8192) p i)))
        split false i = refl

-- ---- a pass, whole
pub tally_all_is : (l : List Swing) (a : Pass) (cs : List ℕ) (e : ℕ) → length cs ≡ 8192 → e < 8192
    → get_or (tally_all l a cs) e 0 ≡ get_or cs e 0 + having (a.prefix * 8192 + e) (2 ^ a.shift) (keys a.strongest l)
tally_all_is l a cs e n h =
    tally_all_from l a a.count cs e n
    ∙ ap (get_or cs e 0 +◌)
    (count_same (λ s. here s a e) (λ s. stays a.strongest s && eqb (high s a) (a.prefix * 8192 + e))
    (λ s. two_tests (stays a.strongest s) (high s a) a.prefix e h) l
    ∙ count_keys a.strongest (λ y. eqb (y / 2 ^ a.shift) (a.prefix * 8192 + e)) l)

pub pass_all_count : (l : List Swing) (a : Pass)
    → (pass_all l a).count ≡ a.count + count (λ y. eqb (y / 2 ^ a.shift / 8192) a.prefix) (keys a.strongest l)
pass_all_count l a = ap (λ (b : Pass). b.count) (pass_all_is l a)
    ∙ ap (a.count +◌) (count_keys a.strongest (λ y. eqb (y / 2 ^ a.shift / 8192) a.prefix) l)
