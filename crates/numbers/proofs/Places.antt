-- Laws of the tests on places that a writing goes by (`Rattle.numbers.specs.Written`): each is what it says (`X-iff`),
-- hits nothing at first (`X-none`), one place more (`X-next`). The first n places, n places from a on, every s-th of
-- them, the pixels of a picture row by row (`pixels_row`), and a test within a part (`within`).
use mathlib.Core.Path.{◌≡◌, refl, sym, ap, ◌∙◌}
use mathlib.Core.Bool.{Bool, true, false, ◌&&◌, ◌||◌, and-eq-true_iff}
use mathlib.Core.List.{List, [], ◌∷◌, map}
use mathlib.Core.Logic.{◌↔◌, inl, inr, ⊎_elim}
use Prim.Native.Nat.{ℕ, ◌+◌, ◌-◌, ◌*◌, ◌/◌, ◌%◌, ◌≤◌, ◌<◌}
use native.Mathlib.Nat.{div-zero, mod-zero, mul-zero, mul-le-mul_right, eq-zero-or-pos, div-add-mod', div-mul-le_self}
use native.Mathlib.Omega.{arith}
use borrow.Author.Tests.{ltb-true, ltb-false, leb-true, eqb-true, lt-ltb, le-leb, eq-eqb}
use lib.Dec.{leb, ltb, eqb}
use Rattle.numbers.specs.Written.{front, part, comb, pixels}
use Rattle.numbers.proofs.Nat.{div_mod_unique}
use Rattle.numbers.proofs.Test.{by_test, false_of_not, bool_ext, or_ext, or_place}

-- ---- the first n places

pub front_iff : (n j : ℕ) → (front n j ≡ true) ↔ (j < n)
unfolding front
front_iff n j = (ltb-true j n, lt-ltb j n)

pub front_after : (n j : ℕ) → n ≤ j → front n j ≡ false
front_after n j h = false_of_not (front n j) λ e. let b = (front_iff n j).0 e in omega arith

pub front_none : (j : ℕ) → front 0 j ≡ false
front_none j = front_after 0 j (omega arith)

pub front_next : (n j : ℕ) → front (n + 1) j ≡ (front n j || eqb j n)
front_next n j =
    or_place (front (n + 1) j) (front n j) n j
    (λ e d. let b = (front_iff (n + 1) j).0 e in (front_iff n j).1 (omega arith))
    (λ e. let b = (front_iff n j).0 e in (front_iff (n + 1) j).1 (omega arith))
    (λ e. (front_iff (n + 1) j).1 (omega arith))

-- ---- n places from a on

pub part_iff : (a n j : ℕ) → (part a n j ≡ true) ↔ ((a ≤ j) × (j < a + n))
unfolding part
part_iff a n j = (
  λ e. let b = (and-eq-true_iff (leb a j) (ltb j (a + n))).0 e in (leb-true a j b.0, ltb-true j (a + n) b.1),
  λ b. (and-eq-true_iff (leb a j) (ltb j (a + n))).1 (le-leb a j b.0, lt-ltb j (a + n) b.1),
)

pub part_before : (a n j : ℕ) → j < a → part a n j ≡ false
part_before a n j h = false_of_not (part a n j) λ e. let b = (part_iff a n j).0 e in omega arith

pub part_after : (a n j : ℕ) → a + n ≤ j → part a n j ≡ false
part_after a n j h = false_of_not (part a n j) λ e. let b = (part_iff a n j).0 e in omega arith

pub part_none : (a j : ℕ) → part a 0 j ≡ false
part_none a j = false_of_not (part a 0 j) λ e. let b = (part_iff a 0 j).0 e in omega arith

pub part_next : (a n j : ℕ) → part a (n + 1) j ≡ (part a n j || eqb j (a + n))
part_next a n j =
    or_place (part a (n + 1) j) (part a n j) (a + n) j
    (λ e d. let b = (part_iff a (n + 1) j).0 e in (part_iff a n j).1 (omega arith))
    (λ e. let b = (part_iff a n j).0 e in (part_iff a (n + 1) j).1 (omega arith))
    (λ e. (part_iff a (n + 1) j).1 (omega arith))

-- up to the place b, and it
pub part_last : (a m b n : ℕ) → a + m ≡ b → m + 1 ≡ n → (j : ℕ) → part a n j ≡ (part a m j || eqb j b)
part_last a m b n d e j = rw (← d, ← e) (part_next a m j)

-- two parts, the second from the first's end on
pub part_join : (a m b k n : ℕ) → a + m ≡ b → m + k ≡ n → (j : ℕ) → part a n j ≡ (part a m j || part b k j)
part_join a m b k n d e j =
    or_ext (part a n j) (part a m j) (part b k j)
    (λ q.
    let c = (part_iff a n j).0 q in
    by_test (ltb j b)
    (λ l. let l' = ltb-true j b l in inl ((part_iff a m j).1 (omega arith)))
    (λ l. let l' = ltb-false j b l in inr ((part_iff b k j).1 (omega arith))))
    (λ q. let c = (part_iff a m j).0 q in (part_iff a n j).1 (omega arith))
    (λ q. let c = (part_iff b k j).0 q in (part_iff a n j).1 (omega arith))

-- ---- n places from a on, every s-th

pub comb_iff : (a s n j : ℕ) → (comb a s n j ≡ true) ↔ ((k : ℕ) × (k < n) × (j ≡ a + k * s))
unfolding comb
comb_iff a s n j = (there, λ h. back h.0 h.1 h.2)
  where
    both : (leb a j && eqb ((j - a) % s) 0 ≡ true) ↔ ((leb a j ≡ true) × (eqb ((j - a) % s) 0 ≡ true))
    both = and-eq-true_iff (leb a j) (eqb ((j - a) % s) 0)

    all : (leb a j && eqb ((j - a) % s) 0 && ltb ((j - a) / s) n ≡ true) ↔
        ((leb a j && eqb ((j - a) % s) 0 ≡ true) × (ltb ((j - a) / s) n ≡ true))
    all = and-eq-true_iff (leb a j && eqb ((j - a) % s) 0) (ltb ((j - a) / s) n)

    there : leb a j && eqb ((j - a) % s) 0 && ltb ((j - a) / s) n ≡ true → (k : ℕ) × (k < n) × (j ≡ a + k * s)
    there e =
        let b = all.0 e in
        let l = leb-true a j (both.0 b.0).0 in
        let r = eqb-true ((j - a) % s) 0 (both.0 b.0).1 in
        let d = div-add-mod' (j - a) s in
        ((j - a) / s, ltb-true ((j - a) / s) n b.1, omega arith)

    tests : a ≤ j → (j - a) % s ≡ 0 → (j - a) / s < n → leb a j && eqb ((j - a) % s) 0 && ltb ((j - a) / s) n ≡ true
    tests l r q = all.1 (both.1 (le-leb a j l, eq-eqb ((j - a) % s) 0 r), lt-ltb ((j - a) / s) n q)

    back : (k : ℕ) → k < n → j ≡ a + k * s → leb a j && eqb ((j - a) % s) 0 && ltb ((j - a) / s) n ≡ true
    back k h e =
        ⊎_elim
        (λ (o : s ≡ 0).
        let f : k * s ≡ 0 = rw o (mul-zero k) in
        tests (omega arith) (rw (o, mod-zero) (omega arith)) (rw (o, div-zero) (omega arith)))
        (λ (p : 0 < s).
        let d = div_mod_unique {j = j - a} {s = s} {x = 0} k (omega arith) p in
        tests (omega arith) d.1 (rw d.0 h))
        (eq-zero-or-pos s)

pub comb_none : (a s j : ℕ) → comb a s 0 j ≡ false
comb_none a s j = false_of_not (comb a s 0 j) λ e. let b = ((comb_iff a s 0 j).0 e).1 in omega arith

pub comb_next : (a s n j : ℕ) → comb a s (n + 1) j ≡ (comb a s n j || eqb j (a + n * s))
comb_next a s n j =
    or_place (comb a s (n + 1) j) (comb a s n j) (a + n * s) j
    (λ e d.
    let b = (comb_iff a s (n + 1) j).0 e in
    let l = b.1 in
    let q : b.0 ≡ n → ⊥ = λ i. d (b.2 ∙ ap (λ (k : ℕ). a + k * s) i) in
    (comb_iff a s n j).1 (b.0, omega arith, b.2))
    (λ e. let b = (comb_iff a s n j).0 e in let l = b.1 in (comb_iff a s (n + 1) j).1 (b.0, omega arith, b.2))
    (λ e. (comb_iff a s (n + 1) j).1 (n, omega arith, e))

-- ---- the pixels of a picture, w by h with stride s

pub pixels_iff : (w h s j : ℕ) → (pixels w h s j ≡ true) ↔ ((j % s < w) × (j / s < h))
unfolding pixels
pixels_iff w h s j = (
  λ e. let b = (and-eq-true_iff (ltb (j % s) w) (ltb (j / s) h)).0 e in
      (ltb-true (j % s) w b.0, ltb-true (j / s) h b.1),
  λ b. (and-eq-true_iff (ltb (j % s) w) (ltb (j / s) h)).1 (lt-ltb (j % s) w b.0, lt-ltb (j / s) h b.1),
)

-- column x of row y
pub pixels_at : (w h s x y : ℕ) → x < w → y < h → w ≤ s → pixels w h s (y * s + x) ≡ true
pixels_at w h s x y p q r =
    let d = div_mod_unique {j = y * s + x} {s = s} {x = x} y refl (omega arith) in
    (pixels_iff w h s (y * s + x)).1 (omega arith)

-- a pixel of the rows down to y lies before the end of row y
pub pixel_lt : (w h s y j : ℕ) → pixels w h s j ≡ true → j / s ≤ y → j < y * s + w
pixel_lt w h s y j e q =
    let b = (pixels_iff w h s j).0 e in
    let m : j / s * s ≤ y * s = mul-le-mul_right s q in
    let d = div-add-mod' j s in
    omega arith

pub pixels_none : (w s j : ℕ) → pixels w 0 s j ≡ false
pixels_none w s j = false_of_not (pixels w 0 s j) λ e. let b = (pixels_iff w 0 s j).0 e in omega arith

-- one more row, its w places at once
pub pixels_row : (w s y : ℕ) → w ≤ s → (j : ℕ) → pixels w (y + 1) s j ≡ (pixels w y s j || part (y * s) w j)
pixels_row w s y h j =
    or_ext (pixels w (y + 1) s j) (pixels w y s j) (part (y * s) w j)
    (λ e.
    let b = (pixels_iff w (y + 1) s j).0 e in
    let m = pixel_lt w (y + 1) s y j e (omega arith) in
    by_test (ltb (j / s) y)
    (λ q. inl ((pixels_iff w y s j).1 (b.0, ltb-true (j / s) y q)))
    (λ q.
    let f : y * s ≤ j / s * s = mul-le-mul_right s (ltb-false (j / s) y q) in
    let d = div-mul-le_self j s in
    inr ((part_iff (y * s) w j).1 (omega arith))))
    (λ e. let b = (pixels_iff w y s j).0 e in (pixels_iff w (y + 1) s j).1 (omega arith))
    (λ e.
    let b = (part_iff (y * s) w j).0 e in
    let d = div_mod_unique {j = j} {s = s} {x = j - y * s} y (omega arith) (omega arith) in
    (pixels_iff w (y + 1) s j).1 (omega arith))

-- ---- a writing into a part, n places from a on, seen on the whole

unfoldable pub within : ℕ → ℕ → (ℕ → Bool) → ℕ → Bool
within a n hit j = part a n j && hit (j - a)

pub within_iff : (a n : ℕ) (hit : ℕ → Bool) (j : ℕ)
    → (within a n hit j ≡ true) ↔ ((part a n j ≡ true) × (hit (j - a) ≡ true))
unfolding within
within_iff a n hit j = and-eq-true_iff (part a n j) (hit (j - a))

-- a test on the whole that says the same, and nothing outside the part
pub within_same : (a n : ℕ) (hit hit' : ℕ → Bool) → ((i : ℕ) → i < n → hit' (a + i) ≡ hit i)
    → ((j : ℕ) → hit' j ≡ true → part a n j ≡ true) → (j : ℕ) → hit' j ≡ within a n hit j
within_same a n hit hit' t inside j =
    bool_ext (hit' j) (within a n hit j)
    (λ e. (within_iff a n hit j).1 (inside j e, sym (at (inside j e)) ∙ e))
    (λ e. let b = (within_iff a n hit j).0 e in at b.0 ∙ b.1)
  where
    at : part a n j ≡ true → hit' j ≡ hit (j - a)
    at p =
        let b = (part_iff a n j).0 p in
        let i : a + (j - a) ≡ j = omega arith in
        rw i at (t (j - a) (omega arith))

pub within_front : (a n m : ℕ) → m ≤ n → (j : ℕ) → part a m j ≡ within a n (front m) j
within_front a n m h =
    within_same a n (front m) (part a m)
    (λ i b.
    bool_ext (part a m (a + i)) (front m i)
    (λ e. let c = (part_iff a m (a + i)).0 e in (front_iff m i).1 (omega arith))
    (λ e. let c = (front_iff m i).0 e in (part_iff a m (a + i)).1 (omega arith)))
    (λ j e. let c = (part_iff a m j).0 e in (part_iff a n j).1 (omega arith))

-- ---- worked examples: the tests at the places 0 to 7

places : List ℕ
places = 0 ∷ 1 ∷ 2 ∷ 3 ∷ 4 ∷ 5 ∷ 6 ∷ 7 ∷ []

front_3 : map (front 3) places ≡ true ∷ true ∷ true ∷ false ∷ false ∷ false ∷ false ∷ false ∷ []
unfolding front places
front_3 = refl

part_2_3 : map (part 2 3) places ≡ false ∷ false ∷ true ∷ true ∷ true ∷ false ∷ false ∷ false ∷ []
unfolding part places
part_2_3 = refl

comb_1_3_2 : map (comb 1 3 2) places ≡ false ∷ true ∷ false ∷ false ∷ true ∷ false ∷ false ∷ false ∷ []
unfolding comb places
comb_1_3_2 = refl

comb_5_0_2 : map (comb 5 0 2) places ≡ false ∷ false ∷ false ∷ false ∷ false ∷ true ∷ false ∷ false ∷ []
unfolding comb places
comb_5_0_2 = refl

pixels_2_2_3 : map (pixels 2 2 3) places ≡ true ∷ true ∷ false ∷ true ∷ true ∷ false ∷ false ∷ false ∷ []
unfolding pixels places
pixels_2_2_3 = refl
