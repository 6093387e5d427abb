-- Sides after some halvings: none (`side_none`), one more (`side_more`, `side_next`), some and then others
-- (`side_together`, `starts_together`); they get no longer (`side_most`), and nothing is left of one exactly where some
-- halving starts from less than 2 (`nothing_left`, `all_start`), which the definition finds (`starts_below_iff`).
use Prim.Native.Nat.{ℕ, zero, suc, ◌+◌, ◌-◌, ◌/◌, ◌<◌, ◌≤◌}
use native.Mathlib.Nat.{le_refl, le_trans, zero-add, suc-add}
use native.Mathlib.Numerals.{add-one}
use native.Mathlib.Omega.{arith}
use mathlib.Core.Bool.{true, false, ◌||◌, or_assoc, or-true}
use mathlib.Core.Logic.{◌⊎◌, inl, inr, ⊎_elim, ◌↔◌}
use mathlib.Core.Path.{◌≡◌, refl, sym, ap, ◌∙◌}
use borrow.Author.Tests.{ltb-true, ltb-false}
use lib.Dec.{ltb}
use Rattle.numbers.proofs.Test.{or_cases, or_false_left, or_false_right, or_iff, ltb_iff, false_not_true}
use Rattle.resize.specs.Conditions.{Below2, SomeBelow2}
use Rattle.resize.specs.Halving.{side_after, starts_below2}

pub side_none : (side : ℕ) → side_after 0 side ≡ side
unfolding side_after
side_none side = refl

pub side_next : (n side : ℕ) → 0 < n → side_after n side ≡ side_after (n - 1) (side / 2)
unfolding side_after
side_next zero side h = absurd (omega arith)
side_next (suc n) side h = let e : suc n - 1 ≡ n = omega arith in rw e refl

-- k of n done, and one more
pub side_step : (n k side : ℕ) → k < n → side_after (n - (k + 1)) (side / 2) ≡ side_after (n - k) side
side_step n k side h =
    let e : n - (k + 1) ≡ n - k - 1 = omega arith in
    rw e (sym (side_next (n - k) side (omega arith)))

pub side_one : (side : ℕ) → side_after 1 side ≡ side / 2
unfolding side_after
side_one side = refl

pub side_more : (n side : ℕ) → side_after (n + 1) side ≡ side_after n (side / 2)
unfolding side_after
side_more n side = rw (add-one n) refl

side_zero : (n : ℕ) → side_after n 0 ≡ 0
unfolding side_after
side_zero zero = refl
side_zero (suc n) = side_zero n

pub side_most : (n side : ℕ) → side_after n side ≤ side
unfolding side_after
side_most zero side = le_refl side
side_most (suc n) side = le_trans (side_most n (side / 2)) (omega arith)

pub side_together : (m n side : ℕ) → side_after (m + n) side ≡ side_after n (side_after m side)
unfolding side_after
side_together zero n side = rw (zero-add n) refl
side_together (suc m) n side = rw (suc-add m n) (side_together m n (side / 2))

-- ---- what a halving starts from

pub starts_together : (m n w h : ℕ)
    → starts_below2 (m + n) w h ≡ (starts_below2 m w h || starts_below2 n (side_after m w) (side_after m h))
unfolding side_after starts_below2
starts_together zero n w h = rw (zero-add n) refl
starts_together (suc m) n w h =
    rw (suc-add m n)
    (ap (λ t. ltb w 2 || ltb h 2 || t) (starts_together m n (w / 2) (h / 2))
    ∙ sym (or_assoc (ltb w 2 || ltb h 2) (starts_below2 m (w / 2) (h / 2)) _))

pub nothing_left : (n w h : ℕ) → starts_below2 n w h ≡ true → (side_after n w ≡ 0) ⊎ (side_after n h ≡ 0)
unfolding side_after starts_below2
nothing_left zero w h t = absurd (false_not_true refl t)
nothing_left (suc n) w h t =
    ⊎_elim
    (λ s.
    ⊎_elim (λ l. inl (gone w (ltb-true w 2 l))) (λ l. inr (gone h (ltb-true h 2 l))) (or_cases (ltb w 2) (ltb h 2) s))
    (λ s. nothing_left n (w / 2) (h / 2) s) (or_cases (ltb w 2 || ltb h 2) (starts_below2 n (w / 2) (h / 2)) t)
  where
    gone : (side : ℕ) → side < 2 → side_after n (side / 2) ≡ 0
    gone side l = let e : side / 2 ≡ 0 = omega arith in rw e (side_zero n)

pub all_start : (n w h : ℕ) → starts_below2 n w h ≡ false → 0 < w → 0 < h → (0 < side_after n w) × (0 < side_after n h)
unfolding side_after starts_below2
all_start zero w h t pw ph = (pw, ph)
all_start (suc n) w h t pw ph =
    let s = or_false_left (ltb w 2 || ltb h 2) (starts_below2 n (w / 2) (h / 2)) t in
    let a = ltb-false w 2 (or_false_left (ltb w 2) (ltb h 2) s) in
    let b = ltb-false h 2 (or_false_right (ltb w 2) (ltb h 2) s) in
    all_start n (w / 2) (h / 2) (or_false_right (ltb w 2 || ltb h 2) (starts_below2 n (w / 2) (h / 2)) t) (omega arith)
    (omega arith)

-- the definition's recursion finds the halvings that start below 2, each by what is done before it
pub starts_below_iff : (n w h : ℕ) → (starts_below2 n w h ≡ true) ↔ SomeBelow2 n w h
unfolding side_after starts_below2
starts_below_iff n w h = (there n w h, λ s. back n s.done w h s.is_one s.below)
  where
    first : (w h : ℕ) → ((ltb w 2 || ltb h 2) ≡ true) ↔ Below2 w h
    first w h = or_iff (ltb w 2) (ltb h 2) (ltb_iff w 2) (ltb_iff h 2)

    there : (n w h : ℕ) → starts_below2 n w h ≡ true → SomeBelow2 n w h
    there zero w h t = absurd (false_not_true refl t)
    there (suc n) w h t = split (there n (w / 2) (h / 2)) (or_cases (ltb w 2 || ltb h 2) _ t)
      where
        split : (starts_below2 n (w / 2) (h / 2) ≡ true → SomeBelow2 n (w / 2) (h / 2))
            → ((ltb w 2 || ltb h 2) ≡ true) ⊎ (starts_below2 n (w / 2) (h / 2) ≡ true) → SomeBelow2 (suc n) w h
        split later (inl s) = record { done = 0; is_one = omega arith; below = (first w h).0 s }
        split later (inr s) =
            let l = later s in record { done = suc l.done; is_one = omega (arith, l.is_one); below = l.below }

    back : (n k w h : ℕ) → k < n → Below2 (side_after k w) (side_after k h) → starts_below2 n w h ≡ true
    back zero k w h l b = absurd (omega arith)
    back (suc n) zero w h l b = rw ((first w h).1 b) refl
    back (suc n) (suc k) w h l b = rw (back n k (w / 2) (h / 2) (omega arith) b) (or-true (ltb w 2 || ltb h 2))
