-- Rows of means are rows of the half-size picture (`half_at_is`), by eights (`eight_written`) and then one by one
-- (`front_join`, `up_none`, `up_all`); within one slice, what is still to be read is as it was (`mean_kept`,
-- `more_within`).
use Prim.Native.Nat.{ℕ, ◌+◌, ◌-◌, ◌*◌, ◌/◌, ◌≤◌, ◌<◌}
use native.Mathlib.Omega.{arith}
use mathlib.Core.Bool.{false, ◌||◌}
use mathlib.Core.List.{List}
use mathlib.Core.Logic.{inl, inr}
use mathlib.Core.Path.{◌≡◌, refl, ap, ◌∙◌}
use borrow.Author.Tests.{ltb-true, ltb-false}
use lib.Dec.{ltb}
use lib.ListN.{length, get_or, set, take, drop}
use Rattle.numbers.specs.Written.{Written, front, part}
use Rattle.numbers.proofs.Nat.{add_one_mul}
use Rattle.numbers.proofs.Places.{front_iff, part_iff, part_none, part_after, part_last, part_join}
use Rattle.numbers.proofs.Test.{by_test, or_ext}
use Rattle.numbers.proofs.Written.{written_none, written_join, written_same, written_set, written_kept}
use Rattle.image.specs.Picture.{pixel}
use Rattle.image.proofs.Rows.{row_part_at}
use Rattle.resize.specs.Halving.{mean_of_four, halved}
use Rattle.resize.specs.Rows.{half_at}

-- two rows of the bytes, as parts of m and n places
pub half_at_is : (xs : List ℕ) (w s y m n : ℕ) → m ≡ w → n ≡ w → (2 * y + 1) * s + w ≤ length xs → (x : ℕ) → x < w / 2
    → half_at (take m (drop (2 * y * s) xs)) (take n (drop ((2 * y + 1) * s) xs)) x ≡ halved (pixel xs s) x y
half_at_is xs w s y m n em en fits x h =
    rw (above (2 * x) (omega arith), above (2 * x + 1) (omega arith), below (2 * x) (omega arith))
    (ap (mean_of_four _ _ _) (below (2 * x + 1) (omega arith)))
  where
    first : 2 * y * s + w ≤ length xs
    first = omega (arith, add_one_mul (2 * y) s)

    above : (c : ℕ) → c < w → get_or (take m (drop (2 * y * s) xs)) c 0 ≡ pixel xs s c (2 * y)
    above = row_part_at xs w s (2 * y) m em first

    below : (c : ℕ) → c < w → get_or (take n (drop ((2 * y + 1) * s) xs)) c 0 ≡ pixel xs s c (2 * y + 1)
    below = row_part_at xs w s (2 * y + 1) n en fits

-- ---- within one slice

-- the mean of two places from `at` on, and of the two a stride behind them
abbrev pub mean_from : List ℕ → ℕ → ℕ → ℕ
mean_from xs at stride =
    mean_of_four (get_or xs at 0) (get_or xs (at + 1) 0) (get_or xs (at + stride) 0) (get_or xs (at + stride + 1) 0)

-- the mean for place j of a row that starts at `to`, from two rows of one list, a stride apart, the first at `from`
abbrev pub half_from : List ℕ → ℕ → ℕ → ℕ → ℕ → ℕ
half_from xs from stride to j = mean_from xs (from + 2 * (j - to)) stride

-- what is read at or behind the places that are written is as it was
pub mean_kept : {g : ℕ → ℕ} {old new : List ℕ} (to x at stride : ℕ) → to + x ≤ at → Written 0 (part to x) g old new
    → mean_from new at stride ≡ mean_from old at stride
mean_kept {old = old} {new} to x at stride h W =
    rw (
      kept at (omega arith),
      kept (at + 1) (omega arith),
      kept (at + stride) (omega arith),
      kept (at + stride + 1) (omega arith),
    )
  where
    kept : (j : ℕ) → to + x ≤ j → get_or new j 0 ≡ get_or old j 0
    kept j l = written_kept W j (part_after to x j l)

-- k more places behind the first x of a row, written at or before what they are read from
pub more_within : {old mid new : List ℕ} (from stride to x k n : ℕ) → to ≤ from → x + k ≡ n
    → Written 0 (part to x) (half_from old from stride to) old mid
    → Written 0 (part (to + x) k) (half_from mid (from + 2 * x) stride (to + x)) mid new
    → Written 0 (part to n) (half_from old from stride to) old new
more_within {old} {mid} from stride to x k n h is W E =
    written_join W
    (written_same E (λ j _. refl) λ j _ e.
    let b = (part_iff (to + x) k j).0 e in
    let at : from + 2 * x + 2 * (j - (to + x)) ≡ from + 2 * (j - to) = omega arith in
    mean_kept to x (from + 2 * x + 2 * (j - (to + x))) stride (omega arith) W
    ∙ ap (λ (i : ℕ). mean_from old i stride) at)
    (part_join to x (to + x) k n refl is)

-- ---- by eights

-- stores at the places from x on, one after the other
module _ (g : ℕ → ℕ) (old : List ℕ) (x : ℕ) where
  one_more : {new : List ℕ} (k place v : ℕ) → Written 0 (part x k) g old new → x + k ≡ place → place < length old
      → v ≡ g place → Written 0 (part x (k + 1)) g old (set new place v)
  one_more k place v W is fits e =
      written_set place v W (rw W.same_length fits) e (part_last x k place (k + 1) is refl)

  pub eight_written : {a b c d e f h i : ℕ} → x + 8 ≤ length old → a ≡ g x → b ≡ g (x + 1) → c ≡ g (x + 2)
      → d ≡ g (x + 3) → e ≡ g (x + 4) → f ≡ g (x + 5) → h ≡ g (x + 6) → i ≡ g (x + 7)
      → Written 0 (part x 8) g old
      (set (set (set (set (set (set (set (set old x a) (x + 1) b) (x + 2) c) (x + 3) d) (x + 4) e) (x + 5) f) (x + 6) h)
      (x + 7) i)
  eight_written fits ea eb ec ed ee ef eh ei =
      let w1 = one_more 0 x _ (written_none (λ j _. part_none x j)) (omega arith) (omega arith) ea in
      let w2 = one_more 1 (x + 1) _ w1 refl (omega arith) eb in
      let w3 = one_more 2 (x + 2) _ w2 refl (omega arith) ec in
      let w4 = one_more 3 (x + 3) _ w3 refl (omega arith) ed in
      let w5 = one_more 4 (x + 4) _ w4 refl (omega arith) ee in
      let w6 = one_more 5 (x + 5) _ w5 refl (omega arith) ef in
      let w7 = one_more 6 (x + 6) _ w6 refl (omega arith) eh in
      let w8 = one_more 7 (x + 7) _ w7 refl (omega arith) ei in
      w8

-- the first x, and eight more
pub front_join : (x k j : ℕ) → front (x + k) j ≡ (front x j || part x k j)
front_join x k j =
    or_ext (front (x + k) j) (front x j) (part x k j)
    (λ e.
    let b = (front_iff (x + k) j).0 e in
    by_test (ltb j x) (λ l. inl ((front_iff x j).1 (ltb-true j x l)))
    (λ l. inr ((part_iff x k j).1 (ltb-false j x l, b))))
    (λ e. let b = (front_iff x j).0 e in (front_iff (x + k) j).1 (omega arith))
    (λ e. let b = (part_iff x k j).0 e in (front_iff (x + k) j).1 (omega arith))

-- from a up to x: nothing at first, and at last all of n behind the first a
pub up_none : (a j : ℕ) → part a (a - a) j ≡ false
up_none a j = let e : a - a ≡ 0 = omega arith in rw e (part_none a j)

pub up_all : (a x n : ℕ) → a ≤ x → x ≡ n → (j : ℕ) → front n j ≡ (front a j || part a (x - a) j)
up_all a x n h e j =
    let all : a + (x - a) ≡ n = omega arith in
    rw (← all) (front_join a (x - a) j)
