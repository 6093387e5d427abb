-- Laws of the definitions: the taps of a place, the five-tap sum and its bound, the two passes are the sum of 25
-- products, and the cases of the cut.
use Prim.Native.Nat.{ℕ, ◌+◌, ◌-◌, ◌*◌, ◌/◌, ◌≤◌, ◌<◌, min}
use borrow.Author.Tests.{leb-true, leb-false}
use lib.Dec.{leb}
use Rattle.numbers.proofs.Test.{by_test}
use mathlib.Core.Path.{◌≡◌, sym, ◌∙◌, ap}
use native.Mathlib.Nat.{mul_assoc}
use native.Mathlib.Omega.{arith}
use lib.IntN.{ℤ, pos, ◌-ℤ◌}
use Rattle.numbers.specs.Scalar.{clamp_byte}
use Rattle.numbers.specs.Sum.{count}
use Rattle.numbers.proofs.Int.Linear.{linear, up_sub}
use Rattle.numbers.proofs.Scalar.{clamp_below, clamp_above}
use Rattle.numbers.proofs.Sum.{count_same, count_scale}
use Rattle.sharpen.specs.Binomial.{weight, tap_place, binomial_sum, sharper}
use Rattle.sharpen.specs.Passes.{weighed, tap_sum}

-- ---- the taps of a place

pub tap_lt : (n p i : ℕ) → p < n → tap_place n p i < n
unfolding tap_place
tap_lt n p i h = omega arith

pub tap_own : (n p : ℕ) → p < n → tap_place n p 2 ≡ p
unfolding tap_place
tap_own n p h = omega arith

-- where two neighbours stand on each side
pub tap_inside : (n x i : ℕ) → x + 4 < n → i ≤ 4 → tap_place n (2 + x) i ≡ x + i
unfolding tap_place
tap_inside n x i h k = omega arith

-- ---- the five-tap sum

pub tap_sum_is : (f : ℕ → ℕ) (n p : ℕ)
    → tap_sum f n p ≡ weighed (f (tap_place n p 0)) (f (tap_place n p 1)) (f (tap_place n p 2))
    (f (tap_place n p 3)) (f (tap_place n p 4))
unfolding tap_sum count
tap_sum_is f n p = omega arith

-- it reads places of the line alone
pub tap_sum_same : (f g : ℕ → ℕ) (n p : ℕ) → p < n → ((i : ℕ) → i < n → f i ≡ g i) → tap_sum f n p ≡ tap_sum g n p
unfolding tap_sum
tap_sum_same f g n p h e =
    count_same _ _ 5 λ i _. ap (λ (v : ℕ). weight i * v) (e (tap_place n p i) (tap_lt n p i h))

pub tap_sum_most : (f : ℕ → ℕ) (n p m : ℕ) → p < n → ((i : ℕ) → i < n → f i ≤ m) → tap_sum f n p ≤ 16 * m
tap_sum_most f n p m h b =
    omega (
      arith,
      tap_sum_is f n p,
      b (tap_place n p 0) (tap_lt n p 0 h),
      b (tap_place n p 1) (tap_lt n p 1 h),
      b (tap_place n p 2) (tap_lt n p 2 h),
      b (tap_place n p 3) (tap_lt n p 3 h),
      b (tap_place n p 4) (tap_lt n p 4 h),
    )

-- sums down the sums across are the sum of 25 products
pub two_passes : (px : ℕ → ℕ → ℕ) (w h c r : ℕ) → tap_sum (λ y. tap_sum (λ x. px x y) w c) h r ≡ binomial_sum px w h c r
unfolding tap_sum binomial_sum
two_passes px w h c r =
    count_same _ _ 5 λ j _.
    sym (count_scale (weight j) (λ i. weight i * px (tap_place w c i) (tap_place h r j)) 5)
    ∙ count_same _ _ 5 λ i _. sym (mul_assoc (weight j) (weight i) (px (tap_place w c i) (tap_place h r j)))

-- ---- the cut

module _ (p s : ℕ) where
  abbrev difference : ℤ
  difference = pos (2 * p) -ℤ pos ((s + 128) / 256)

  pub sharper_below : 2 * p ≤ (s + 128) / 256 → sharper p s ≡ 0
  unfolding sharper
  sharper_below h = clamp_below {z = difference} (omega (arith, linear, up_sub (pos (2 * p)) (pos ((s + 128) / 256))))

  pub sharper_above : (s + 128) / 256 + 255 ≤ 2 * p → sharper p s ≡ 255
  unfolding sharper
  sharper_above h = clamp_above {z = difference} (omega (arith, linear, up_sub (pos (2 * p)) (pos ((s + 128) / 256))))

  pub sharper_within : (s + 128) / 256 ≤ 2 * p → 2 * p ≤ (s + 128) / 256 + 255 → sharper p s ≡ 2 * p - (s + 128) / 256
  unfolding sharper
  sharper_within h k =
      let e : difference ≡ pos (2 * p - (s + 128) / 256) =
      omega (arith, linear, up_sub (pos (2 * p)) (pos ((s + 128) / 256))) in
      ap clamp_byte e ∙ omega arith

  pub sharper_is : sharper p s ≡ min (2 * p - (s + 128) / 256) 255
  sharper_is =
      let b = (s + 128) / 256 in
      by_test (leb (2 * p) b) (λ t. let l = leb-true (2 * p) b t in sharper_below l ∙ omega arith)
      (λ t.
      let l = leb-false (2 * p) b t in
      by_test (leb (b + 255) (2 * p)) (λ u. let m = leb-true (b + 255) (2 * p) u in sharper_above m ∙ omega arith)
      (λ u. let m = leb-false (b + 255) (2 * p) u in sharper_within (omega arith) (omega arith) ∙ omega arith))
