-- Bytes: no two of a white byte, a digit and `#` are the same.
use Prim.Native.Nat.{ℕ, ◌≤◌, ◌<◌}
use native.Mathlib.Omega.{arith}
use mathlib.Core.Bool.{true, false, ◌||◌, and-eq-true_iff}
use mathlib.Core.Logic.{◌⊎◌, inl, inr}
use mathlib.Core.Path.{◌≡◌}
use borrow.Author.Tests.{leb-true, lt-leb, eqb-true, ne_eqb}
use lib.Dec.{leb, eqb}
use Rattle.numbers.proofs.Test.{or_cases, or_false_intro}
use Rattle.pgm.specs.Form.{is_end, is_white, is_digit}
use Rattle.pgm.specs.Read.{skips}

pub digit_bounds : (b : ℕ) → is_digit b ≡ true → (48 ≤ b) × (b ≤ 57)
digit_bounds b e = let k = (and-eq-true_iff (leb 48 b) (leb b 57)).0 e in (leb-true 48 b k.0, leb-true b 57 k.1)

white_most : (b : ℕ) → is_white b ≡ true → b ≤ 32
white_most b e = three (or_cases (eqb b 32 || eqb b 9 || eqb b 10) (eqb b 13) e)
  where
    one : (eqb b 32 ≡ true) ⊎ (eqb b 9 ≡ true) → b ≤ 32
    one (inl t) = omega (arith, eqb-true b 32 t)
    one (inr t) = omega (arith, eqb-true b 9 t)

    two : ((eqb b 32 || eqb b 9) ≡ true) ⊎ (eqb b 10 ≡ true) → b ≤ 32
    two (inl t) = one (or_cases (eqb b 32) (eqb b 9) t)
    two (inr t) = omega (arith, eqb-true b 10 t)

    three : ((eqb b 32 || eqb b 9 || eqb b 10) ≡ true) ⊎ (eqb b 13 ≡ true) → b ≤ 32
    three (inl t) = two (or_cases (eqb b 32 || eqb b 9) (eqb b 10) t)
    three (inr t) = omega (arith, eqb-true b 13 t)

-- below the digits
small_no_digit : (b : ℕ) → b < 48 → is_digit b ≡ false
small_no_digit b h = rw (lt-leb 48 b h)

pub white_no_digit : (b : ℕ) → is_white b ≡ true → is_digit b ≡ false
white_no_digit b e = small_no_digit b (omega (arith, white_most b e))

pub white_no_hash : (b : ℕ) → is_white b ≡ true → eqb b 35 ≡ false
white_no_hash b e = ne_eqb b 35 (λ q. omega (arith, white_most b e, q))

pub digit_no_gap : (b : ℕ) → is_digit b ≡ true → skips false b ≡ false
digit_no_gap b e =
    let k = digit_bounds b e in
    or_false_intro
    (or_false_intro
    (or_false_intro (or_false_intro (ne_eqb b 32 (λ q. omega arith)) (ne_eqb b 9 (λ q. omega arith)))
    (ne_eqb b 10 (λ q. omega arith)))
    (ne_eqb b 13 (λ q. omega arith)))
    (ne_eqb b 35 (λ q. omega arith))

pub hash_no_end : (b : ℕ) → eqb b 35 ≡ true → is_end b ≡ false
hash_no_end b e =
    let q = eqb-true b 35 e in
    or_false_intro (ne_eqb b 10 (λ k. omega arith)) (ne_eqb b 13 (λ k. omega arith))
