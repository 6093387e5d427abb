-- The digits of a number: how many, what they are as a number, and no zero before them.
use Prim.Native.Nat.{ℕ, zero, suc, ◌+◌, ◌-◌, ◌/◌, ◌%◌, ◌≤◌, ◌<◌}
use native.Mathlib.Nat.{mod-lt}
use native.Mathlib.Numerals.{add-one}
use native.Mathlib.Omega.{arith}
use mathlib.Core.List.{List, [], ◌∷◌, ◌++◌, append_assoc}
use mathlib.Core.Path.{◌≡◌, refl, sym, ap, ◌∙◌}
use borrow.Author.Tests.{lt-ltb, le-ltb}
use lib.Dec.{ltb}
use lib.ListN.{length, set, drop, length-append, length-set}
use lib.Seq.{drop-cons, drop-set-lt, get_or-set_same}
use Rattle.numbers.proofs.Test.{cond_both}
use Rattle.pgm.specs.Write.{digits, digit_count, decimal, number_line, header_lines}

-- ---- how many

module _ (n : ℕ) where
  pub count_1 : n < 10 → 1 ≡ digit_count n
  unfolding digit_count
  count_1 h = rw (lt-ltb n 10 h) refl

  pub count_2 : 10 ≤ n → n < 100 → 2 ≡ digit_count n
  unfolding digit_count
  count_2 h k = rw (le-ltb n 10 h, lt-ltb n 100 k) refl

  pub count_3 : 100 ≤ n → n < 1000 → 3 ≡ digit_count n
  unfolding digit_count
  count_3 h k = rw (le-ltb n 10 (omega arith), le-ltb n 100 h, lt-ltb n 1000 k) refl

  pub count_4 : 1000 ≤ n → 4 ≡ digit_count n
  unfolding digit_count
  count_4 h = rw (le-ltb n 10 (omega arith), le-ltb n 100 (omega arith), le-ltb n 1000 h) refl

pub count_most : (n : ℕ) → digit_count n ≤ 4
unfolding digit_count
count_most n =
    cond_both (λ (k : ℕ). k ≤ 4) (ltb n 10) 1 _ (omega arith)
    (cond_both (λ (k : ℕ). k ≤ 4) (ltb n 100) 2 _ (omega arith)
    (cond_both (λ (k : ℕ). k ≤ 4) (ltb n 1000) 3 4 (omega arith) (omega arith)))

pub length_digits : (k n : ℕ) → length (digits k n) ≡ k
unfolding digits
length_digits zero n = refl
length_digits (suc k) n =
    length-append (digits k (n / 10)) ((48 + n % 10) ∷ []) ∙ ap (λ (m : ℕ). m + 1) (length_digits k (n / 10))
    ∙ add-one k

pub length_line : (n : ℕ) → length (number_line n) ≡ digit_count n + 1
length_line n =
    length-append (decimal n) (10 ∷ []) ∙ ap (λ (m : ℕ). m + 1) (length_digits (digit_count n) n)

pub line_255 : number_line 255 ≡ 50 ∷ 53 ∷ 53 ∷ 10 ∷ []
unfolding digits digit_count
line_255 = refl

pub length_header : (w h : ℕ) → length (header_lines w h) ≡ 9 + digit_count w + digit_count h
length_header w h =
    let a = length-append (80 ∷ 53 ∷ 10 ∷ [] ++ number_line w ++ number_line h) (number_line 255) in
    let b = length-append (80 ∷ 53 ∷ 10 ∷ [] ++ number_line w) (number_line h) in
    let c = length-append (80 ∷ 53 ∷ 10 ∷ []) (number_line w) in
    omega (arith, a, b, c, length_line w, length_line h, ap length line_255)

-- ---- one by one, from the last

pub digit_small : (n : ℕ) → n % 10 < 10
digit_small n = mod-lt n (omega arith)

before : (out : List ℕ) (k v : ℕ) → k < length out → drop k (set out k v) ≡ v ∷ drop (suc k) out
before out k v h =
    drop-cons (set out k v) k 0 (rw (length-set out k v) h)
    ∙ rw (get_or-set_same out k v 0 h, drop-set-lt (suc k) out k v (omega arith)) refl

step : (out : List ℕ) (k rest : ℕ) → k < length out
    → digits k (rest / 10) ++ drop k (set out k (48 + rest % 10)) ≡ digits (suc k) rest ++ drop (suc k) out
unfolding digits
step out k rest h =
    ap (◌++◌ (digits k (rest / 10))) (before out k (48 + rest % 10) h)
    ∙ sym (append_assoc (digits k (rest / 10)) ((48 + rest % 10) ∷ []) (drop (suc k) out))

pub digits_step : (out : List ℕ) (at rest : ℕ) → 0 < at → at ≤ length out
    → digits (at - 1) (rest / 10) ++ drop (at - 1) (set out (at - 1) (48 + rest % 10)) ≡ digits at rest ++ drop at out
digits_step out at rest some h =
    let e : suc (at - 1) ≡ at = omega arith in
    step out (at - 1) rest (omega arith) ∙ ap (λ (k : ℕ). digits k rest ++ drop k out) e

pub digits_done : (out : List ℕ) (at rest : ℕ) → at ≤ 0 → out ≡ digits at rest ++ drop at out
unfolding digits
digits_done out at rest h = let e : at ≡ 0 = omega arith in rw e refl
