-- Reading from a place of a file: what is behind the gaps and the digits that begin there, a byte at a time; and
-- numbers that are cut on the way.
use Prim.Native.Nat.{ℕ, ◌+◌, ◌-◌, ◌*◌, ◌≤◌, ◌<◌, min}
use native.Mathlib.Numerals.{add-one}
use native.Mathlib.Omega.{arith}
use mathlib.Core.Bool.{Bool, true, false}
use mathlib.Core.List.{List, [], ◌∷◌}
use mathlib.Core.Path.{◌≡◌, refl, sym, ap, ◌∙◌}
use lib.ListN.{length, get_or, drop}
use lib.Seq.{drop-cons, drop-length}
use Rattle.pgm.specs.Form.{is_digit, on_from}
use Rattle.pgm.specs.Read.{skips, comments, behind_gaps, digits_of, behind_digits}
use Rattle.pgm.specs.Held.{cut}

pub drop_end : (file : List ℕ) (at : ℕ) → at ≤ length file → length file ≤ at → drop at file ≡ []
drop_end file at h k = let e : at ≡ length file = omega arith in rw e (drop-length file)

module _ (file : List ℕ) (at : ℕ) (below : at < length file) where
  abbrev byte : ℕ
  byte = get_or file at 0

  pub next_byte : drop at file ≡ byte ∷ drop (at + 1) file
  next_byte = rw (add-one at) (drop-cons file at 0 below)

  pub gaps_on : (comment : Bool) → skips comment byte ≡ true
      → behind_gaps (comments comment byte) (drop (at + 1) file) ≡ behind_gaps comment (drop at file)
  unfolding behind_gaps
  gaps_on comment e = rw (next_byte, e) refl

  pub gaps_stop : (comment : Bool) → skips comment byte ≡ false → drop at file ≡ behind_gaps comment (drop at file)
  unfolding behind_gaps
  gaps_stop comment e = rw (next_byte, e) refl

  pub digits_on : is_digit byte ≡ true → digits_of (drop at file) ≡ byte ∷ digits_of (drop (at + 1) file)
  unfolding digits_of
  digits_on e = rw (next_byte, e) refl

  pub behind_on : is_digit byte ≡ true → behind_digits (drop (at + 1) file) ≡ behind_digits (drop at file)
  unfolding behind_digits
  behind_on e = rw (next_byte, e) refl

  pub digits_stop : is_digit byte ≡ false → digits_of (drop at file) ≡ []
  unfolding digits_of
  digits_stop e = rw (next_byte, e) refl

  pub behind_stop : is_digit byte ≡ false → drop at file ≡ behind_digits (drop at file)
  unfolding behind_digits
  behind_stop e = rw (next_byte, e) refl

-- ---- at the file's end

module _ (file : List ℕ) (at : ℕ) (within : at ≤ length file) (end : length file ≤ at) where
  pub gaps_end : (comment : Bool) → [] ≡ behind_gaps comment (drop at file)
  unfolding behind_gaps
  gaps_end comment = rw (drop_end file at within end) refl

  pub digits_end : digits_of (drop at file) ≡ []
  unfolding digits_of
  digits_end = rw (drop_end file at within end) refl

  pub behind_end : [] ≡ behind_digits (drop at file)
  unfolding behind_digits
  behind_end = rw (drop_end file at within end) refl

-- ---- numbers, cut

pub cut_small : (n : ℕ) → n ≤ 1025 → cut n ≡ n
unfolding cut
cut_small n h = omega arith

pub cut_most : (n : ℕ) → cut n ≤ 1025
unfolding cut
cut_most n = omega arith

pub cut_is : (n : ℕ) → cut n ≡ min n 1025
unfolding cut
cut_is n = refl

cut_step : (m n k : ℕ) → cut m ≡ cut n → cut (10 * m + k) ≡ cut (10 * n + k)
unfolding cut
cut_step m n k e = omega arith

-- numbers that are cut alike go on alike
cut_on : (m n : ℕ) (ds : List ℕ) → cut m ≡ cut n → cut (on_from m ds) ≡ cut (on_from n ds)
unfolding on_from
cut_on m n [] e = e
cut_on m n (d ∷ ds) e = cut_on (10 * m + (d - 48)) (10 * n + (d - 48)) ds (cut_step m n (d - 48) e)

cut_cut : (n : ℕ) → cut (cut n) ≡ cut n
cut_cut n = cut_small (cut n) (cut_most n)

-- one more digit
pub cut_digit : (value d : ℕ) (ds xs : List ℕ) → xs ≡ d ∷ ds
    → cut (on_from (cut (10 * value + (d - 48))) ds) ≡ cut (on_from value xs)
unfolding on_from
cut_digit value d ds xs e =
    cut_on (cut (10 * value + (d - 48))) (10 * value + (d - 48)) ds (cut_cut (10 * value + (d - 48)))
    ∙ ap (λ (ys : List ℕ). cut (on_from value ys)) (sym e)

-- no more
pub cut_done : (value : ℕ) (xs : List ℕ) → value ≤ 1025 → xs ≡ [] → value ≡ cut (on_from value xs)
unfolding on_from
cut_done value xs h e = rw e (sym (cut_small value h))
