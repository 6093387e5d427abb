-- What is read as a field; and how long a file is, by a place of it (`behind_length`).
use Prim.Native.Nat.{ℕ, ◌+◌, ◌-◌, ◌≤◌}
use native.Mathlib.Omega.{arith}
use mathlib.Core.Bool.{false}
use mathlib.Core.List.{List, [], ◌∷◌, ◌++◌}
use mathlib.Core.Path.{◌≡◌, refl, sym, ap, ◌∙◌}
use borrow.Author.Tests.{eq-eqb, ne_eqb}
use lib.ListN.{length, drop, length-append, length-drop}
use Rattle.numbers.proofs.Test.{by_test}
use Rattle.std.proofs.Common.{None, Some}
use Rattle.image.specs.Call.{accepts, refuses}
use Rattle.pgm.specs.Form.{is_digit, value_of}
use Rattle.pgm.specs.Read.{behind_gaps, digits_of, behind_digits, read_field}
use Rattle.pgm.specs.Held.{cut, NumberOf, HeldNumber, HeldIf}
use Rattle.pgm.specs.declared.header.Number.{Number}

-- digits and what stands behind them are all
pub digits_all : (xs : List ℕ) → digits_of xs ++ behind_digits xs ≡ xs
unfolding digits_of behind_digits
digits_all [] = refl
digits_all (b ∷ bs) =
    by_test (is_digit b) (λ e. rw e (ap (◌∷◌ b) (digits_all bs))) (λ e. rw e refl)

digits_length : (xs : List ℕ) → length (digits_of xs) + length (behind_digits xs) ≡ length xs
digits_length xs = sym (length-append (digits_of xs) (behind_digits xs)) ∙ ap length (digits_all xs)

-- ---- the decision

module _ (xs : List ℕ) where
  abbrev ys : List ℕ
  ys = behind_gaps false xs

  pub no_gap : length ys ≡ length xs → read_field xs ≡ refuses 14
  unfolding read_field
  no_gap e = rw (eq-eqb (length ys) (length xs) e) refl

  module _ (some : length ys ≡ length xs → ⊥) where
    pub no_digit : length (digits_of ys) ≡ 0 → read_field xs ≡ refuses 14
    unfolding read_field
    no_digit e = rw (ne_eqb (length ys) (length xs) some, eq-eqb (length (digits_of ys)) 0 e) refl

    pub a_field : (length (digits_of ys) ≡ 0 → ⊥)
        → read_field xs ≡ accepts (record { value = value_of (digits_of ys); rest = behind_digits ys })
    unfolding read_field
    a_field h = rw (ne_eqb (length ys) (length xs) some, ne_eqb (length (digits_of ys)) 0 h) refl

-- ---- by the code's parts: what stands behind the gaps, and the number there

module _ (xs : List ℕ) {ys : List ℕ} (e : ys ≡ behind_gaps false xs) where
  pub field_no_gap : length ys ≡ length xs → HeldIf HeldNumber (read_field xs) None
  field_no_gap h = rw (no_gap xs (ap length (sym e) ∙ h)) refl

  module _ (some : length ys ≡ length xs → ⊥) {n : Number} (number : NumberOf ys n) where
    moved : length (behind_gaps false xs) ≡ length xs → ⊥
    moved k = some (ap length e ∙ k)

    counted : length (digits_of ys) + length n.rest.now ≡ length ys
    counted = ap (λ (m : ℕ). length (digits_of ys) + m) (ap length number.rest) ∙ digits_length ys

    pub field_no_digit : length n.rest.now ≡ length ys → HeldIf HeldNumber (read_field xs) None
    field_no_digit k =
        let z : length (digits_of ys) ≡ 0 = omega (arith, counted) in
        rw (no_digit xs moved (ap (λ (zs : List ℕ). length (digits_of zs)) (sym e) ∙ z)) refl

    pub field_found : (length n.rest.now ≡ length ys → ⊥) → HeldIf HeldNumber (read_field xs) (Some n)
    field_found h =
        rw (a_field xs moved some_digit)
        (record {
          value = number.value ∙ ap (λ (zs : List ℕ). cut (value_of (digits_of zs))) e;
          rest = number.rest ∙ ap behind_digits e;
        })
      where
        some_digit : length (digits_of (behind_gaps false xs)) ≡ 0 → ⊥
        some_digit z =
            let k : length (digits_of ys) ≡ 0 = ap (λ (zs : List ℕ). length (digits_of zs)) e ∙ z in
            h (omega (arith, counted))

-- ---- by places

-- a place of a file, and what stands from there on
pub record Behind (file : List ℕ) (at : ℕ) (rest : List ℕ) : Type 0 where
  pub within : at ≤ length file
  pub dropped : drop at file ≡ rest

-- the file is as long as what is before the place and what stands from there on
pub behind_length : {file rest : List ℕ} {at : ℕ} → Behind file at rest → length file ≡ at + length rest
behind_length {file} {rest} {at} b =
    let e : length rest ≡ length file - at = ap length (sym b.dropped) ∙ length-drop at file in
    omega (arith, b.within)
