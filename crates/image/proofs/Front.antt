-- Bytes at the front of a slice: room for them (`room_short`, `room_whole`, `room_matches`), that they are determined
-- (`front_one`), and of a call that answers how many they are that they fit (`counted_fits`) and that a refusal keeps the
-- slice (`counted_kept`).
use mathlib.Core.Path.{◌≡◌, refl, sym, ap, ◌∙◌}
use mathlib.Core.List.{List, [], ◌∷◌}
use Prim.Native.Nat.{ℕ, ◌≤◌, ◌<◌}
use native.Mathlib.Omega.{arith}
use borrow.Author.Tests.{lt-ltb, le-ltb}
use lib.Dec.{ltb}
use lib.ListN.{length, take, drop, length-append}
use lib.Seq.{take_at}
use Rattle.numbers.proofs.Test.{by_test, ap_cond, ltb_iff}
use Rattle.image.specs.Call.{Decision, accepts, refuses, number_of, Outcome, room_for, FrontWrites}
use Rattle.image.specs.Conditions.{FirstMatch, given}
use Rattle.image.specs.Determined.{WritesOne}
use Rattle.image.proofs.Call.{accepts_not_refuses}
use Rattle.image.proofs.Conditions.{match_none, match_test}
use Rattle.image.proofs.Same.{answers_alike}

module _ (number : ℕ) {room : ℕ} (xs : List ℕ) where
  pub room_short : room < length xs → room_for number room xs ≡ refuses number
  room_short h = rw (lt-ltb room (length xs) h)

  pub room_whole : length xs ≤ room → room_for number room xs ≡ accepts xs
  room_whole h = rw (le-ltb room (length xs) h)

pub room_accepts : (number room : ℕ) (xs : List ℕ) {ys : List ℕ} → room_for number room xs ≡ accepts ys → xs ≡ ys
room_accepts number room xs e =
    by_test (ltb room (length xs)) (λ t. absurd (accepts_not_refuses (sym (rw t at e))))
    (λ t. let same = rw t at e in cc)

pub room_matches : (number room : ℕ) (xs : List ℕ)
    → FirstMatch (given number (room < length xs) ∷ []) (number_of (room_for number room xs))
room_matches number room xs =
    rw (ap_cond number_of (ltb room (length xs)) (refuses number) (accepts xs))
    (match_test number match_none (ltb_iff room (length xs)))

pub front_one : WritesOne FrontWrites
front_one xs old new new' e f = e ∙ sym f

-- what was written, whatever the slice held behind it
pub front_is : (xs old : List ℕ) {new : List ℕ} → FrontWrites xs old new → take (length xs) new ≡ xs
front_is xs old e = ap (take (length xs)) e ∙ take_at xs (drop (length xs) old) (length xs) refl

-- two calls that decide the same: the answer is the same, and so are the bytes, whatever the slices held
pub fronts_alike : {A : Type 0} {answers : Decision (List ℕ) → A} {decision decision' : Decision (List ℕ)}
    {old new old' new' : List ℕ} {answer answer' : A} → decision ≡ decision'
    → Outcome decision answers FrontWrites old new (tt {0}) (tt {0}) answer
    → Outcome decision' answers FrontWrites old' new' (tt {0}) (tt {0}) answer'
    → (answer ≡ answer')
    × ((xs : List ℕ) → decision ≡ accepts xs → take (length xs) new ≡ take (length xs) new')
fronts_alike e o o' = (
  answers_alike e o o',
  λ xs is. front_is xs _ (o.written xs is) ∙ sym (front_is xs _ (o'.written xs (sym e ∙ is))),
)

-- ---- a call whose answer is how many bytes were written, or a number

abbrev pub counted : Decision (List ℕ) → Decision ℕ
counted (accepts xs) = accepts (length xs)
counted (refuses number) = refuses number

module _ {A : Type 0} {answers : Decision (List ℕ) → A} (of : A → Decision ℕ)
    (is : (d : Decision (List ℕ)) → of (answers d) ≡ counted d) {decision : Decision (List ℕ)}
    {old new : List ℕ} {answer : A}
    (o : Outcome decision answers FrontWrites old new (tt {0}) (tt {0}) answer) where
  said : of answer ≡ counted decision
  said = ap of o.answered ∙ is decision

  -- it fits
  pub counted_fits : {n : ℕ} → length new ≡ length old → of answer ≡ accepts n → n ≤ length old
  counted_fits {n} same e = go decision refl
    where
      go : (d : Decision (List ℕ)) → decision ≡ d → n ≤ length old
      go (accepts xs) at =
          let found = sym e ∙ said ∙ ap counted at in
          let l : n ≡ length xs = cc in
          let all = sym same ∙ ap length (o.written xs at) ∙ length-append xs (drop (length xs) old) in
          omega arith
      go (refuses number) at = absurd (accepts_not_refuses (sym e ∙ said ∙ ap counted at))

  -- a refusal leaves the slice as it was
  pub counted_kept : {number : ℕ} → of answer ≡ refuses number → new ≡ old
  counted_kept {number} e = go decision refl
    where
      go : (d : Decision (List ℕ)) → decision ≡ d → new ≡ old
      go (accepts xs) at = absurd (accepts_not_refuses (sym (ap counted at) ∙ sym said ∙ e))
      go (refuses k) at = o.dst_kept k at
