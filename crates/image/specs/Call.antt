-- The one shape of a contract: what a call decides, answers, writes and leaves (document 01, "Refusals, first match
-- wins").
use Rattle.std.specs.Prelude.{ℕ, zero, suc, ◌+◌, cond, List, ◌++◌, ◌≡◌, ltb, length, take, drop}
use Rattle.std.specs.Prelude.{Result, Ok, Err}
use Rattle.image.specs.declared.refusal.Refusal.{Refusal}
use Rattle.image.specs.declared.refusal.Refusal.TheVariants.{EmptyDimensions, DimensionsTooLarge, StrideTooSmall, BufferTooSmall}
use Rattle.image.specs.declared.refusal.Refusal.TheVariants.{InvalidDestination, DimensionMismatch, InvalidLine, InvalidStrength}
use Rattle.image.specs.declared.refusal.Refusal.TheVariants.{TooManyIterations, LentTooSmall, NoLength, LengthTooLarge}
use Rattle.image.specs.declared.refusal.Refusal.TheVariants.{InvalidRecord, InvalidHeader, UnsupportedMaximum, PixelCountMismatch}
use Rattle.image.specs.declared.refusal.Refusal.TheVariants.{LowConfidence, CannotHalve}

-- a picture in a slice of bytes
pub record Gray8 : Type 0 where
  pub bytes : List ℕ
  pub width : ℕ
  pub height : ℕ
  pub stride : ℕ

abbrev pub gray8 : List ℕ → ℕ → ℕ → ℕ → Gray8
gray8 bytes width height stride = record { bytes = bytes; width = width; height = height; stride = stride }

-- what a call comes to, before it writes: it accepts, and found something, or it refuses, with a number
pub data Decision (R : Type 0) : Type 0 where
  accepts : R → Decision R
  refuses : ℕ → Decision R

-- by a refusal's number, where 0 is no refusal, and what else is decided
abbrev pub unless : {R : Type 0} → ℕ → Decision R → Decision R
unless zero next = next
unless (suc number) next = refuses (suc number)

abbrev pub decided : {R : Type 0} → ℕ → R → Decision R
decided number found = unless number (accepts found)

-- the document's number of a refusal
abbrev pub number_of_refusal : Refusal → ℕ
number_of_refusal EmptyDimensions = 1
number_of_refusal DimensionsTooLarge = 2
number_of_refusal StrideTooSmall = 3
number_of_refusal BufferTooSmall = 4
number_of_refusal InvalidDestination = 5
number_of_refusal DimensionMismatch = 6
number_of_refusal InvalidLine = 7
number_of_refusal InvalidStrength = 8
number_of_refusal TooManyIterations = 9
number_of_refusal LentTooSmall = 10
number_of_refusal NoLength = 11
number_of_refusal LengthTooLarge = 12
number_of_refusal InvalidRecord = 13
number_of_refusal InvalidHeader = 14
number_of_refusal UnsupportedMaximum = 15
number_of_refusal PixelCountMismatch = 16
number_of_refusal LowConfidence = 17
number_of_refusal CannotHalve = 18

-- what a call answered, as the decision that it shows
abbrev pub told : {R : Type 0} → Result R Refusal → Decision R
told (Ok found) = accepts found
told (Err refusal) = refuses (number_of_refusal refusal)

-- a call that only checks: it is refused with this number, and accepted where that is 0
abbrev pub Checks : ℕ → Result (Unit {0}) Refusal → Type 0
Checks number result = told result ≡ decided number tt

-- a call that answers what its decision finds
abbrev pub same : {R : Type 0} → Decision R → Decision R
same decision = decision

-- what is found, seen otherwise
abbrev pub map_found : {R T : Type 0} → (R → T) → Decision R → Decision T
map_found f (accepts found) = accepts (f found)
map_found f (refuses number) = refuses number

-- one after the other
abbrev pub and_then : {Q R : Type 0} → Decision Q → (Q → Decision R) → Decision R
and_then (accepts found) next = next found
and_then (refuses number) next = refuses number

-- 0, or the refusal's number
abbrev pub number_of : {R : Type 0} → Decision R → ℕ
number_of (accepts found) = 0
number_of (refuses number) = number

-- a refusal that keeps scratch: ".. except that 11 and 12 leave scratch free"
pub record KeepsScratch (number : ℕ) : Type 0 where
  pub not_11 : number ≡ 11 → ⊥
  pub not_12 : number ≡ 12 → ⊥

-- "A refusal returns its number and changes neither destination nor scratch, except that 11 and 12 leave scratch free."
-- An accepted call writes what `writes` says of what it found; scratch is then free. `answers` is the call's own type
-- of answers, and D what it writes to: a picture's bytes, estimates, out-parameters.
pub record Outcome {R A D S : Type 0} (decision : Decision R) (answers : Decision R → A) (writes : R → D → D → Type 0)
    (old new : D) (scratch scratch' : S) (answer : A) : Type 0 where
  pub answered : answer ≡ answers decision
  pub written : (found : R) → decision ≡ accepts found → writes found old new
  pub dst_kept : (number : ℕ) → decision ≡ refuses number → new ≡ old
  pub scratch_kept : (number : ℕ) → decision ≡ refuses number → KeepsScratch number → scratch' ≡ scratch

-- what is written beside out-parameters, which then hold `value` of what was found
abbrev pub WithOuts : {R D O : Type 0} → (R → D → D → Type 0) → (R → O) → R → D × O → D × O → Type 0
WithOuts writes value found old new = writes found old.0 new.0 × (new.1 ≡ value found)

-- out-parameters alone
abbrev pub OutsOnly : {R O : Type 0} → (R → O) → R → O → O → Type 0
OutsOnly value found old new = new ≡ value found

-- a call that writes out-parameters alone and is lent nothing: its decision, as C has it
abbrev pub Returns : {R O : Type 0} → Decision R → (R → O) → O → O → ℕ → Type 0
Returns decision value before after r = Outcome decision number_of (OutsOnly value) before after (tt {0}) (tt {0}) r

-- ---- bytes at the front of a slice

-- the bytes, or a number where the slice has no room for them
abbrev pub room_for : ℕ → ℕ → List ℕ → Decision (List ℕ)
room_for number room xs = cond (ltb room (length xs)) (refuses number) (accepts xs)

-- in the front of the slice, the rest as before
abbrev pub FrontWrites : List ℕ → List ℕ → List ℕ → Type 0
FrontWrites xs old new = new ≡ xs ++ drop (length xs) old

-- bytes from `at` on, and the place behind them; the rest as before
pub record Appended (xs : List ℕ) (at : ℕ) (old new : List ℕ) (end : ℕ) : Type 0 where
  pub behind : end ≡ at + length xs
  pub bytes : new ≡ take at old ++ (xs ++ drop (at + length xs) old)
