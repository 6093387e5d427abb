-- A call's answer is known by the decision that it shows: two answers that show the same are the same (`told_one`).
use Rattle.std.proofs.Common.{◌≡◌, ℕ, zero, suc, [], ◌∷◌, get_or, refl, sym, ap, ◌∙◌}
use Rattle.std.specs.Prelude.{Result, Ok, Err}
use Rattle.image.specs.Call.{Decision, accepts, refuses, told, number_of_refusal}
use Rattle.image.specs.declared.refusal.Refusal.{Refusal}
use Rattle.image.specs.declared.refusal.Refusal.TheVariants.{EmptyDimensions, DimensionsTooLarge, StrideTooSmall}
use Rattle.image.specs.declared.refusal.Refusal.TheVariants.{BufferTooSmall, InvalidDestination, DimensionMismatch}
use Rattle.image.specs.declared.refusal.Refusal.TheVariants.{InvalidLine, InvalidStrength, TooManyIterations}
use Rattle.image.specs.declared.refusal.Refusal.TheVariants.{LentTooSmall, NoLength, LengthTooLarge, InvalidRecord}
use Rattle.image.specs.declared.refusal.Refusal.TheVariants.{InvalidHeader, UnsupportedMaximum, PixelCountMismatch}
use Rattle.image.specs.declared.refusal.Refusal.TheVariants.{LowConfidence, CannotHalve}

-- the refusal of a number; of one that is no refusal's, any
abbrev refusal_of : ℕ → Refusal
refusal_of zero = EmptyDimensions
refusal_of (suc n) =
    get_or
    (EmptyDimensions
    ∷ DimensionsTooLarge
    ∷ StrideTooSmall
    ∷ BufferTooSmall
    ∷ InvalidDestination
    ∷ DimensionMismatch
    ∷ InvalidLine
    ∷ InvalidStrength
    ∷ TooManyIterations
    ∷ LentTooSmall
    ∷ NoLength
    ∷ LengthTooLarge
    ∷ InvalidRecord
    ∷ InvalidHeader
    ∷ UnsupportedMaximum
    ∷ PixelCountMismatch
    ∷ LowConfidence
    ∷ [])
    n CannotHalve

refusal_back : (r : Refusal) → refusal_of (number_of_refusal r) ≡ r
refusal_back EmptyDimensions = refl
refusal_back DimensionsTooLarge = refl
refusal_back StrideTooSmall = refl
refusal_back BufferTooSmall = refl
refusal_back InvalidDestination = refl
refusal_back DimensionMismatch = refl
refusal_back InvalidLine = refl
refusal_back InvalidStrength = refl
refusal_back TooManyIterations = refl
refusal_back LentTooSmall = refl
refusal_back NoLength = refl
refusal_back LengthTooLarge = refl
refusal_back InvalidRecord = refl
refusal_back InvalidHeader = refl
refusal_back UnsupportedMaximum = refl
refusal_back PixelCountMismatch = refl
refusal_back LowConfidence = refl
refusal_back CannotHalve = refl

abbrev answer_of : {R : Type 0} → Decision R → Result R Refusal
answer_of (accepts found) = Ok found
answer_of (refuses number) = Err (refusal_of number)

answer_back : {R : Type 0} (a : Result R Refusal) → answer_of (told a) ≡ a
answer_back (Ok found) = refl
answer_back (Err refusal) = ap Err (refusal_back refusal)

pub told_one : {R : Type 0} (a b : Result R Refusal) → told a ≡ told b → a ≡ b
told_one a b e = sym (answer_back a) ∙ ap answer_of e ∙ answer_back b
