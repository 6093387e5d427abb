-- Document 01, 'Length', from the list of swings on: which swings stay, and the length that their widths give.
use Rattle.std.specs.Prelude.{◌≡◌, refl, Bool, cond, ◌||◌, List, [], ◌∷◌, ℕ, ◌/◌, ltb, eqb, ℤ, pos, ◌*ℤ◌, length, get_or, Float, Option, None, Some}
use Rattle.std.specs.Int.Signed.{le_z}
use Rattle.std.specs.Float.{nan, binary64}
use Rattle.std.specs.Float.Ieee.{of_bits, div, le}
use Rattle.swings.specs.declared.Swing.{Swing}
use Rattle.swings.specs.Swings.{strongest}

-- "Swings of at least half the strongest stay."
abbrev pub stays : ℤ → Swing → Bool
stays top s = le_z top (pos 2 *ℤ s.swing)

-- the widths of those that stay, in the order of the list
abbrev pub kept : ℤ → List Swing → List Float
kept top [] = []
kept top (s ∷ l) = cond (stays top s) (s.width ∷ kept top l) (kept top l)

-- "in ascending order": insertion sort by an order that is a test
module _ {A : Type 0} (before : A → A → Bool) where
  abbrev pub insert : A → List A → List A
  insert x [] = x ∷ []
  insert x (y ∷ l) = cond (before x y) (x ∷ (y ∷ l)) (y ∷ insert x l)

  abbrev pub sort : List A → List A
  sort [] = []
  sort (x ∷ l) = insert x (sort l)

-- "the width at place count / 2 in ascending order"
abbrev pub median : List Float → Float
median ws = get_or (sort le ws) (length ws / 2) nan

-- the double nearest 0.6
abbrev pub six_tenths : Float
six_tenths = of_bits binary64 0x3FE3333333333333

-- "Fewer than the minimum: Nothing. Else the width .. divided by 0.6." No swing at all gives Nothing whatever the
-- minimum.
abbrev pub length_from : List Float → ℕ → Option Float
length_from ws minimum =
    cond (eqb (length ws) 0 || ltb (length ws) minimum) None (Some (div binary64 (median ws) six_tenths))

-- the length that a list of swings gives
abbrev pub length_of : List Swing → ℕ → Option Float
length_of l minimum = length_from (kept (strongest l) l) minimum

-- ---- worked examples

swing : ℕ → ℤ → Swing
swing bits z = record { width = of_bits binary64 bits; swing = z }

-- widths 3.0, 1.0, 2.5, 2.0 of swings 100, 49, 50, 200: the strongest is 200, so 100 and 200 stay, and place 1 is 3.0;
-- 3.0 / 0.6 = 5.0
some : List Swing
unfolding swing
some =
    swing 0x4008000000000000 (pos 100)
    ∷ (swing 0x3FF0000000000000 (pos 49)
    ∷ (swing 0x4004000000000000 (pos 50) ∷ (swing 0x4000000000000000 (pos 200) ∷ [])))

example_found : length_of some 2 ≡ Some (of_bits binary64 0x4014000000000000)
unfolding some swing of_bits le div
example_found = refl

example_few : length_of some 3 ≡ None
unfolding some swing of_bits le div
example_few = refl
