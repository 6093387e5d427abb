-- The blur length from an estimate (document 01, "Whole job and exact run"): the smallest odd whole number that is at
-- least 3 and at least the estimate. That it is the smallest such number is proved in proofs/Odd.antt.
use Rattle.std.specs.Prelude.{ℕ, ◌+◌, ◌-◌, ◌*◌, ◌/◌, ◌^◌, max, true, false, cond, nat_le, Float, Option, Some, None}
use Rattle.std.specs.Float.{nan, inf, fin}
use Rattle.std.specs.Float.Ieee.{up, down}

-- num / den, raised to a whole number
abbrev pub ceiling : ℕ → ℕ → ℕ
ceiling num den = (num + (den - 1)) / den

-- c where c is odd, and else c + 1
abbrev pub odd_from : ℕ → ℕ
odd_from c = c / 2 * 2 + 1

-- the length for an estimate num / den
unfoldable pub odd_of : ℕ → ℕ → ℕ
odd_of num den = max 3 (odd_from (ceiling num den))

-- No length is answered for what is not a number and for estimates above 2 ^ 53, beyond every picture. A negative
-- estimate gives 3.
unfoldable pub odd_length : Float → Option ℕ
unfolding odd_of
odd_length nan = None
odd_length (inf true) = Some 3
odd_length (inf false) = None
odd_length (fin true m e) = Some 3
odd_length (fin false m e) = cond (nat_le (m * up e) (2 ^ 53 * down e)) (Some (odd_of (m * up e) (down e))) None
