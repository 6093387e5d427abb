-- The first places as a part.
use Prim.Native.Nat.{ℕ}
use mathlib.Core.Path.{◌≡◌}
use native.Mathlib.Omega.{arith}
use Rattle.numbers.specs.Written.{front, part}
use Rattle.numbers.proofs.Places.{front_iff, part_iff}
use Rattle.numbers.proofs.Test.{bool_ext}

pub part_front : (n j : ℕ) → front n j ≡ part 0 n j
part_front n j =
    bool_ext (front n j) (part 0 n j)
    (λ e. let b = (front_iff n j).0 e in (part_iff 0 n j).1 (omega arith))
    (λ e. let b = (part_iff 0 n j).0 e in (front_iff n j).1 (omega arith))
