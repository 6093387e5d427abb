-- Rows of means, for the contracts of `half`. That they make `halved` is a law, `half_at_is`.
use Rattle.std.specs.Prelude.{ℕ, ◌+◌, ◌*◌, List, get_or}
use Rattle.resize.specs.Halving.{mean_of_four}

-- the mean at column x of two rows
abbrev pub half_at : List ℕ → List ℕ → ℕ → ℕ
half_at above below x =
    mean_of_four (get_or above (2 * x) 0) (get_or above (2 * x + 1) 0) (get_or below (2 * x) 0) (get_or below (2 * x + 1) 0)
