-- Document 01, "Refusals, first match wins", for the binomial unsharp: each number with its condition, and what is
-- accepted.
use Rattle.std.specs.Prelude.{ℕ, ◌≤◌, ◌<◌, List, [], ◌∷◌, ◌++◌}
use Rattle.image.specs.Conditions.{Refusal, given, pair_conditions}
use Rattle.image.specs.Refusal.{LaidPair}
use Rattle.sharpen.specs.Call.{binomial_scratch}

abbrev pub binomial_conditions : ℕ → ℕ → ℕ → ℕ → ℕ → ℕ → ℕ → ℕ → ℕ → List Refusal
binomial_conditions len width height stride dst_len dst_width dst_height dst_stride scratch_len =
    pair_conditions len width height stride dst_len dst_width dst_height dst_stride
    ++ (given 10 (scratch_len < binomial_scratch width height) ∷ [])

-- `binomial_refusal` is 0 exactly there.
pub record BinomialAccepted (len width height stride dst_len dst_width dst_height dst_stride scratch_len : ℕ) : Type 0 where
  pub pictures : LaidPair len width height stride dst_len dst_width dst_height dst_stride
  pub scratch_least : binomial_scratch width height ≤ scratch_len
