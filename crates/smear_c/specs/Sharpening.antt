-- The binomial unsharp as C has it (document 01, "Binomial unsharp").
use Rattle.std.specs.Prelude.{ℕ, List, length}
use Rattle.image.specs.Call.{Gray8, number_of, Outcome}
use Rattle.sharpen.specs.Call.{sharpen_decision, SharpenWrites}

-- 0, or the refusal's number
abbrev pub SharpenedC : Gray8 → Gray8 → List ℕ → List ℕ → List ℕ → ℕ → Type 0
SharpenedC src dst new scratch scratch' r =
    Outcome (sharpen_decision src dst (length scratch)) number_of (SharpenWrites src dst.stride)
    dst.bytes new scratch scratch' r
