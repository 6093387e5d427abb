-- Half-size pictures as C has them (document 02, K8).
use Rattle.std.specs.Prelude.{ℕ, List, length}
use Rattle.image.specs.Call.{Gray8, number_of, Outcome}
use Rattle.resize.specs.Call.{box_decision, BoxWrites, halve_decision, HalveWrites}

-- 0, or the refusal's number
abbrev pub BoxHalvedC : Gray8 → Gray8 → List ℕ → ℕ → Type 0
BoxHalvedC src dst new r =
    Outcome (box_decision src dst) number_of (BoxWrites src dst.stride) dst.bytes new (tt {0}) (tt {0}) r

-- the same, with the scratch before and after
abbrev pub HalvedC : ℕ → Gray8 → Gray8 → List ℕ → List ℕ → List ℕ → ℕ → Type 0
HalvedC count src dst new scratch scratch' r =
    Outcome (halve_decision count src dst (length scratch)) number_of (HalveWrites count src dst.stride)
    dst.bytes new scratch scratch' r
