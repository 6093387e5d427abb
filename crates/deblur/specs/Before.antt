-- Document 02, K5: "with the same picture as before on every input accepted before". The contracts of the line filters
-- with 10 as it was, where it asked for document 01's 3 × width × height, and what it is for a call to end as it did.
use Rattle.std.specs.Prelude.{ℕ, ◌*◌, ◌||◌, List, ◌≡◌, ltb, ℤ, length, Result}
use Rattle.image.specs.Call.{Gray8, Decision, told, map_found, Outcome}
use Rattle.image.specs.declared.refusal.Refusal.{Refusal}
use Rattle.image.specs.Refusal.{layout_refusal, pair_refusal}
use Rattle.raster.specs.declared.direction.RasterDirection4.{RasterDirection4}
use Rattle.deblur.specs.declared.RestorationMetadata.{RestorationMetadata}
use Rattle.deblur.specs.Calls.{metadata_of, decided_along, FilterWrites, EstimateWrites}
use Rattle.deblur.specs.Refusal.{in_order}
use Rattle.deblur.specs.Settings.{LineFilter}

-- how many i32 a line filter asked as scratch
abbrev pub scratch_before : ℕ → ℕ → ℕ
scratch_before width height = 3 * (width * height)

-- ---- restoration and line unsharp

abbrev pub filter_number_before : Gray8 → Gray8 → LineFilter → ℕ → ℕ
filter_number_before src dst f scratch_len =
    in_order
    (pair_refusal (length src.bytes) src.width src.height src.stride (length dst.bytes) dst.width
    dst.height dst.stride)
    (f.refusal src.width src.height) (ltb scratch_len (scratch_before src.width src.height))

abbrev pub filter_decision_before : Gray8 → Gray8 → LineFilter → ℕ → Decision RasterDirection4
filter_decision_before src dst f scratch_len = decided_along (filter_number_before src dst f scratch_len) f.direction

abbrev pub FilteredBefore : Gray8 → Gray8 → List ℕ → LineFilter → List ℤ → List ℤ → Result RestorationMetadata Refusal → Type 0
FilteredBefore src dst new f scratch scratch' answer =
    Outcome (filter_decision_before src dst f (length scratch)) (map_found metadata_of)
    (FilterWrites src dst.stride f.kernel) dst.bytes new scratch scratch' (told answer)

-- ---- the estimate call

abbrev pub estimate_number_before : Gray8 → ℕ → LineFilter → ℕ → ℕ
estimate_number_before src dst_len f scratch_len =
    in_order (layout_refusal (length src.bytes) src.width src.height src.stride)
    (f.refusal src.width src.height)
    (ltb dst_len (src.width * src.height) || ltb scratch_len (scratch_before src.width src.height))

abbrev pub estimate_decision_before : Gray8 → ℕ → LineFilter → ℕ → Decision RasterDirection4
estimate_decision_before src dst_len f scratch_len =
    decided_along (estimate_number_before src dst_len f scratch_len) f.direction

abbrev pub EstimateWrittenBefore : Gray8 → List ℤ → List ℤ → LineFilter → List ℤ → List ℤ → Result RestorationMetadata Refusal → Type 0
EstimateWrittenBefore src old new f scratch scratch' answer =
    Outcome (estimate_decision_before src (length old) f (length scratch)) (map_found metadata_of)
    (EstimateWrites src f.kernel) old new scratch scratch' (told answer)

-- ---- what it is to end as before

-- Two contracts of a call, as it was and as it is, over the scratch before and after, the new destination and the
-- answer. Unless it answered `ten`, it now has the same answer and the same destination, with scratch of one size,
-- whatever this holds.
abbrev pub AsBefore : {A D S N : Type 0} → (S → N) → A → (S → S → D → A → Type 0) → (S → S → D → A → Type 0) → Type 0
AsBefore {A} {D} {S} size ten Was Is =
    (scratch scratch' other other' : S) (new new' : D) (answer answer' : A) → size scratch ≡ size other
    → (answer ≡ ten → ⊥) → Was scratch scratch' new answer → Is other other' new' answer'
    → (answer ≡ answer') × (new ≡ new')
