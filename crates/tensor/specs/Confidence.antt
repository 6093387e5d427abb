-- Document 02, K6: the whole job "goes on only where the tensor's confidence, 1 minus the smaller over the larger
-- eigenvalue, is at least c / 256". The floor is c, "from 0 to 256"; D = A − E.
use Rattle.std.specs.Prelude.{Bool, cond, ◌&&◌, List, [], ◌∷◌, ◌⊎◌, ◌≡◌, ℕ, ◌+◌, ◌-◌, ◌*◌, ◌^◌, ◌≤◌, ◌<◌, eqb, leb, ℤ, pos, nat_abs, ◌+ℤ◌, ◌-ℤ◌, ◌*ℤ◌, length}
use Rattle.image.specs.Call.{Gray8, Decision, unless, decided}
use Rattle.image.specs.Conditions.{Refusal, given}
use Rattle.image.specs.Refusal.{layout_refusal}
use Rattle.tensor.specs.declared.direction.DirectionEstimate.{DirectionEstimate}
use Rattle.tensor.specs.Tensor.{TensorSums, no_direction, picture_sums, estimate_of}

abbrev pub max_floor : ℕ
max_floor = 256

-- D² + 4C²
abbrev pub square_gap : ℤ → ℤ → ℤ → ℕ
square_gap A C E = nat_abs (A -ℤ E) ^ 2 + 4 * nat_abs C ^ 2

-- "In whole numbers: (512 − c)² × (D² + 4C²) ≥ c² × (A + E)²."
abbrev pub at_least : ℕ → ℤ → ℤ → ℤ → Bool
at_least c A C E = leb (c ^ 2 * nat_abs (A +ℤ E) ^ 2) ((512 - c) ^ 2 * square_gap A C E)

-- "A picture with A + E = 0 or a side below 3 passes for c = 0 alone."
unfoldable pub passes : ℕ → ℕ → ℕ → ℤ → ℤ → ℤ → Bool
passes c w h A C E = cond (no_direction w h A E) (eqb c 0) (leb c max_floor && at_least c A C E)

-- `passes` holds exactly there.
pub record Confident (c w h : ℕ) (A C E : ℤ) : Type 0 where
  pub most : c ≤ max_floor
  pub directed : (c ≡ 0) ⊎ ((3 ≤ w) × (3 ≤ h) × (A +ℤ E ≡ pos 0 → ⊥))
  pub reaches : c ^ 2 * nat_abs (A +ℤ E) ^ 2 ≤ (512 - c) ^ 2 * square_gap A C E

-- "17 for too low a confidence, and for c above 256"
abbrev pub confidence_refusal : ℕ → ℕ → ℕ → TensorSums → ℕ
confidence_refusal c w h s = cond (passes c w h s.a s.c s.e) 0 17

abbrev pub confidence_conditions : ℕ → ℕ → ℕ → TensorSums → List Refusal
confidence_conditions c w h s = given 17 (Confident c w h s.a s.c s.e → ⊥) ∷ []

-- the direction's estimate, the layout's refusal, or 17
unfoldable pub confident_decision : ℕ → Gray8 → Decision DirectionEstimate
confident_decision c src =
    unless (layout_refusal (length src.bytes) src.width src.height src.stride)
    (decided (confidence_refusal c src.width src.height (picture_sums src))
    (estimate_of src.width src.height (picture_sums src)))

-- ---- what that says: the eigenvalues of the matrix A C / C E are (A + E ± R) / 2 with R² = D² + 4C², and 1 minus the
-- smaller over the larger is 2R / (A + E + R)

-- It is at least c / 256: some p / q is at most R, and 2p / ((A + E)q + p) is at least c / 256. (A + E is a sum of
-- squares, and so its own size.)
pub record Reached (c : ℕ) (A C E : ℤ) : Type 0 where
  pub p : ℕ
  pub q : ℕ
  pub some : 0 < q
  pub at_most : p ^ 2 ≤ q ^ 2 * square_gap A C E
  pub enough : c * (nat_abs (A +ℤ E) * q + p) ≤ 512 * p

-- smaller / n and larger / n are the eigenvalues, where these are fractions: by their sum and their product
pub record Eigenvalues (A C E : ℤ) (n smaller larger : ℕ) : Type 0 where
  pub some : 0 < n
  pub order : smaller ≤ larger
  pub trace : pos (smaller + larger) ≡ pos n *ℤ (A +ℤ E)
  pub determinant : pos (smaller * larger) ≡ pos (n * n) *ℤ (A *ℤ E -ℤ C *ℤ C)
