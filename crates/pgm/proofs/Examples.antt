-- Document 02, K3: worked examples beside those of vectors/specs/Stars.
use Prim.Native.Nat.{ℕ}
use mathlib.Core.List.{List, [], ◌∷◌, ◌++◌}
use mathlib.Core.Path.{◌≡◌, refl, ap}
use native.Mathlib.Omega.{arith}
use lib.ListN.{get_or}
use Rattle.std.proofs.Common.{Err}
use Rattle.image.specs.Call.{Gray8, refuses, gray8}
use Rattle.image.specs.Picture.{tabulate}
use Rattle.image.specs.Refusal.{sides_refusal}
use Rattle.pgm.specs.Form.{on_from}
use Rattle.pgm.specs.Read.{pixels_part, read_decision}
use Rattle.pgm.specs.Write.{digits, digit_count, header_lines, pgm_bytes, PgmWritten}
use Rattle.image.specs.declared.refusal.Refusal.TheVariants.{InvalidDestination}
use Rattle.pgm.proofs.Writing.{refused_kept}

-- `1 255 ` behind bytes that begin a file, and then pixels
file : List ℕ → List ℕ → List ℕ
file start pixels = start ++ (49 ∷ 32 ∷ 50 ∷ 53 ∷ 53 ∷ 32 ∷ pixels)

-- `P51 1 255 `: no gap behind `P5`; `P5` VT `1 1 255 `: VT is not white
no_gap : read_decision (file (80 ∷ 53 ∷ 49 ∷ 32 ∷ []) (7 ∷ [])) ≡ refuses 14
unfolding file read_decision on_from sides_refusal
no_gap = refl

no_white : read_decision (file (80 ∷ 53 ∷ 11 ∷ 49 ∷ 32 ∷ []) (7 ∷ [])) ≡ refuses 14
unfolding file read_decision on_from sides_refusal
no_white = refl

-- `P5 2 1 255 ` with one, two and three bytes behind it
missing : read_decision (file (80 ∷ 53 ∷ 32 ∷ 50 ∷ 32 ∷ []) (7 ∷ [])) ≡ refuses 16
unfolding file read_decision on_from sides_refusal
missing = refl

whole : pixels_part (file (80 ∷ 53 ∷ 32 ∷ 50 ∷ 32 ∷ []) (7 ∷ 8 ∷ [])) ≡ 7 ∷ 8 ∷ []
unfolding file read_decision on_from sides_refusal
whole = refl

surplus : read_decision (file (80 ∷ 53 ∷ 32 ∷ 50 ∷ 32 ∷ []) (7 ∷ 8 ∷ 9 ∷ [])) ≡ refuses 16
unfolding file read_decision on_from sides_refusal
surplus = refl

-- `P5`, 1024, 10 and 255, an LF behind each
four_lines : header_lines 1024 10
    ≡ 80 ∷ 53 ∷ 10 ∷ 49 ∷ 48 ∷ 50 ∷ 52 ∷ 10 ∷ 49 ∷ 48 ∷ 10 ∷ 50 ∷ 53 ∷ 53 ∷ 10 ∷ []
unfolding digits digit_count
four_lines = refl

-- 2 by 2 with stride 3: the bytes between rows and behind the last are left out
tight : pgm_bytes (gray8 (1 ∷ 2 ∷ 99 ∷ 3 ∷ 4 ∷ 99 ∷ []) 2 2 3) ≡ header_lines 2 2 ++ (1 ∷ 2 ∷ 3 ∷ 4 ∷ [])
unfolding digits digit_count tabulate
tight = refl

-- no program that has put a `P` before it gives 5 meets the contract, whatever the picture is: room for one byte
header_first : (src : Gray8) → PgmWritten src (0 ∷ []) (80 ∷ []) (Err InvalidDestination) → ⊥
header_first src o =
    let e : ◌≡◌ {A = ℕ} 80 0 = ap (λ (xs : List ℕ). get_or xs 0 0) (refused_kept src InvalidDestination o) in
    omega arith
