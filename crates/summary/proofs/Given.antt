-- What a given sheet says: how its numbers go together, direction by direction (`given_mean`, `given_remainder`,
-- `given_largest`), and that every record is counted once (`given-counts`), to the file's last byte (`given_bytes`).
use mathlib.Core.Bool.{false}
use mathlib.Core.List.{List, [], ◌∷◌}
use mathlib.Core.Path.{◌≡◌, refl, sym, ap, ◌∙◌}
use Prim.Native.Nat.{ℕ, zero, suc, ◌+◌, ◌*◌, ◌/◌, ◌≤◌, ◌<◌}
use native.Mathlib.Nat.{zero-add}
use native.Mathlib.Omega.{arith}
use borrow.Author.Tests.{eqb-true, eqb-false}
use lib.Dec.{eqb}
use lib.ListN.{length, take, drop, get_or, length-take, length-drop}
use Rattle.numbers.proofs.Test.{by_test, false_not_true}
use Rattle.raster.specs.declared.direction.RasterDirection4.{RasterDirection4}
use Rattle.record.specs.Record.{read_record}
use Rattle.record.specs.declared.Record.{Record}
use Rattle.record.proofs.Answer.{read_short}
use Rattle.summary.specs.Sheet.{lengths_along, with_mean, lengths_of, along}
use Rattle.summary.specs.File.{parts_of, parts, is_fault, with_record, records_in, summarized, All}
use Rattle.summary.specs.declared.RecordSummary.{RecordSummary}
use Rattle.summary.proofs.Faults.{Fine, NoFault, first_fine, given_fine, given_sheet}
use Rattle.summary.proofs.Parts.{parts_length}
use Rattle.summary.proofs.Sheets.{mean_total, remainder_below, largest_most, largest_reached, counts_total}
use Rattle.summary.proofs.Sheets.{sheet_along}
use Rattle.std.specs.Prelude.{Ok}
use Rattle.image.specs.Call.{Decision, accepts, refuses}

-- ---- parts without fault are whole records

fine_whole : (p : List ℕ) → is_fault (read_record p) ≡ false → length p ≡ 32
fine_whole p h =
    by_test (eqb (length p) 32) (λ e. eqb-true (length p) 32 e)
    (λ e. absurd (false_not_true h (rw (read_short p (eqb-false (length p) 32 e)) refl)))

all_read : (ps : List (List ℕ)) → All Fine ps → length (records_in ps) ≡ length ps
all_read [] f = refl
all_read (p ∷ ps) f = go (read_record p) f.0 (all_read ps f.1)
  where
    go : (z : Decision Record) → is_fault z ≡ false → length (records_in ps) ≡ length ps
        → length (with_record z (records_in ps)) ≡ suc (length ps)
    go (accepts r) h e = ap suc e
    go (refuses number) h e = absurd (false_not_true h refl)

whole_bytes : (n : ℕ) (xs : List ℕ) → (length xs + 31) / 32 ≡ n → All Fine (parts_of n xs) → length xs ≡ n * 32
unfolding parts_of
whole_bytes zero xs e f = omega (arith, e)
whole_bytes (suc n) xs e f =
    let first = sym (length-take 32 xs) ∙ fine_whole (take 32 xs) f.0 in
    let left = length-drop 32 xs in
    let rest = whole_bytes n (drop 32 xs) (omega (arith, e, first, left)) f.1 in
    omega (arith, first, left, rest)

-- ---- a given sheet

module _ (xs : List ℕ) (s : RecordSummary) (given : summarized xs ≡ Ok s) where
  -- the blur lengths that the sheet is over
  abbrev lengths : RasterDirection4 → List ℕ
  lengths d = lengths_along d (records_in (parts xs))

  given-along : (d : RasterDirection4) → along s d ≡ with_mean (lengths_of (lengths d))
  given-along d = rw (given_sheet xs s given) (sheet_along (records_in (parts xs)) d)

  -- "the mean as whole part and remainder over the count"
  pub given_mean : (d : RasterDirection4) → (along s d).total ≡ (along s d).mean * (along s d).count + (along s d).remainder
  given_mean d = rw (given-along d) (mean_total (lengths d))

  pub given_remainder : (d : RasterDirection4) → 0 < (along s d).count → (along s d).remainder < (along s d).count
  given_remainder d some =
      let l = rw (given-along d) at some in
      rw (given-along d) (remainder_below (lengths d) l)

  -- no length is above the largest, and one reaches it
  pub given_largest : (d : RasterDirection4) (i : ℕ) → i < length (lengths d)
      → get_or (lengths d) i 0 ≤ (along s d).largest
  given_largest d i h = rw (given-along d) (largest_most (lengths d) i h)

  pub given_reached : (d : RasterDirection4) → 0 < (along s d).count
      → (i : ℕ) × (i < length (lengths d)) × (get_or (lengths d) i 0 ≡ (along s d).largest)
  given_reached d some =
      let l = rw (given-along d) at some in
      rw (given-along d) (largest_reached (lengths d) l)

  fine : NoFault 0 (parts xs)
  fine = first_fine (parts xs) 0 (omega arith) (given_fine xs s given ∙ sym (zero-add (length (parts xs))))

  -- counts and binomials add up to the number of records
  pub given-counts :
      s.horizontal.count + s.down_right.count + s.vertical.count + s.down_left.count + s.binomials
      ≡ length (parts xs)
  given-counts = rw (given_sheet xs s given) (counts_total (records_in (parts xs)) ∙ all_read (parts xs) fine.fine)

  -- .. which are all of the file
  pub given_bytes : length xs ≡ length (parts xs) * 32
  given_bytes =
      rw (parts_length xs) (whole_bytes ((length xs + 31) / 32) xs refl fine.fine)
