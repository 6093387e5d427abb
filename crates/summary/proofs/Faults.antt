-- A file is refused where there is a fault (`fault_refused`), with 13 and the index of the first (`refused_first`);
-- where a sheet is given there is none (`given_none`).
use mathlib.Core.Bool.{true, false}
use mathlib.Core.List.{List, [], ◌∷◌}
use mathlib.Core.Path.{◌≡◌, refl, sym, ap}
use Prim.Native.Nat.{ℕ, zero, suc, ◌+◌, ◌≤◌, ◌<◌}
use native.Mathlib.Nat.{le_refl, zero-add}
use native.Mathlib.Omega.{arith}
use borrow.Author.Tests.{leb-false, eqb-true, eqb-false, eq-eqb, ne_eqb}
use lib.Dec.{leb, eqb}
use lib.ListN.{length, get_or}
use Rattle.numbers.proofs.Test.{by_test, false_not_true, or_false_left, or_false_right}
use Rattle.record.specs.Record.{read_record}
use Rattle.summary.specs.Sheet.{tally_of, sheet_of}
use Rattle.summary.specs.File.{parts, is_fault, max_records, is_fault_at, first_fault, records_in}
use Rattle.summary.specs.File.{summarized, part_at, FaultAt, FirstFault, All}
use Rattle.summary.specs.Conditions.{summary_number}
use Rattle.summary.specs.declared.FaultyRecord.{FaultyRecord}
use Rattle.summary.specs.declared.RecordSummary.{RecordSummary}
use Rattle.std.specs.Prelude.{Ok, Err}
use Rattle.summary.specs.File.{faulty_at}

-- ---- the search

first_least : (ps : List (List ℕ)) (k : ℕ) → k ≤ first_fault k ps
unfolding first_fault
first_least [] k = le_refl k
first_least (p ∷ ps) k =
    by_test (is_fault_at k p) (λ h. rw h (le_refl k)) (λ h. let l = first_least ps (suc k) in rw h (omega (arith, l)))

first_most : (ps : List (List ℕ)) (k : ℕ) → first_fault k ps ≤ k + length ps
unfolding first_fault
first_most [] k = omega arith
first_most (p ∷ ps) k =
    by_test (is_fault_at k p) (λ h. rw h (omega arith)) (λ h. let l = first_most ps (suc k) in rw h (omega (arith, l)))

-- no fault before it
fine_before : (ps : List (List ℕ)) (k j : ℕ) → j < length ps → k + j < first_fault k ps
    → is_fault_at (k + j) (get_or ps j []) ≡ false
unfolding first_fault
fine_before [] k j within h = absurd (omega (arith, within))
fine_before (p ∷ ps) k zero within h =
    let e : k + 0 ≡ k = omega arith in
    rw e
    (by_test (is_fault_at k p) (λ f. absurd (let l = rw f at h in omega (arith, l))) (λ f. f))
fine_before (p ∷ ps) k (suc j) within h =
    let e : k + suc j ≡ suc k + j = omega arith in
    rw e
    (by_test (is_fault_at k p) (λ f. absurd (let l = rw f at h in omega (arith, l)))
    (λ f. let l = rw (f, e) at h in fine_before ps (suc k) j (omega (arith, within)) l))

-- a fault at it
fault_there : (ps : List (List ℕ)) (k i : ℕ) → i < length ps → first_fault k ps ≡ k + i
    → is_fault_at (k + i) (get_or ps i []) ≡ true
unfolding first_fault
fault_there [] k i within h = absurd (omega (arith, within))
fault_there (p ∷ ps) k zero within h =
    let e : k + 0 ≡ k = omega arith in
    let least = first_least ps (suc k) in
    rw e
    (by_test (is_fault_at k p) (λ f. f) (λ f. absurd (let l = rw f at h in omega (arith, l, least))))
fault_there (p ∷ ps) k (suc i) within h =
    let e : k + suc i ≡ suc k + i = omega arith in
    rw e
    (by_test (is_fault_at k p) (λ f. absurd (let l = rw f at h in omega (arith, l)))
    (λ f. let l = rw (f, e) at h in fault_there ps (suc k) i (omega (arith, within)) l))

-- ---- parts without fault, wherever they stand

abbrev pub Fine : List ℕ → Type 0
Fine p = is_fault (read_record p) ≡ false

-- no fault among parts that begin at index k
pub record NoFault (k : ℕ) (ps : List (List ℕ)) : Type 0 where
  pub fine : All Fine ps
  pub within : k + length ps ≤ max_records

pub first_fine : (ps : List (List ℕ)) (k : ℕ) → k ≤ max_records → first_fault k ps ≡ k + length ps → NoFault k ps
unfolding first_fault
first_fine [] k most e = record { fine = tt; within = omega (arith, most) }
first_fine (p ∷ ps) k most e =
    by_test (is_fault_at k p)
    (λ h. absurd (let l = rw h at e in omega (arith, l)))
    (λ h.
    let l = rw h at e in
    let less = leb-false max_records k (or_false_left (leb max_records k) (is_fault (read_record p)) h) in
    let rest = first_fine ps (suc k) (omega (arith, less)) (omega (arith, l)) in
    record {
      fine = (or_false_right (leb max_records k) (is_fault (read_record p)) h, rest.fine);
      within = omega (arith, rest.within);
    })

-- ---- a file

module _ (xs : List ℕ) where
  none-fine : first_fault 0 (parts xs) ≡ length (parts xs) → (j : ℕ) → j < length (parts xs)
      → is_fault_at j (part_at xs j) ≡ false
  none-fine e j within =
      let fine = fine_before (parts xs) 0 j within (omega (arith, e, within)) in
      rw (zero-add j) at fine

  found_first : (first_fault 0 (parts xs) ≡ length (parts xs) → ⊥) → FirstFault xs (first_fault 0 (parts xs))
  found_first n =
      let i = first_fault 0 (parts xs) in
      let most = first_most (parts xs) 0 in
      let within : i < length (parts xs) = omega (arith, most, n) in
      let there = fault_there (parts xs) 0 i within (sym (zero-add i)) in
      record {
        fault = record { within = within; faulty = rw (zero-add i) at there };
        before = λ j h.
            let fine = fine_before (parts xs) 0 j (omega (arith, h, within)) (omega (arith, h)) in
            rw (zero-add j) at fine;
      }

  pub given_fine : (s : RecordSummary) → summarized xs ≡ Ok s → first_fault 0 (parts xs) ≡ length (parts xs)
  unfolding summarized
  given_fine s e =
      by_test (eqb (first_fault 0 (parts xs)) (length (parts xs))) (λ h. eqb-true _ _ h)
      (λ h. let l = rw h at e in cc)

  pub given_sheet : (s : RecordSummary) → summarized xs ≡ Ok s → s ≡ sheet_of (tally_of (records_in (parts xs)))
  unfolding summarized
  given_sheet s e =
      let l = rw (eq-eqb (first_fault 0 (parts xs)) (length (parts xs)) (given_fine s e)) at e in
      cc

  -- where a sheet is given, no part is a fault
  pub given_none : (s : RecordSummary) → summarized xs ≡ Ok s → (j : ℕ) → FaultAt xs j → ⊥
  given_none s e j f = false_not_true (none-fine (given_fine s e) j f.within) f.faulty

  -- a refusal is 13, with the index of the first fault
  pub refused_first : (f : FaultyRecord) → summarized xs ≡ Err f
      → (summary_number (summarized xs) ≡ 13) × FirstFault xs f.index
  unfolding summarized
  refused_first f e =
      by_test (eqb (first_fault 0 (parts xs)) (length (parts xs))) (λ h. let l = rw h at e in cc)
      (λ h.
      let l = rw h at e in
      let same : faulty_at (first_fault 0 (parts xs)) ≡ f = cc in
      (ap summary_number e, rw (← same) (found_first (eqb-false _ _ h))))

  -- .. and where there is a fault the file is refused
  pub fault_refused : (i : ℕ) → FaultAt xs i → summarized xs ≡ Err (faulty_at (first_fault 0 (parts xs)))
  unfolding summarized
  fault_refused i f =
      rw
      (ne_eqb (first_fault 0 (parts xs)) (length (parts xs))
      (λ e. false_not_true (none-fine e i f.within) f.faulty))
      refl
