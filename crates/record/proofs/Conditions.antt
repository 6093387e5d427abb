-- A record is given 13 in its condition and otherwise never, read (`read_exactly`) or written (`write_exactly`), and
-- always where its angle has no direction (`read_undirected`, `write_undirected`).
use Prim.Native.Nat.{ℕ}
use native.Mathlib.Omega.{arith}
use mathlib.Core.Bool.{false}
use mathlib.Core.List.{List, [], ◌∷◌}
use mathlib.Core.Logic.{inl, inr, ◌↔◌}
use mathlib.Core.Path.{◌≡◌, refl, ap, ◌∙◌}
use borrow.Author.Tests.{eqb-true, eqb-false}
use lib.Dec.{T, eqb}
use lib.Ieee.{binary64, of_bits, fits}
use lib.Ieee.Bits.{of_bits-to_bits}
use lib.ListN.{length}
use Rattle.numbers.proofs.Test.{ap_cond, by_test, eqb_iff, false_iff, false_not_true, false_of_not}
use Rattle.raster.specs.Direction.{from_angle}
use Rattle.image.specs.Conditions.{given, FirstMatch, Exactly}
use Rattle.image.proofs.Conditions.{exactly, match_none, match_unless}
use Rattle.record.specs.Conditions.{FieldsBroken, RecordBroken, read_conditions, write_conditions}
use Rattle.record.specs.Fields.{decoded, legal}
use Rattle.record.specs.Record.{filter_from, record_of, filter_q, fields_of, with_q, record_fields, read_as, read_fields}
use Rattle.record.specs.Record.{read_record, to_write, write_number}
use Rattle.record.specs.declared.fields.Fields.{Fields}
use Rattle.record.specs.declared.RecordFilter.{RecordFilter}
use Rattle.record.specs.declared.Record.{Record}
use Rattle.record.proofs.Legal.{sound}
use Rattle.std.specs.Prelude.{Option, None, Some, is_some}
use Rattle.image.specs.Call.{accepts, refuses, number_of}

-- ---- reading

module _ (f : Fields) where
  limits-iff : (k : RecordFilter) → filter_from f ≡ Some k → (legal k f ≡ false) ↔ FieldsBroken f
  limits-iff k e = (λ h k' e'. let same : k' ≡ k = cc in rw same h, λ h. h k e)

  named-matches : (named : Option RecordFilter) → filter_from f ≡ named
      → FirstMatch (given 13 (FieldsBroken f) ∷ []) (number_of (read_as named f))
  named-matches (Some k) e =
      rw (ap_cond number_of (legal k f) (accepts (record_of k f)) (refuses 13))
      (match_unless 13 match_none (limits-iff k e))
  named-matches None e =
      record { matches = inl (λ k e'. absurd (let z : ◌≡◌ {A = ℕ} 0 1 = cc in omega arith), refl) }

pub read_exactly : (xs : List ℕ) → Exactly (read_conditions xs) (number_of (read_record xs))
unfolding read_record read_fields
read_exactly xs =
    let f = decoded xs in
    exactly
    (rw (ap_cond number_of (eqb (length xs) 32) (read_as (filter_from f) f) (refuses 13))
    (match_unless 13 (named-matches f (filter_from f) refl) (false_iff _ (eqb_iff (length xs) 32))))

-- ---- writing

module _ (r : Record) where
  written-iff : (q : ℕ) → filter_q r.filter ≡ Some q → (legal r.filter (fields_of r q) ≡ false) ↔ RecordBroken r
  written-iff q e = (λ h q' e'. let same : q' ≡ q = cc in rw same h, λ h. h q e)

  factor_matches : (z : Option ℕ) → filter_q r.filter ≡ z
      → FirstMatch (given 13 (RecordBroken r) ∷ []) (write_number (with_q r z))
  factor_matches (Some q) e =
      rw (ap_cond write_number (legal r.filter (fields_of r q)) (Some (fields_of r q)) None)
      (match_unless 13 match_none (written-iff q e))
  factor_matches None e =
      record { matches = inl (λ q e'. absurd (let z : ◌≡◌ {A = ℕ} 0 1 = cc in omega arith), refl) }

  pub write_exactly : (old : List ℕ) → Exactly (write_conditions r old) (write_number (to_write r old))
  unfolding to_write record_fields
  write_exactly old =
      exactly
      (rw (ap_cond write_number (eqb (length old) 32) (with_q r (filter_q r.filter)) None)
      (match_unless 13 (factor_matches (filter_q r.filter) refl) (false_iff _ (eqb_iff (length old) 32))))

-- ---- document 02, K7: "A record with such an angle gives 13."

undirected : (k : RecordFilter) (f : Fields) → from_angle (of_bits binary64 f.angle) ≡ None → legal k f ≡ false
undirected k f e = false_of_not (legal k f) (λ h. false_not_true (ap is_some e) (sound f k h).angle)

-- what is broken is given 13, whatever the slice's length
given_13 : (xs : List ℕ) {B : Type 0} → B → FirstMatch (given 13 (length xs ≡ 32 → ⊥) ∷ given 13 B ∷ []) 13
given_13 xs b = record {
  matches = by_test (eqb (length xs) 32) (λ t. inr (λ n. n (eqb-true _ _ t), inl (b, refl)))
      (λ t. inl (eqb-false _ _ t, refl));
}

pub read_undirected : (xs : List ℕ) → from_angle (of_bits binary64 (decoded xs).angle) ≡ None
    → number_of (read_record xs) ≡ 13
read_undirected xs e = (read_exactly xs 13).1 (given_13 xs (λ k _. undirected k (decoded xs) e))

pub write_undirected : (r : Record) (old : List ℕ) → T (fits binary64 r.angle) → from_angle r.angle ≡ None
    → write_number (to_write r old) ≡ 13
unfolding fields_of
write_undirected r old t e =
    let same = of_bits-to_bits binary64 r.angle t in
    (write_exactly r old 13).1 (given_13 old (λ q _. undirected r.filter (fields_of r q) (ap from_angle same ∙ e)))
