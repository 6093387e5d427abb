-- Laws of the answers: when fields are checked, a record is read, and a slice is written.
use mathlib.Core.Path.{◌≡◌, refl, sym, ap, ◌∙◌}
use mathlib.Core.Bool.{true, false}
use mathlib.Core.List.{List, [], ◌∷◌, ◌++◌}
use Prim.Native.Nat.{ℕ, suc, ◌+◌, ◌*◌, ◌≤◌}
use native.Mathlib.Nat.{le_of_eq}
use native.Mathlib.Omega.{arith}
use borrow.Author.Tests.{ne_eqb}
use lib.Dec.{lit≤}
use lib.ListN.{length, take, drop}
use lib.Seq.{sets, sets-eq, drop-length, drop-append-add, take_at}
use lib.Ieee.Scale.{finite}
use Rattle.numbers.proofs.Test.{false_not_true, false_of_not}
use Rattle.record.specs.Bytes.{bytes_of}
use Rattle.record.specs.Fields.{decoded, encoded, back_to_back, record_at, legal}
use Rattle.record.specs.Record.{filter_from, record_of, fields_of, checked, record_fields, read_fields, read_record}
use Rattle.record.specs.Record.{to_write, write_number, write_bytes, Wrote}
use Rattle.record.specs.declared.fields.Fields.{Fields}
use Rattle.record.specs.declared.RecordFilter.{RecordFilter}
use Rattle.record.specs.declared.Record.{Record}
use Rattle.record.proofs.Legal.{angle_finite, sound}
use Rattle.record.proofs.Doubles.{not_finite_bits}
use Rattle.std.specs.Prelude.{Option, None, Some}
use Rattle.image.specs.Call.{Decision, accepts, refuses, number_of, decided}

-- ---- checked fields

module _ (k : RecordFilter) where
  pub checked_legal : (f : Fields) → legal k f ≡ true → checked k f ≡ Some f
  checked_legal f h = rw h

  pub checked_broken : (f : Fields) → legal k f ≡ false → checked k f ≡ None
  checked_broken f h = rw h

  module _ (r : Record) (q : ℕ) where
    pub angle_broken : finite r.angle ≡ false → legal k (fields_of r q) ≡ false
    unfolding fields_of
    angle_broken h =
        false_of_not (legal k (fields_of r q))
        (λ e. false_not_true (not_finite_bits r.angle h) (angle_finite _ (sound (fields_of r q) k e).angle))

    pub estimate_broken : finite r.estimate ≡ false → legal k (fields_of r q) ≡ false
    unfolding fields_of
    estimate_broken h =
        false_of_not (legal k (fields_of r q))
        (λ e. false_not_true (not_finite_bits r.estimate h) (sound (fields_of r q) k e).estimate)

-- ---- reading

module _ (f : Fields) {k : RecordFilter} where
  pub fields_legal : filter_from f ≡ Some k → legal k f ≡ true → read_fields f ≡ accepts (record_of k f)
  unfolding read_fields
  fields_legal e h = rw (e, h)

module _ (xs : List ℕ) where
  pub read_whole : length xs ≡ 32 → read_record xs ≡ read_fields (decoded xs)
  unfolding read_record
  read_whole l = rw l

  pub read_short : (length xs ≡ 32 → ⊥) → read_record xs ≡ refuses 13
  unfolding read_record
  read_short n = rw (ne_eqb (length xs) 32 n)

-- ---- writing

pub encoded_length : (f : Fields) → length (encoded f) ≡ 32
unfolding encoded bytes_of
encoded_length f = refl

-- records back to back: each is found again, whatever stands before and after it
pub record_found : (fs : List Fields) (f : Fields) (gs : List Fields)
    → record_at (back_to_back (fs ++ f ∷ gs)) (length fs) ≡ encoded f
record_found [] f gs = take_at (encoded f) (back_to_back gs) 32 (encoded_length f)
record_found (g ∷ fs) f gs =
    let rest = back_to_back (fs ++ f ∷ gs) in
    let next : suc (length fs) * 32 ≡ 32 + length fs * 32 = omega arith in
    ap (λ (n : ℕ). take 32 (drop n (encoded g ++ rest))) next
    ∙ ap (take 32) (rw (encoded_length g) at (drop-append-add (encoded g) rest (length fs * 32)))
    ∙ record_found fs f gs

-- 32 bytes, stored from place 0 on, are the whole slice
pub stored_whole : (f : Fields) (old : List ℕ) → length old ≡ 32 → sets old 0 (encoded f) ≡ encoded f
unfolding encoded bytes_of
stored_whole f old l =
    sets-eq (encoded f) old 0 (le_of_eq (sym l))
    ∙ ap (λ (k : ℕ). encoded f ++ drop k old) (sym l)
    ∙ ap (λ (ys : List ℕ). encoded f ++ ys) (drop-length old)

-- the number of what is answered
number-is : (z : Option Fields) → number_of (decided {R = Unit {0}} (write_number z) tt) ≡ write_number z
number-is (Some f) = refl
number-is None = refl

module _ (r : Record) (old new : List ℕ) {answer : Decision (Unit {0})} where
  -- what was written into 32 bytes is what the record gives, whatever stood there
  module _ (l : length old ≡ 32) where
    pub wrote_number : Wrote r old new answer → number_of answer ≡ write_number (record_fields r)
    unfolding to_write
    wrote_number w = let a = w.answers in ap number_of (rw l at a) ∙ number-is (record_fields r)

    pub wrote_bytes : answer ≡ accepts tt → Wrote r old new answer → new ≡ write_bytes (record_fields r) []
    unfolding to_write
    wrote_bytes done w = go (record_fields r) (sym (ap number_of done) ∙ wrote_number w) (let b = w.bytes in rw l at b)
      where
        go : (z : Option Fields) → 0 ≡ write_number z → new ≡ write_bytes z old → new ≡ write_bytes z []
        go (Some f) e b = b
        go None e b = absurd (omega (arith, e))

-- 32 bytes, or none
pub record_bytes_most : (r : Record) → length (write_bytes (record_fields r) []) ≤ 32
record_bytes_most r = go (record_fields r)
  where
    go : (z : Option Fields) → length (write_bytes z []) ≤ 32
    go (Some f) = le_of_eq (encoded_length f)
    go None = lit≤ tt

-- all 32 of a record that can be written
pub record_bytes : (r : Record) → write_number (record_fields r) ≡ 0 → length (write_bytes (record_fields r) []) ≡ 32
record_bytes r = go (record_fields r)
  where
    go : (z : Option Fields) → write_number z ≡ 0 → length (write_bytes z []) ≡ 32
    go (Some f) w = encoded_length f
    go None w = absurd (omega (arith, w))

-- a refusal leaves the slice as it was
pub refused_kept : (r : Record) (old new : List ℕ) (number : ℕ) → Wrote r old new (refuses number) → new ≡ old
refused_kept r old new number w = go (to_write r old) w.answers w.bytes
  where
    go : (z : Option Fields) → refuses number ≡ decided {R = Unit {0}} (write_number z) tt → new ≡ write_bytes z old → new ≡ old
    go (Some f) e b = cc
    go None e b = b
