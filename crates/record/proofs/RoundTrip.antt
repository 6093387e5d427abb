-- Record and fields determine each other: fields and record (`fields_record`, `record_fields_lem`), and so what is written
-- reads as the same record (`read_written`), what reads is written as the same bytes (`write_read`), and bytes that
-- read as one record are the same (`read_unique`).
use mathlib.Core.Path.{◌≡◌, refl, sym, ap, ◌∙◌, subst}
use mathlib.Core.Bool.{true}
use mathlib.Core.List.{List}
use Prim.Native.Nat.{ℕ, ◌*◌, ◌^◌, ◌≤◌, ◌<◌}
use native.Mathlib.Omega.{arith}
use borrow.Author.Tests.{eqb-true, eq-eqb}
use lib.Dec.{T, eqb, lit≤}
use lib.ListN.{length}
use lib.Ieee.{Float, binary64, to_bits, fits}
use lib.Ieee.Bits.{of_bits-to_bits, to_bits-lt}
use Rattle.numbers.proofs.Test.{by_test}
use Rattle.floats.specs.Factor.{scale, quantized, factor_of}
use Rattle.floats.proofs.Factor.{quantized_factor}
use Rattle.raster.proofs.Codes.{from_border, border_from_lem, from_index, index_from}
use Rattle.record.specs.Fields.{decoded, encoded, legal}
use Rattle.record.specs.Record.{filter_from, record_of, filter_code, is_factor, exact_q, filter_q, fields_of, checked}
use Rattle.record.specs.Record.{with_q}
use Rattle.record.specs.Record.{record_fields, read_as, read_fields, read_record, to_write, write_number, write_bytes}
use Rattle.record.specs.Record.{Wrote}
use Rattle.record.specs.declared.fields.Fields.{Fields}
use Rattle.record.specs.declared.RecordFilter.{RecordFilter}
use Rattle.record.specs.declared.RecordFilter.TheVariants.{WholeJob, Restoration, Unsharp, Binomial}
use Rattle.record.specs.declared.Record.{Record}
use Rattle.record.proofs.Answer.{checked_legal, fields_legal, read_whole, encoded_length}
use Rattle.record.proofs.Legal.{FilterSound, sound, Named, whole_job, restoration, unsharp, binomial, named}
use Rattle.record.proofs.Legal.{filter_named, angle_finite}
use Rattle.record.proofs.Doubles.{bits_back, factor_finite, factor_same}
use Rattle.record.proofs.LittleEndian.{Bytes}
use Rattle.record.proofs.Coding.{InBytes, decoded_encoded, decoded_in_bytes, encoded_decoded}
use Rattle.std.specs.Prelude.{Option, None, Some}
use Rattle.std.proofs.lemmas.Option.{none-some, cond_some}
use Rattle.image.proofs.Call.{accepts_not_refuses}
use Rattle.image.specs.Call.{Decision, accepts, decided}

-- ---- fields and record

-- q and the factor q / 65,536 determine each other
pub factor_exact : (limit q : ℕ) → limit ≤ 255 → q ≤ limit * scale
    → exact_q (quantized limit (factor_of q)) (factor_of q) ≡ Some q
unfolding is_factor
factor_exact limit q l h =
    let bits = to_bits binary64 (factor_of q) in
    rw (quantized_factor limit q l h, factor_finite q (omega arith), eq-eqb bits bits refl)

pub exact_factor : (z : Option ℕ) (q : ℕ) (x : Float) → T (fits binary64 x) → exact_q z x ≡ Some q → factor_of q ≡ x
exact_factor None q x t e = absurd (none-some q e)
exact_factor (Some p) q x t e =
    let c = cond_some (is_factor p x) p q e in
    ap factor_of (sym c.1) ∙ factor_same p x t c.0

-- a named filter has the fields' number and q
pub filter_from_lem : (f : Fields) (k : RecordFilter) → Named f k → FilterSound k f
    → (filter_code k ≡ f.head.filter) × (filter_q k ≡ Some f.q)
unfolding filter_q
filter_from_lem f k (whole_job e n z) s = let t = rw e at s in rw (e, n) (refl, factor_exact 1 f.q (lit≤ tt) t.1)
filter_from_lem f k (restoration e n z) s = let t = rw e at s in rw (e, n) (refl, factor_exact 1 f.q (lit≤ tt) t.1)
filter_from_lem f k (unsharp e n) s = let t = rw e at s in rw (e, n) (refl, factor_exact 8 f.q (lit≤ tt) t)
filter_from_lem f k (binomial e n) s = let t = rw e at s in rw (e, n, t.0) (refl, refl)

-- fields that read as a record
pub record Reads (f : Fields) (k : RecordFilter) : Type 0 where
  pub named : filter_from f ≡ Some k
  pub within : legal k f ≡ true

-- .. are those of their record
pub fields_record : (f : Fields) (k : RecordFilter) → f.angle < 256 ^ 8 → f.estimate < 256 ^ 8 → Reads f k
    → record_fields (record_of k f) ≡ Some f
unfolding record_fields record_of fields_of
fields_record f k a b h =
    let s = sound f k h.within in
    let p = filter_from_lem f k (named f k h.named) s.filter in
    let d = border_from_lem f.border f.value s.border in
    rw (
      p.1,
      p.0,
      index_from f.direction s.direction,
      d.0,
      d.1,
      bits_back f.angle a (angle_finite f.angle s.angle),
      bits_back f.estimate b s.estimate,
    )
    (checked_legal k f h.within)

-- what a record that a program holds has: numbers of their types, and doubles
abbrev pub FactorFits : RecordFilter → Type 0
FactorFits (WholeJob x) = T (fits binary64 x)
FactorFits (Restoration x) = T (fits binary64 x)
FactorFits (Unsharp x) = T (fits binary64 x)
FactorFits Binomial = T true

pub record Held (r : Record) : Type 0 where
  pub width : r.width < 256 ^ 2
  pub height : r.height < 256 ^ 2
  pub blur_length : r.blur_length < 256 ^ 2
  pub iterations : r.iterations < 256 ^ 2
  pub factor : FactorFits r.filter
  pub angle : T (fits binary64 r.angle)
  pub estimate : T (fits binary64 r.estimate)

from_filter : (k : RecordFilter) (f : Fields) → FactorFits k → filter_q k ≡ Some f.q → f.head.filter ≡ filter_code k
    → FilterSound k f → Named f k
unfolding filter_q
from_filter (WholeJob x) f t e n s = whole_job (ap WholeJob (sym (exact_factor (quantized 1 x) f.q x t e))) n s.0
from_filter (Restoration x) f t e n s =
    restoration (ap Restoration (sym (exact_factor (quantized 1 x) f.q x t e))) n (λ z. omega (arith, s.0, z))
from_filter (Unsharp x) f t e n s = unsharp (ap Unsharp (sym (exact_factor (quantized 8 x) f.q x t e))) n
from_filter Binomial f t e n s = binomial refl n

from_fields : (r : Record) (q : ℕ) → Held r → record_of r.filter (fields_of r q) ≡ r
unfolding record_of fields_of
from_fields r q h =
    rw (
      from_index r.direction,
      from_border r.border,
      of_bits-to_bits binary64 r.angle h.angle,
      of_bits-to_bits binary64 r.estimate h.estimate,
    )

q_within : (k : RecordFilter) (f : Fields) → FilterSound k f → f.q < 256 ^ 4
q_within (WholeJob x) f s = omega (arith, s.1)
q_within (Restoration x) f s = omega (arith, s.1)
q_within (Unsharp x) f s = omega (arith, s)
q_within Binomial f s = omega (arith, s.0)

fields_in_bytes : (r : Record) (q : ℕ) → Held r → legal r.filter (fields_of r q) ≡ true → InBytes (fields_of r q)
unfolding fields_of
fields_in_bytes r q h l = record {
  width = h.width;
  height = h.height;
  blur_length = h.blur_length;
  iterations = h.iterations;
  q = q_within r.filter (fields_of r q) (sound (fields_of r q) r.filter l).filter;
  angle = to_bits-lt binary64 r.angle h.angle;
  estimate = to_bits-lt binary64 r.estimate h.estimate;
}

fields_read : (r : Record) (q : ℕ) → Held r → filter_q r.filter ≡ Some q → legal r.filter (fields_of r q) ≡ true
    → Reads (fields_of r q) r.filter
unfolding fields_of
fields_read r q h e l =
    let s = sound (fields_of r q) r.filter l in
    record {
      named = filter_named _ _ (from_filter r.filter (fields_of r q) h.factor e refl s.filter);
      within = l;
    }

-- what the fields of a record are
pub record FieldsOf (r : Record) (f : Fields) : Type 0 where
  pub same : record_of r.filter f ≡ r
  pub reads : Reads f r.filter
  pub in_bytes : InBytes f

-- a held record that breaks no limit is that of its fields
pub record_fields_lem : (r : Record) (f : Fields) → Held r → record_fields r ≡ Some f → FieldsOf r f
unfolding record_fields
record_fields_lem r f h = go (filter_q r.filter) refl
  where
    found : (q : ℕ) → filter_q r.filter ≡ Some q → checked r.filter (fields_of r q) ≡ Some f → FieldsOf r f
    found q e c =
        let l = cond_some (legal r.filter (fields_of r q)) (fields_of r q) f c in
        rw (← l.1)
        (record { same = from_fields r q h; reads = fields_read r q h e l.0; in_bytes = fields_in_bytes r q h l.0 })

    go : (z : Option ℕ) → filter_q r.filter ≡ z → with_q r z ≡ Some f → FieldsOf r f
    go (Some q) e c = found q e c
    go None e c = absurd (none-some f c)

-- ---- reading and writing

to_write-legal : (r : Record) (old : List ℕ) (f : Fields) → to_write r old ≡ Some f → record_fields r ≡ Some f
unfolding to_write
to_write-legal r old f e = by_test (eqb (length old) 32) (λ l. rw l at e) (λ l. absurd (none-some f (rw l at e)))

-- what is written reads as the same record
pub read_written : (r : Record) (old new : List ℕ) → Held r → Wrote r old new (accepts tt)
    → read_record new ≡ accepts r
read_written r old new h w = go (to_write r old) refl w.answers w.bytes
  where
    legally : (f : Fields) → record_fields r ≡ Some f → read_record (encoded f) ≡ accepts r
    legally f e =
        let p = record_fields_lem r f h e in
        read_whole (encoded f) (encoded_length f)
        ∙ ap read_fields (decoded_encoded f p.in_bytes)
        ∙ fields_legal f p.reads.named p.reads.within
        ∙ ap accepts p.same

    go : (z : Option Fields) → to_write r old ≡ z → accepts tt ≡ decided {R = Unit {0}} (write_number z) tt → new ≡ write_bytes z old
        → read_record new ≡ accepts r
    go (Some f) e a b = rw b (legally f (to_write-legal r old f e))
    go None e a b = cc

-- what reads as a record is 32 bytes of fields that do
pub record ReadFrom (xs : List ℕ) (r : Record) : Type 0 where
  pub whole : length xs ≡ 32
  pub reads : Reads (decoded xs) r.filter
  pub same : record_of r.filter (decoded xs) ≡ r

module _ (f : Fields) (r : Record) where
  known_is : (k : RecordFilter) → filter_from f ≡ Some k → read_as (Some k) f ≡ accepts r
      → Reads f r.filter × (record_of r.filter f ≡ r)
  unfolding record_of
  known_is k e d =
      by_test (legal k f)
      (λ l.
      let same : accepts (record_of k f) ≡ accepts r = rw l at d in
      let g : record_of k f ≡ r = cc in
      let n : k ≡ r.filter = ap (λ (r : Record). r.filter) g in
      subst (λ (k : RecordFilter). Reads f k × (record_of k f ≡ r)) n (record { named = e; within = l }, g))
      (λ l. absurd (accepts_not_refuses (sym (rw l at d))))

  fields-is : read_fields f ≡ accepts r → Reads f r.filter × (record_of r.filter f ≡ r)
  unfolding read_fields
  fields-is = go (filter_from f) refl
    where
      go : (z : Option RecordFilter) → filter_from f ≡ z → read_as z f ≡ accepts r
          → Reads f r.filter × (record_of r.filter f ≡ r)
      go (Some k) e d = known_is k e d
      go None e d = absurd (accepts_not_refuses (sym d))

pub read_is : (xs : List ℕ) (r : Record) → read_record xs ≡ accepts r → ReadFrom xs r
unfolding read_record
read_is xs r e =
    by_test (eqb (length xs) 32)
    (λ t.
    let p = fields-is (decoded xs) r (rw t at e) in
    record { whole = eqb-true (length xs) 32 t; reads = p.0; same = p.1 })
    (λ t. absurd (accepts_not_refuses (sym (rw t at e))))

-- the fields that were read are those of the record
read_fields_lem : (xs : List ℕ) (r : Record) → Bytes xs → read_record xs ≡ accepts r
    → (record_fields r ≡ Some (decoded xs)) × (encoded (decoded xs) ≡ xs)
read_fields_lem xs r b e =
    let p = read_is xs r e in
    let w = decoded_in_bytes xs p.whole b in (
      ap record_fields (sym p.same) ∙ fields_record (decoded xs) r.filter w.angle w.estimate p.reads,
      encoded_decoded xs p.whole b,
    )

-- what reads is written as the same bytes
pub write_read : (xs : List ℕ) (r : Record) → Bytes xs → read_record xs ≡ accepts r
    → (old new : List ℕ) (answer : Decision (Unit {0})) → length old ≡ 32 → Wrote r old new answer
    → (answer ≡ accepts tt) × (new ≡ xs)
unfolding to_write
write_read xs r b e old new answer l w =
    let p = read_fields_lem xs r b e in
    (rw (l, p.0) at w.answers, (rw (l, p.0) at w.bytes) ∙ p.1)

-- bytes that read as one record are the same
pub read_unique : (xs ys : List ℕ) (r : Record) → Bytes xs → Bytes ys → read_record xs ≡ accepts r
    → read_record ys ≡ accepts r → xs ≡ ys
read_unique xs ys r b c e d =
    let p = read_fields_lem xs r b e in
    let q = read_fields_lem ys r c d in
    let same : decoded xs ≡ decoded ys = cc in
    sym p.1 ∙ ap encoded same ∙ q.1
