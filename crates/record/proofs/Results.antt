-- A record that was read has a length of at most 2,049 (`read_length`) and an angle that has a direction
-- (`read_angle`), and can be written again, with the direction, length and estimate used: `used_written` of a line
-- filter's, `binomial_written`.
use mathlib.Core.Path.{◌≡◌, refl, ap, subst}
use mathlib.Core.Bool.{true, false, ◌&&◌, or-true}
use mathlib.Core.List.{List}
use Prim.Native.Nat.{ℕ, ◌+◌, ◌*◌, ◌%◌, ◌≤◌, max}
use native.Mathlib.Nat.{mul-pos}
use native.Mathlib.Omega.{arith}
use borrow.Author.Tests.{le-leb, eq-eqb, lt-ltb}
use lib.Dec.{T, leb, eqb, ltb→lt}
use lib.IntN.{pos}
use lib.Ieee.{Float, nan, inf, fin, binary64, up, down, of_bits, to_bits, fits, lt}
use lib.Ieee.Fits.{up_pos}
use lib.Ieee.Bits.{is_true, of_bits-to_bits, of_bits-fits}
use lib.Ieee.Positive.{positive, positive-finite}
use lib.Ieee.Scale.{finite}
use Rattle.raster.specs.Direction.{direction_index, from_angle}
use Rattle.raster.specs.declared.direction.RasterDirection4.{RasterDirection4}
use Rattle.raster.specs.Border.{is_border}
use Rattle.raster.proofs.Codes.{border_from_lem, index_most}
use Rattle.image.specs.Refusal.{max_side}
use Rattle.record.specs.Fields.{decoded, head_legal, length_legal, angle_legal, estimate_legal, line_legal}
use Rattle.record.specs.Fields.{iterated_legal, unmeasured, filter_legal, legal}
use Rattle.record.specs.Record.{record_of, filter_code, filter_q, fields_of, record_fields, read_record, write_number}
use Rattle.record.specs.Record.{is_job, used_filter, used_in}
use Rattle.record.specs.declared.fields.Fields.{Fields}
use Rattle.record.specs.declared.RecordFilter.{RecordFilter}
use Rattle.record.specs.declared.RecordFilter.TheVariants.{WholeJob, Restoration, Unsharp, Binomial}
use Rattle.record.specs.declared.Record.{Record}
use Rattle.record.proofs.Answer.{checked_legal}
use Rattle.record.proofs.Legal.{both, sound, length_most, named}
use Rattle.record.proofs.RoundTrip.{Reads, filter_from_lem, fields_record, read_is}
use Rattle.std.specs.Prelude.{is_some}
use Rattle.image.specs.Call.{accepts}

-- ---- the limits of what is used

pub length_legal_lem : (width height L : ℕ) → 3 ≤ L → L % 2 ≡ 1 → L ≤ 2 * max width height + 1
    → length_legal width height L ≡ true
length_legal_lem width height L least odd most =
    rw (eq-eqb (L % 2) 1 odd, le-leb 3 L least, le-leb L (2 * max width height + 1) most)

positive_above : (x : Float) → T (positive x) → lt (of_bits binary64 0) x ≡ true
unfolding lt of_bits
positive_above nan p = absurd p
positive_above (inf s) p = absurd p
positive_above (fin true m e) p = absurd p
positive_above (fin false m e) p =
    let some = mul-pos (ltb→lt 0 m p) (up_pos e) in
    lt-ltb (0 * up (pos 0) * down e) (m * up e * down (pos 0)) (omega arith)

-- an estimate that is positive and finite
pub estimate_legal_lem : (x : Float) → T (fits binary64 x) → T (positive x) → estimate_legal (to_bits binary64 x) ≡ true
estimate_legal_lem x f p =
    rw (of_bits-to_bits binary64 x f, is_true (finite x) (positive-finite x p), positive_above x p)
    (or-true (eqb (to_bits binary64 x) 0))

-- the estimate of a job is none
pub job_estimate : (r : Record) → is_job r ≡ true → estimate_legal (to_bits binary64 r.estimate) ≡ true
unfolding is_job
job_estimate r h = rw (both (eqb (direction_index r.direction) 0) (eqb (to_bits binary64 r.estimate) 0) h).1

-- ---- a line filter's fields with another direction, length, angle and estimate

module _ (f : Fields) (d L a e : ℕ) where
  abbrev used : Fields
  used = record {
    head = f.head;
    direction = d;
    border = f.border;
    value = f.value;
    blur_length = L;
    iterations = f.iterations;
    q = f.q;
    angle = a;
    estimate = e;
  }

  module _ (direction : d ≤ 3) (size : length_legal f.head.width f.head.height L ≡ true)
      (angle : angle_legal a ≡ true) (estimate : estimate_legal e ≡ true) where
    used-line : line_legal f ≡ true → line_legal used ≡ true
    unfolding line_legal
    used-line h =
        let index = leb f.direction 3 in
        let border = is_border f.border f.value in
        let p = both (index && border && angle_legal f.angle) (estimate_legal f.estimate) h in
        let q = both (index && border) (angle_legal f.angle) p.0 in
        rw (le-leb d 3 direction, (both index border q.0).1, angle, estimate)

    used-iterated : iterated_legal f ≡ true → iterated_legal used ≡ true
    unfolding iterated_legal
    used-iterated h =
        let q = both _ _ h in
        let most = both _ _ q.0 in
        let least = both _ _ most.0 in
        rw (used-line least.0, least.1, most.1, q.1)

    used-filter : (k : RecordFilter) → filter_code k ≤ 2 → filter_legal k f ≡ true
        → filter_legal (used_filter k) used ≡ true
    unfolding filter_legal
    used-filter (WholeJob x) line h = rw (used-iterated (both (iterated_legal f) (unmeasured f) h).0, size)
    used-filter (Restoration x) line h = rw (used-iterated (both _ _ h).0, size)
    used-filter (Unsharp x) line h =
        let q = both _ _ h in
        let none = both _ _ q.0 in
        rw (used-line (both _ _ none.0).0, size, none.1, q.1)
    used-filter Binomial line h = absurd (omega (arith, line))

    used-legal : (k : RecordFilter) → filter_code k ≤ 2 → legal k f ≡ true → legal (used_filter k) used ≡ true
    unfolding legal
    used-legal k line h =
        let p = both (head_legal f.head) (filter_legal k f) h in
        rw (p.0, used-filter k line p.1)

-- ---- records

-- a result's filter has the job's number and q
used_code : (k : RecordFilter) → filter_code (used_filter k) ≡ filter_code k
used_code (WholeJob x) = refl
used_code (Restoration x) = refl
used_code (Unsharp x) = refl
used_code Binomial = refl

used_q : (k : RecordFilter) → filter_q (used_filter k) ≡ filter_q k
unfolding filter_q
used_q (WholeJob x) = refl
used_q (Restoration x) = refl
used_q (Unsharp x) = refl
used_q Binomial = refl

module _ (f : Fields) (k : RecordFilter) (h : Reads f k) where
  -- the bits of the angle that a pattern stands for have a direction with it
  angle-legal : angle_legal (to_bits binary64 (of_bits binary64 f.angle)) ≡ true
  angle-legal =
      rw (of_bits-to_bits binary64 (of_bits binary64 f.angle) (of_bits-fits binary64 f.angle))
      (sound f k h.within).angle

  fields-used : (d : RasterDirection4) (L : ℕ) (x : Float) → filter_code k ≤ 2
      → length_legal f.head.width f.head.height L ≡ true → estimate_legal (to_bits binary64 x) ≡ true
      → write_number (record_fields (used_in (record_of k f) d L x)) ≡ 0
  unfolding record_fields record_of fields_of
  fields-used d L x line size estimate =
      let s = sound f k h.within in
      let p = filter_from_lem f k (named f k h.named) s.filter in
      let b = border_from_lem f.border f.value s.border in
      let g = used f (direction_index d) L (to_bits binary64 (of_bits binary64 f.angle)) (to_bits binary64 x) in
      rw (used_q k, p.1, used_code k, p.0, b.0, b.1)
      (ap write_number
      (checked_legal (used_filter k) g
      (used-legal f _ L _ _ (index_most d) size angle-legal estimate k line h.within)))

  fields-binomial : k ≡ Binomial → write_number (record_fields (record_of k f)) ≡ 0
  fields-binomial e =
      let s = (sound f k h.within).filter in
      let z = rw e at s in
      ap write_number (fields_record f k (omega (arith, z.1)) (omega (arith, z.2)) h)

module _ (xs : List ℕ) (r : Record) (reads : read_record xs ≡ accepts r) where
  pub read_length : r.blur_length ≤ 2 * max_side + 1
  unfolding record_of
  read_length =
      let p = read_is xs r reads in
      subst (λ (r : Record). r.blur_length ≤ 2 * max_side + 1) p.same
      (length_most (decoded xs) r.filter p.reads.within)

  pub read_angle : is_some (from_angle r.angle) ≡ true
  unfolding record_of
  read_angle =
      let p = read_is xs r reads in
      subst (λ (r : Record). is_some (from_angle r.angle) ≡ true) p.same
      (sound (decoded xs) r.filter p.reads.within).angle

  -- a line filter's record with what was used
  pub used_written : (d : RasterDirection4) (L : ℕ) (x : Float) → filter_code r.filter ≤ 2
      → length_legal r.width r.height L ≡ true → estimate_legal (to_bits binary64 x) ≡ true
      → write_number (record_fields (used_in r d L x)) ≡ 0
  unfolding record_of
  used_written d L x line =
      let p = read_is xs r reads in
      subst
      (λ (r : Record). length_legal r.width r.height L ≡ true → estimate_legal (to_bits binary64 x) ≡ true
      → write_number (record_fields (used_in r d L x)) ≡ 0)
      p.same (fields-used (decoded xs) r.filter p.reads d L x line)

  -- the binomial's record as it is
  pub binomial_written : r.filter ≡ Binomial → write_number (record_fields r) ≡ 0
  binomial_written e =
      let p = read_is xs r reads in
      subst (λ (r : Record). write_number (record_fields r) ≡ 0) p.same
      (fields-binomial (decoded xs) r.filter p.reads e)
