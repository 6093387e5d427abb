-- Document 01, "The 32-byte record": what a record's fields stand for, what reading and writing answer, which records
-- are jobs, and what a result adds.
use Rattle.std.specs.Prelude.{◌≡◌, Bool, ◌&&◌, cond, List, ℕ, eqb, length, Float, Option, None, Some}
use Rattle.std.specs.Float.{binary64}
use Rattle.std.specs.Float.Ieee.{of_bits, to_bits}
use Rattle.std.specs.Float.Ieee.Scale.{finite}
use Rattle.floats.specs.Factor.{max_relaxation, max_gain, quantized, factor_of}
use Rattle.image.specs.Call.{Decision, accepts, refuses, decided}
use Rattle.raster.specs.Direction.{direction_index, direction_from}
use Rattle.raster.specs.Border.{border_code, border_value, border_from}
use Rattle.raster.specs.declared.direction.RasterDirection4.{RasterDirection4}
use Rattle.record.specs.Fields.{decoded, encoded, legal}
use Rattle.record.specs.declared.fields.Fields.{Fields}
use Rattle.record.specs.declared.RecordFilter.{RecordFilter}
use Rattle.record.specs.declared.RecordFilter.TheVariants.{WholeJob, Restoration, Unsharp, Binomial}
use Rattle.record.specs.declared.Record.{Record}

-- ---- from fields to a record

-- 1 restoration, of length 0 the whole job, 2 line unsharp, 3 binomial, and none for another number; the factor is
-- q / 65,536
unfoldable pub filter_from : Fields → Option RecordFilter
filter_from f =
    cond (eqb f.head.filter 1)
    (cond (eqb f.blur_length 0) (Some (WholeJob (factor_of f.q))) (Some (Restoration (factor_of f.q))))
    (cond (eqb f.head.filter 2) (Some (Unsharp (factor_of f.q)))
    (cond (eqb f.head.filter 3) (Some Binomial) None))

-- angle and estimate as double bits
unfoldable pub record_of : RecordFilter → Fields → Record
record_of k f = record {
  width = f.head.width;
  height = f.head.height;
  direction = direction_from f.direction;
  border = border_from f.border f.value;
  filter = k;
  blur_length = f.blur_length;
  iterations = f.iterations;
  angle = of_bits binary64 f.angle;
  estimate = of_bits binary64 f.estimate;
}

-- ---- from a record to fields

-- 1 restoration, 2 line unsharp, 3 binomial
abbrev pub filter_code : RecordFilter → ℕ
filter_code (WholeJob x) = 1
filter_code (Restoration x) = 1
filter_code (Unsharp x) = 2
filter_code Binomial = 3

-- a finite factor of the bits of q / 65,536
unfoldable pub is_factor : ℕ → Float → Bool
is_factor q x = finite x && eqb (to_bits binary64 (factor_of q)) (to_bits binary64 x)

-- the q of a factor that is exactly q / 65,536
abbrev pub exact_q : Option ℕ → Float → Option ℕ
exact_q (Some q) x = cond (is_factor q x) (Some q) None
exact_q None x = None

-- q of a relaxation, or of a gain; the binomial has q 0
unfoldable pub filter_q : RecordFilter → Option ℕ
filter_q (WholeJob x) = exact_q (quantized max_relaxation x) x
filter_q (Restoration x) = exact_q (quantized max_relaxation x) x
filter_q (Unsharp x) = exact_q (quantized max_gain x) x
filter_q Binomial = Some 0

-- the fields as numbers, with the filter's q; angle and estimate as double bits
unfoldable pub fields_of : Record → ℕ → Fields
fields_of r q = record {
  head = record { width = r.width; height = r.height; filter = filter_code r.filter };
  direction = direction_index r.direction;
  border = border_code r.border;
  value = border_value r.border;
  blur_length = r.blur_length;
  iterations = r.iterations;
  q = q;
  angle = to_bits binary64 r.angle;
  estimate = to_bits binary64 r.estimate;
}

-- fields that break no limit
abbrev pub checked : RecordFilter → Fields → Option Fields
checked k f = cond (legal k f) (Some f) None

-- a record whose factor is no q / 65,536 breaks its layout too
abbrev pub with_q : Record → Option ℕ → Option Fields
with_q r (Some q) = checked r.filter (fields_of r q)
with_q r None = None

-- a record's fields, or none where they break its layout
unfoldable pub record_fields : Record → Option Fields
unfolding filter_q fields_of
record_fields r = with_q r (filter_q r.filter)

-- ---- reading and writing: 13 for a record that breaks its layout and for a slice that is not 32 bytes long

abbrev pub read_as : Option RecordFilter → Fields → Decision Record
read_as (Some k) f = cond (legal k f) (accepts (record_of k f)) (refuses 13)
read_as None f = refuses 13

unfoldable pub read_fields : Fields → Decision Record
unfolding filter_from
read_fields f = read_as (filter_from f) f

unfoldable pub read_record : List ℕ → Decision Record
unfolding read_fields
read_record xs = cond (eqb (length xs) 32) (read_fields (decoded xs)) (refuses 13)

-- what there is to write into the slice
unfoldable pub to_write : Record → List ℕ → Option Fields
to_write r old = cond (eqb (length old) 32) (record_fields r) None

abbrev pub write_number : Option Fields → ℕ
write_number (Some f) = 0
write_number None = 13

abbrev pub write_bytes : Option Fields → List ℕ → List ℕ
write_bytes (Some f) old = encoded f
write_bytes None old = old

-- the whole slice is the record's bytes, or a refusal leaves it as it was
pub record Wrote (r : Record) (old new : List ℕ) (answer : Decision (Unit {0})) : Type 0 where
  pub answers : answer ≡ decided (write_number (to_write r old)) tt
  pub bytes : new ≡ write_bytes (to_write r old) old

-- ---- jobs and results

-- "A job has direction 0, estimate 0"
unfoldable pub is_job : Record → Bool
is_job r = eqb (direction_index r.direction) 0 && eqb (to_bits binary64 r.estimate) 0

-- a whole job's result is that of the restoration that it came to
abbrev pub used_filter : RecordFilter → RecordFilter
used_filter (WholeJob x) = Restoration x
used_filter (Restoration x) = Restoration x
used_filter (Unsharp x) = Unsharp x
used_filter Binomial = Binomial

-- "A result adds direction, length and estimate used."
abbrev pub used_in : Record → RasterDirection4 → ℕ → Float → Record
used_in r d L estimate = record {
  width = r.width;
  height = r.height;
  direction = d;
  border = r.border;
  filter = used_filter r.filter;
  blur_length = L;
  iterations = r.iterations;
  angle = r.angle;
  estimate = estimate;
}
