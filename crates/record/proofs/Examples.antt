-- Worked examples: document 01's record both ways, and records at both sides of a limit.
use mathlib.Core.Path.{◌≡◌, refl}
use mathlib.Core.Bool.{Bool, true, false}
use mathlib.Core.List.{List, [], ◌∷◌, ◌++◌, map}
use Prim.Native.Nat.{ℕ}
use lib.IntN.{pos}
use lib.ListN.{replicate, set, take}
use lib.Seq.{sets}
use lib.Ieee.{Float, fin, binary64, of_bits, to_bits, mul, div, of_int, lt}
use Rattle.floats.specs.Factor.{quantized, factor_of}
use Rattle.raster.specs.Direction.{from_angle}
use Rattle.raster.specs.declared.direction.RasterDirection4.TheVariants.{Horizontal}
use Rattle.raster.specs.declared.border.LineBorderMode.TheVariants.{Replicate}
use Rattle.record.specs.Bytes.{little_endian, bytes_of}
use Rattle.record.specs.Fields.{decoded, encoded, legal}
use Rattle.record.specs.Record.{record_of, is_factor, filter_q, record_fields, read_record, to_write}
use Rattle.record.specs.Record.{write_number, write_bytes, Wrote, is_job}
use Rattle.record.specs.declared.RecordFilter.TheVariants.{Restoration, Unsharp}
use Rattle.record.specs.declared.Record.{Record}
use Rattle.record.proofs.Answer.{refused_kept}
use Rattle.std.specs.Prelude.{None, Some}
use Rattle.image.specs.Call.{Decision, accepts, refuses, number_of}

-- ---- width 5, height 1, restoration, length 3, one iteration, q 65,536

bytes : List ℕ
bytes =
    5 ∷ 0 ∷ 1 ∷ 0 ∷ 0 ∷ 0 ∷ 0 ∷ 1 ∷ 3 ∷ 0 ∷ 1 ∷ 0 ∷ 0 ∷ 0 ∷ 1 ∷ 0 ∷ replicate 16 0

-- with an angle
job_at : Float → Record
job_at angle = record {
  width = 5;
  height = 1;
  direction = Horizontal;
  border = Replicate;
  filter = Restoration (fin false 1 (pos 0));
  blur_length = 3;
  iterations = 1;
  angle = angle;
  estimate = fin false 0 (pos 0);
}

job : Record
unfolding job_at
job = job_at (fin false 0 (pos 0))

reads : read_record bytes ≡ accepts job
unfolding bytes job read_record decoded legal record_of little_endian of_bits factor_of div of_int lt from_angle mul
reads = refl

writes : write_bytes (to_write job (replicate 32 9)) (replicate 32 9) ≡ bytes
unfolding bytes job to_write record_fields is_factor quantized factor_of div of_int encoded bytes_of legal to_bits of_bits lt
    from_angle mul
writes = refl

is_a_job : is_job job ≡ true
unfolding job is_job to_bits
is_a_job = refl

-- ---- both sides of each limit: bytes of the record above changed

is_read : Decision Record → Bool
is_read (accepts r) = true
is_read (refuses n) = false

accepted : List ℕ → Bool
accepted xs = is_read (read_record xs)

-- length on 5 by 1: 11, 13, 4, 0 (the whole job)
lengths :
    map accepted (set bytes 8 11 ∷ set bytes 8 13 ∷ set bytes 8 4 ∷ set bytes 8 0 ∷ [])
    ≡ true ∷ false ∷ false ∷ true ∷ []
unfolding is_read accepted bytes read_record decoded legal record_of little_endian of_bits lt from_angle mul
lengths = refl

-- the whole job with a direction, with an angle, with an estimate
whole-jobs :
    map accepted (set (set bytes 8 0) 4 1 ∷ set (set bytes 8 0) 23 128 ∷ set (set bytes 8 0) 24 1 ∷ [])
    ≡ false ∷ false ∷ false ∷ []
unfolding is_read accepted bytes read_record decoded legal record_of little_endian of_bits lt from_angle mul
whole-jobs = refl

-- iterations 22, 23, 0
iterations :
    map accepted (set bytes 10 22 ∷ set bytes 10 23 ∷ set bytes 10 0 ∷ []) ≡ true ∷ false ∷ false ∷ []
unfolding is_read accepted bytes read_record decoded legal record_of little_endian of_bits lt from_angle mul
iterations = refl

-- q 0, 65,537
factors :
    map accepted (set bytes 14 0 ∷ set bytes 12 1 ∷ []) ≡ true ∷ false ∷ []
unfolding is_read accepted bytes read_record decoded legal record_of little_endian of_bits lt from_angle mul
factors = refl

-- direction 3, 4
directions :
    map accepted (set bytes 4 3 ∷ set bytes 4 4 ∷ []) ≡ true ∷ false ∷ []
unfolding is_read accepted bytes read_record decoded legal record_of little_endian of_bits lt from_angle mul
directions = refl

-- border 2, 3, 4; value 7 with Constant, with Replicate, with Wrap
borders :
    map accepted
    (set bytes 5 2
    ∷ set bytes 5 3
    ∷ set bytes 5 4
    ∷ set (set bytes 5 2) 6 7
    ∷ set bytes 6 7
    ∷ set (set bytes 5 3) 6 7
    ∷ [])
    ≡ true ∷ true ∷ false ∷ true ∷ false ∷ false ∷ []
unfolding is_read accepted bytes read_record decoded legal record_of little_endian of_bits lt from_angle mul
borders = refl

-- filter 0, 4; line unsharp with 0 and with 1 iterations; the binomial with all else 0, and not
filters :
    map accepted
    (set bytes 7 0
    ∷ set bytes 7 4
    ∷ set (set bytes 7 2) 10 0
    ∷ set bytes 7 2
    ∷ set (set (set (set bytes 7 3) 8 0) 10 0) 14 0
    ∷ set bytes 7 3
    ∷ [])
    ≡ false ∷ false ∷ true ∷ false ∷ true ∷ false ∷ []
unfolding is_read accepted bytes read_record decoded legal record_of little_endian of_bits lt from_angle mul
filters = refl

-- width 0, 1,024, 1,025
widths :
    map accepted (set bytes 0 0 ∷ set (set bytes 0 0) 1 4 ∷ set (set bytes 0 1) 1 4 ∷ []) ≡ false ∷ true ∷ false ∷ []
unfolding is_read accepted bytes read_record decoded legal record_of little_endian of_bits lt from_angle mul
widths = refl

-- estimate 2^-1074, -0.0, below 0, infinity
estimates :
    map accepted (set bytes 24 1 ∷ set bytes 31 128 ∷ set (set bytes 24 1) 31 128 ∷ set (set bytes 30 240) 31 127 ∷ [])
    ≡ true ∷ false ∷ false ∷ false ∷ []
unfolding is_read accepted bytes read_record decoded legal record_of little_endian of_bits lt from_angle mul
estimates = refl

-- angle (document 02, K7) -0.0, the last with a direction, the next one, 1e307, infinity, not a number
angles : List ℕ
angles =
    0x8000_0000_0000_0000
    ∷ 0x7f91_df46_a252_9d38
    ∷ 0x7f91_df46_a252_9d39
    ∷ 0x7fac_7b1f_3cac_7433
    ∷ 0x7ff0_0000_0000_0000
    ∷ 0x7ff8_0000_0000_0000
    ∷ []

angles-read :
    map (λ (bits : ℕ). number_of (read_record (sets bytes 16 (bytes_of 8 bits)))) angles ≡ 0 ∷ 0 ∷ replicate 4 13
unfolding angles bytes bytes_of read_record decoded legal record_of little_endian of_bits lt from_angle mul
angles-read = refl

angles-written :
    map (λ (bits : ℕ). write_number (to_write (job_at (of_bits binary64 bits)) (replicate 32 9))) angles
    ≡ 0 ∷ 0 ∷ replicate 4 13
unfolding angles job_at to_write record_fields is_factor quantized factor_of div of_int legal to_bits of_bits lt from_angle mul
angles-written = refl

-- a byte too few, a byte too many
short : read_record (take 31 bytes) ≡ refuses 13
unfolding read_record bytes
short = refl

long : read_record (bytes ++ 0 ∷ []) ≡ refuses 13
unfolding read_record bytes
long = refl

-- ---- factors: one that is no q / 65,536 (0.1), -0.0, and 1.5 as a relaxation and as a gain

inexact : filter_q (Restoration (of_bits binary64 0x3fb9_9999_9999_999a)) ≡ None
unfolding filter_q is_factor quantized factor_of div of_int to_bits of_bits
inexact = refl

minus_zero : filter_q (Restoration (of_bits binary64 0x8000_0000_0000_0000)) ≡ None
unfolding filter_q is_factor quantized factor_of div of_int to_bits of_bits
minus_zero = refl

too_large : filter_q (Restoration (of_bits binary64 0x3ff8_0000_0000_0000)) ≡ None
unfolding filter_q is_factor quantized factor_of div of_int to_bits of_bits
too_large = refl

gain : filter_q (Unsharp (of_bits binary64 0x3ff8_0000_0000_0000)) ≡ Some 98304
unfolding filter_q is_factor quantized factor_of div of_int to_bits of_bits
gain = refl

-- ---- document 02, K4: a refusal that has put the first field, where another width stood, breaks the contract

first_field_first : (r : Record) (old : List ℕ) → (sets old 0 (bytes_of 2 r.width) ≡ old → ⊥)
    → Wrote r old (sets old 0 (bytes_of 2 r.width)) (refuses 13) → ⊥
first_field_first r old other w =
    other (refused_kept r old (sets old 0 (bytes_of 2 r.width)) 13 w)
