-- Worked examples: each kind of fault, and both sides of the limit. The request's own file is in `vectors/specs/Stars`.
use mathlib.Core.Bool.{true}
use mathlib.Core.List.{List, [], ◌∷◌, ◌++◌}
use mathlib.Core.Path.{◌≡◌, refl}
use Prim.Native.Nat.{ℕ}
use lib.ListN.{replicate, take}
use lib.Seq.{sets}
use lib.Ieee.{of_bits, mul, lt}
use Rattle.raster.specs.Direction.{from_angle}
use Rattle.record.specs.Bytes.{little_endian, bytes_of}
use Rattle.record.specs.Fields.{decoded, legal}
use Rattle.record.specs.Record.{record_of, read_record}
use Rattle.summary.specs.File.{is_fault, is_fault_at, summarized}
use Rattle.std.specs.Prelude.{Err}
use Rattle.summary.specs.File.{faulty_at}

-- ---- on 5 by 1: a restoration of one iteration with q 65,536, of length 0 the whole job, and a binomial

restoration : ℕ → List ℕ
restoration L = 5 ∷ 0 ∷ 1 ∷ 0 ∷ 0 ∷ 0 ∷ 0 ∷ 1 ∷ L ∷ 0 ∷ 1 ∷ 0 ∷ 0 ∷ 0 ∷ 1 ∷ 0 ∷ replicate 16 0

binomial : List ℕ
binomial = 5 ∷ 0 ∷ 1 ∷ 0 ∷ 0 ∷ 0 ∷ 0 ∷ 3 ∷ replicate 24 0

-- ---- faults

-- 31 bytes
short : summarized (take 31 binomial) ≡ Err (faulty_at 0)
unfolding binomial summarized read_record
short = refl

-- a last part of one byte
tail : summarized (binomial ++ 5 ∷ []) ≡ Err (faulty_at 1)
unfolding binomial summarized read_record decoded legal record_of little_endian of_bits lt
tail = refl

-- the whole job, which reads; a second one behind it does not matter
whole_job : summarized (binomial ++ restoration 3 ++ restoration 0 ++ restoration 0) ≡ Err (faulty_at 2)
unfolding binomial restoration summarized read_record decoded legal record_of little_endian of_bits lt from_angle mul
whole_job = refl

-- a record that does not read: length 13 is too long for 5 by 1
too_long : summarized (restoration 13 ++ binomial) ≡ Err (faulty_at 0)
unfolding binomial restoration summarized read_record decoded legal record_of little_endian of_bits lt from_angle mul
too_long = refl

-- document 02, K7: the first angle that has no direction
no-direction :
    summarized (binomial ++ sets (restoration 3) 16 (bytes_of 8 0x7f91_df46_a252_9d39) ++ binomial) ≡ Err (faulty_at 1)
unfolding binomial restoration bytes_of summarized read_record decoded legal record_of little_endian of_bits lt from_angle mul
no-direction = refl

-- ---- both sides of the limit: index 999,999 is judged by its record, 1,000,000 is a fault

last : (part : List ℕ) → is_fault_at 999999 part ≡ is_fault (read_record part)
last part = refl

beyond : (part : List ℕ) → is_fault_at 1000000 part ≡ true
beyond part = refl
