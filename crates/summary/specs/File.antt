-- Document 02, K1: the parts of a file, the first fault among them, and the answer.
use Rattle.std.specs.Prelude.{Bool, true, false, ◌&&◌, ◌||◌, cond, List, [], ◌∷◌, ℕ, zero, suc, ◌+◌, ◌/◌, ◌<◌, ◌≡◌, leb, eqb, length, take, drop, get_or, Result, Ok, Err}
use Rattle.image.specs.Call.{Decision, accepts, refuses}
use Rattle.record.specs.Record.{read_record}
use Rattle.record.specs.declared.Record.{Record}
use Rattle.summary.specs.Sheet.{is_line, tally_of, sheet_of}
use Rattle.summary.specs.declared.FaultyRecord.{FaultyRecord}
use Rattle.summary.specs.declared.RecordSummary.{RecordSummary}

-- ---- records back to back: parts of 32 bytes, the last of 1 to 32

unfoldable pub parts_of : ℕ → List ℕ → List (List ℕ)
parts_of zero xs = []
parts_of (suc n) xs = take 32 xs ∷ parts_of n (drop 32 xs)

abbrev pub parts : List ℕ → List (List ℕ)
parts xs = parts_of ((length xs + 31) / 32) xs

-- ---- "A record that doesn't read, one of length 0 with filter 1 or 2, or a last part under 32 bytes" (which does not
-- read either)

abbrev pub lacks_length : Record → Bool
lacks_length r = is_line r && eqb r.blur_length 0

abbrev pub is_fault : Decision Record → Bool
is_fault (accepts r) = lacks_length r
is_fault (refuses number) = true

-- "so does any record of index 1,000,000"; those behind it are never the first
abbrev pub max_records : ℕ
max_records = 1000000

abbrev pub is_fault_at : ℕ → List ℕ → Bool
is_fault_at i part = leb max_records i || is_fault (read_record part)

-- "the index of the first such, counted from 0": of parts that begin at index i, and the index behind them for none
unfoldable pub first_fault : ℕ → List (List ℕ) → ℕ
first_fault i [] = i
first_fault i (p ∷ ps) = cond (is_fault_at i p) i (first_fault (suc i) ps)

-- ---- the answer

abbrev pub with_record : Decision Record → List Record → List Record
with_record (accepts r) rs = r ∷ rs
with_record (refuses number) rs = rs

abbrev pub records_in : List (List ℕ) → List Record
records_in [] = []
records_in (p ∷ ps) = with_record (read_record p) (records_in ps)

-- the fault of index i
abbrev pub faulty_at : ℕ → FaultyRecord
faulty_at i = record { index = i }

-- "stops with 13 and the index of the first such, .. and no sheet"
unfoldable pub summarized : List ℕ → Result RecordSummary FaultyRecord
unfolding parts_of first_fault
summarized xs =
    let i = first_fault 0 (parts xs) in
    cond (eqb i (length (parts xs))) (Ok (sheet_of (tally_of (records_in (parts xs))))) (Err (faulty_at i))

-- the number of every fault
abbrev pub fault_number : ℕ
fault_number = 13

-- ---- what is said of faults

-- part i of a file
abbrev pub part_at : List ℕ → ℕ → List ℕ
part_at xs i = get_or (parts xs) i []

-- index i is that of a part, and the part is a fault
pub record FaultAt (xs : List ℕ) (i : ℕ) : Type 0 where
  pub within : i < length (parts xs)
  pub faulty : is_fault_at i (part_at xs i) ≡ true

-- .. and no part before it is one
pub record FirstFault (xs : List ℕ) (i : ℕ) : Type 0 where
  pub fault : FaultAt xs i
  pub before : (j : ℕ) → j < i → is_fault_at j (part_at xs j) ≡ false

-- ---- parts that are whole, for "reordering the records leaves it equal"

abbrev pub Whole : List ℕ → Type 0
Whole p = length p ≡ 32

abbrev pub All : (List ℕ → Type 0) → List (List ℕ) → Type 0
All P [] = Unit {0}
All P (p ∷ ps) = P p × All P ps
