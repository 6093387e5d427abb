-- What the fold over a file's records cites: a tally with one more record, with one more part, with more parts.
use Rattle.std.specs.Prelude.{cond, List, [], ◌∷◌, ℕ, ◌+◌, ◌*◌, ◌≤◌, max, Result, Ok, Err}
use Rattle.std.proofs.Math.ListN.{set}
use Rattle.image.specs.Call.{Decision, accepts, refuses}
use Rattle.image.specs.Refusal.{max_side}
use Rattle.raster.specs.Direction.{direction_index}
use Rattle.record.specs.Record.{read_record}
use Rattle.record.specs.declared.Record.{Record}
use Rattle.summary.specs.Sheet.{is_line, is_binomial, lengths_at}
use Rattle.summary.specs.File.{max_records, is_fault_at, faulty_at}
use Rattle.summary.specs.declared.FaultyRecord.{FaultyRecord}
use Rattle.summary.specs.declared.kernel.Lengths.{Lengths}
use Rattle.summary.specs.declared.kernel.Tally.{Tally}

-- ---- one more record

abbrev pub added_length : ℕ → Lengths → Lengths
added_length n l = record { count = l.count + 1; total = l.total + n; largest = max l.largest n }

-- a line filter's record has a length more in its direction
abbrev pub added_lengths : Record → List Lengths → List Lengths
added_lengths r ls =
    let d = direction_index r.direction in
    cond (is_line r) (set ls d (added_length r.blur_length (lengths_at ls d))) ls

abbrev pub added_binomial : Record → ℕ → ℕ
added_binomial r n = cond (is_binomial r) (n + 1) n

unfoldable pub added : Tally → Record → Tally
added t r = record {
  records = t.records + 1;
  lengths = added_lengths r t.lengths;
  binomials = added_binomial r t.binomials;
}

-- ---- one more part, whose index is the number of records before it, and more of them

abbrev pub added_read : Tally → Decision Record → Tally
added_read t (accepts r) = added t r
added_read t (refuses number) = t

unfoldable pub added_part : Tally → List ℕ → Result Tally FaultyRecord
unfolding added
added_part t p = cond (is_fault_at t.records p) (Err (faulty_at t.records)) (Ok (added_read t (read_record p)))

-- on from a tally, unless there was a fault
abbrev pub unless_fault : Result Tally FaultyRecord → (Tally → Result Tally FaultyRecord) → Result Tally FaultyRecord
unless_fault (Ok t) next = next t
unless_fault (Err f) next = Err f

unfoldable pub added_parts : Tally → List (List ℕ) → Result Tally FaultyRecord
unfolding added_part
added_parts t [] = Ok t
added_parts t (p ∷ ps) = unless_fault (added_part t p) (λ t'. added_parts t' ps)

-- ---- numbers that records came to: none has a length above that of the largest side (record/proofs/Results:
-- read-length)

pub record HeldLengths (n : ℕ) (l : Lengths) : Type 0 where
  pub count : l.count ≤ n
  pub total : l.total ≤ n * (2 * max_side + 1)

pub record Held (t : Tally) : Type 0 where
  pub records : t.records ≤ max_records
  pub lengths : (d : ℕ) → HeldLengths t.records (lengths_at t.lengths d)
  pub binomials : t.binomials ≤ t.records
