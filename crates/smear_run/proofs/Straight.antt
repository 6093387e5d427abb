-- What is printed for a job goes straight into the slice: the filter's pixels and the result's record behind them
-- (`whole_done`), which is never refused (`whole_written`). Where there is no room for pixels and record it is 10
-- (`short_done`).
use mathlib.Core.Path.{◌≡◌, sym, ap, ap₂, ◌∙◌}
use mathlib.Core.List.{List, [], ◌++◌}
use Prim.Native.Nat.{ℕ, ◌+◌, ◌-◌, ◌≤◌, ◌<◌}
use Rattle.std.specs.Prelude.{Result, Ok, Err}
use native.Mathlib.Omega.{arith}
use lib.ListN.{length, take, drop, length-append, length-drop}
use Rattle.numbers.proofs.List.{length_part}
use Rattle.image.specs.Call.{Decision, accepts, told, Appended}
use Rattle.image.specs.declared.refusal.Refusal.{Refusal}
use Rattle.image.specs.declared.refusal.Refusal.TheVariants.{LentTooSmall}
use Rattle.image.proofs.Call.{decided_none}
use Rattle.image.specs.Picture.{pixels_of}
use Rattle.image.proofs.Appending.{appended_then, appended_front, front_put, part_put}
use Rattle.image.proofs.Tight.{length_pixels, painted_list}
use Rattle.record.specs.Record.{record_fields, to_write, write_number, write_bytes, Wrote}
use Rattle.record.specs.declared.Record.{Record}
use Rattle.record.proofs.Answer.{wrote_bytes, record_bytes}
use Rattle.smear_run.specs.Stage.{Made, stage}
use Rattle.smear_run.specs.Output.{then_record, printed}
use Rattle.smear_run.specs.Parts.{Put, Filtered, SmallJob}
use Rattle.smear_run.proofs.Fronts.{put_short, put_whole}
use Rattle.smear_run.proofs.Stages.{done_accepts}
use Rattle.smear_run.proofs.Results.{result_written}

-- a record that can be written is, into 32 bytes
module _ (r : Record) (old new : List ℕ) {answer : Decision (Unit {0})} (l : length old ≡ 32)
    (legal : write_number (record_fields r) ≡ 0) (w : Wrote r old new answer) where
  record_done : answer ≡ accepts tt
  unfolding to_write
  record_done = let a = w.answers in rw l at a ∙ decided_none legal tt

  record_is : new ≡ write_bytes (record_fields r) []
  record_is = wrote_bytes r old new l record_done w

-- ---- a filter that is done: pixels and record are the stage's

module _ (r : Record) (n : ℕ) (job : SmallJob r n) (picture : List ℕ) {px ys : List ℕ} {answer : Result Record Refusal}
    (f : Filtered (stage r picture) r px ys answer) {result : Record} (is : answer ≡ Ok result) where
  abbrev found : (m : Made) × ((stage r picture ≡ accepts m) × (result ≡ m.result))
  found = done_accepts (stage r picture) (sym (ap told is) ∙ f.answered)

  abbrev m : Made
  m = found.0

  legal : write_number (record_fields m.result) ≡ 0
  legal = result_written job.legible.bytes r job.legible.reads job.is_job_holds picture m found.1.0

  count : length (printed r (stage r picture)) ≡ n + 32
  count =
      ap (λ (d : Decision Made). length (printed r d)) found.1.0
      ∙ length-append (pixels_of r.width r.height m.pixels) (write_bytes (record_fields m.result) [])
      ∙ ap₂ ◌+◌ (length_pixels r.width r.height m.pixels ∙ sym job.count) (record_bytes m.result legal)

  pub short_done : {old : List ℕ} → length old < n + 32 → Put (printed r (stage r picture)) old old (Err LentTooSmall)
  short_done {old} h = put_short (printed r (stage r picture)) old (rw count h)

  -- the pixels in front have come back as ys, and the part behind them, for the record, as zs
  module _ (old zs : List ℕ) (fits : n + 32 ≤ length old) (l : length ys ≡ n) where
    abbrev mid : List ℕ
    mid = ys ++ drop n old

    abbrev part : List ℕ
    part = take (n + 32 - n) (drop n mid)

    room : length part ≡ 32
    room =
        let whole = length-append ys (drop n old) in
        let rest = length-drop n old in
        length_part n (n + 32 - n) mid (omega arith) ∙ omega arith

    -- the record is never refused
    pub whole_written : {z : Decision (Unit {0})} → Wrote result part zs z → z ≡ accepts tt
    whole_written w = record_done result part zs room (rw found.1.1 legal) w

    pub whole_done : {z : Decision (Unit {0})} → Wrote result part zs z → length zs ≡ length part
        → Put (printed r (stage r picture)) old (take n mid ++ (zs ++ drop (n + 32 - n) (drop n mid)))
        (Ok (n + 32))
    whole_done w same =
        let bytes = record_is result part zs room (rw found.1.1 legal) w in
        let pixels = painted_list m.pixels r.width r.height (f.written m found.1.0) (l ∙ job.count) in
        let all : printed r (stage r picture) ≡ ys ++ zs =
        ap (printed r) found.1.0
        ∙ ap₂ then_record (sym pixels) (sym found.1.1)
        ∙ ap (◌++◌ ys) (sym bytes) in
        let front : Appended ys 0 old mid n = front_put (sym l) (ap (λ (k : ℕ). ys ++ drop k old) (sym l)) in
        let behind = part_put n (n + 32) mid zs (omega arith) (same ∙ room ∙ omega arith) in
        rw all
        (put_whole (ys ++ zs) old (rw (← all, count) fits) (sym count ∙ ap length all)
        (appended_front (appended_then (omega arith) front behind)))
