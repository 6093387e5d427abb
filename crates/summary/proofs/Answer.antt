-- The fold from a tally on is the definition (`added_parts_lem`), and so is what it comes to (`fold_summarized`).
use mathlib.Core.Bool.{true, false, cond, or-true}
use mathlib.Core.List.Permᴰ
use mathlib.Core.List.{List, [], ◌∷◌, reverse_aux}
use mathlib.Core.Path.{◌≡◌, refl, sym, ap, ◌∙◌}
use Prim.Native.Nat.{ℕ, suc, ◌+◌, ◌≤◌, ◌<◌}
use native.Mathlib.Omega.{arith}
use borrow.Author.Tests.{leb-false, le-leb, lt-leb, eq-eqb, ne_eqb}
use lib.Dec.{leb, eqb}
use lib.ListN.{length}
use Rattle.numbers.proofs.Test.{by_test, ap_cond, or_false_left, or_false_right}
use Rattle.record.specs.Record.{read_record}
use Rattle.record.specs.declared.Record.{Record}
use Rattle.record.proofs.Results.{read_length}
use Rattle.summary.specs.Sheet.{tally_of, sheet_of}
use Rattle.summary.specs.File.{parts, lacks_length, is_fault, max_records, is_fault_at, first_fault}
use Rattle.summary.specs.File.{records_in, summarized}
use Rattle.summary.specs.Tally.{added, added_part, unless_fault, added_parts, Held}
use Rattle.summary.specs.declared.kernel.Tally.{Tally}
use Rattle.summary.proofs.Tallies.{added_tally, tally_reordered, added_held}
use Rattle.std.specs.Prelude.{Result, Ok, Err}
use Rattle.image.specs.Call.{Decision, accepts, refuses}
use Rattle.summary.specs.File.{faulty_at}
use Rattle.summary.specs.declared.FaultyRecord.{FaultyRecord}
use Rattle.summary.specs.declared.RecordSummary.{RecordSummary}

-- ---- one part

-- a part that is no fault is a record
part_read : (i : ℕ) (p : List ℕ) → is_fault_at i p ≡ false → (r : Record) × (read_record p ≡ accepts r)
part_read i p fine = go (read_record p) refl (or_false_right (leb max_records i) (is_fault (read_record p)) fine)
  where
    go : (z : Decision Record) → read_record p ≡ z → is_fault z ≡ false → (r : Record) × (read_record p ≡ accepts r)
    go (accepts r) e f = (r, e)
    go (refuses number) e f = cc

module _ (t : Tally) (p : List ℕ) where
  part-fault : is_fault_at t.records p ≡ true → added_part t p ≡ Err (faulty_at t.records)
  unfolding added_part
  part-fault h = rw h refl

  part-added : (r : Record) → is_fault_at t.records p ≡ false → read_record p ≡ accepts r
      → added_part t p ≡ Ok (added t r)
  unfolding added_part
  part-added r h e = rw (h, e) refl

  pub part_beyond : max_records ≤ t.records → added_part t p ≡ Err (faulty_at t.records)
  part_beyond h = part-fault (rw (le-leb max_records t.records h) refl)

  pub part_faulty : (z : Decision Record) → read_record p ≡ z → is_fault z ≡ true
      → added_part t p ≡ Err (faulty_at t.records)
  part_faulty z e h = part-fault (rw (e, h) (or-true (leb max_records t.records)))

  pub part_counted : (r : Record) → t.records < max_records → read_record p ≡ accepts r → lacks_length r ≡ false
      → added_part t p ≡ Ok (added t r)
  part_counted r less e h = part-added r (rw (lt-leb max_records t.records less, e, h) refl) e

-- ---- every part counted is a record more, and numbers stay small

one_more : (t : Tally) (r : Record) → (added t r).records ≡ t.records + 1
unfolding added
one_more t r = refl

-- a part that is counted
record Counted (t : Tally) (p : List ℕ) (u : Tally) : Type 0 where
  within : t.records < max_records
  counts : Record
  reads : read_record p ≡ accepts counts
  adds : u ≡ added t counts

part_counts : (t : Tally) (p : List ℕ) {u : Tally} → added_part t p ≡ Ok u → Counted t p u
part_counts t p {u} e =
    by_test (is_fault_at t.records p)
    (λ h. let e' = sym (part-fault t p h) ∙ e in cc)
    (λ h.
    let q = part_read t.records p h in
    let same : Ok (added t q.0) ≡ Ok u = sym (part-added t p q.0 h q.1) ∙ e in
    let is : u ≡ added t q.0 = cc in
    record {
      within = leb-false max_records t.records (or_false_left (leb max_records t.records) _ h);
      counts = q.0;
      reads = q.1;
      adds = is;
    })

module _ (t : Tally) (p : List ℕ) {u : Tally} (e : added_part t p ≡ Ok u) where
  pub part_held : Held t → Held u
  part_held h =
      let c = part_counts t p e in
      rw c.adds (added_held t c.counts (read_length p c.counts c.reads) c.within h)

  part-records : u.records ≡ t.records + 1
  part-records = let c = part_counts t p e in rw c.adds (one_more t c.counts)

module _ (t : Tally) (p : List ℕ) (ps : List (List ℕ)) {u : Tally} where
  parts-on : (z : Result Tally FaultyRecord) → added_part t p ≡ z → unless_fault z (λ v. added_parts v ps) ≡ Ok u
      → (v : Tally) × (added_part t p ≡ Ok v) × (added_parts v ps ≡ Ok u)
  parts-on (Ok v) e on = (v, e, on)
  parts-on (Err f) e on = cc

pub parts_counted : (ps : List (List ℕ)) (t : Tally) {u : Tally} → added_parts t ps ≡ Ok u → Held t
    → Held u × (u.records ≡ t.records + length ps)
unfolding added_parts
parts_counted [] t {u} e h =
    let same : u ≡ t = cc in
    rw same (h, omega arith)
parts_counted (p ∷ ps) t e h =
    let on = parts-on t p ps (added_part t p) refl e in
    let more = parts_counted ps on.0 on.2 (part_held t p on.1 h) in
    (more.0, omega (arith, more.1, part-records t p on.1))

-- ---- parts, from a tally of records on

-- the fold adds each record before those that it has
counted : List Record → List (List ℕ) → Result Tally FaultyRecord
counted rs ps =
    let i = first_fault (length rs) ps in
    cond (eqb i (length rs + length ps)) (Ok (tally_of (reverse_aux (records_in ps) rs))) (Err (faulty_at i))

module _ (p : List ℕ) (ps : List (List ℕ)) (rs : List Record) where
  counted-fault : is_fault_at (length rs) p ≡ true → added_parts (tally_of rs) (p ∷ ps) ≡ counted rs (p ∷ ps)
  unfolding added_parts first_fault counted
  counted-fault h =
      rw (part-fault (tally_of rs) p h, h, ne_eqb (length rs) (length rs + suc (length ps)) (λ e. omega (arith, e)))
      refl

  counted-fine : is_fault_at (length rs) p ≡ false
      → ((r : Record) → added_parts (tally_of (r ∷ rs)) ps ≡ counted (r ∷ rs) ps)
      → added_parts (tally_of rs) (p ∷ ps) ≡ counted rs (p ∷ ps)
  unfolding added_parts first_fault counted
  counted-fine h on =
      let q = part_read (length rs) p h in
      let r = q.0 in
      let next : length rs + suc (length ps) ≡ suc (length rs) + length ps = omega arith in
      rw (part-added (tally_of rs) p r h q.1, h, q.1, next, added_tally r rs) (on r)

added_parts_lem : (ps : List (List ℕ)) (rs : List Record) → added_parts (tally_of rs) ps ≡ counted rs ps
unfolding added_parts first_fault counted
added_parts_lem [] rs = rw (eq-eqb (length rs) (length rs + 0) (omega arith)) refl
added_parts_lem (p ∷ ps) rs =
    by_test (is_fault_at (length rs) p) (counted-fault p ps rs)
    (λ h. counted-fine p ps rs h (λ r. added_parts_lem ps (r ∷ rs)))

-- ---- a whole file

abbrev pub finished : Result Tally FaultyRecord → Result RecordSummary FaultyRecord
finished (Ok t) = Ok (sheet_of t)
finished (Err f) = Err f

fold_summarized : (xs : List ℕ) → finished (added_parts (tally_of []) (parts xs)) ≡ summarized xs
unfolding counted summarized
fold_summarized xs =
    let ps = parts xs in
    let none : 0 + length ps ≡ length ps = omega arith in
    ap finished (added_parts_lem ps [])
    ∙ rw (none, tally_reordered (Permᴰ.reverse (records_in ps)))
    (ap_cond finished (eqb (first_fault 0 ps) (length ps)) _ _)

pub finishes : (xs : List ℕ) {start : Tally} {z : Result Tally FaultyRecord} → start ≡ tally_of [] → z ≡ added_parts start (parts xs)
    → finished z ≡ summarized xs
finishes xs s e = rw (e, s) (fold_summarized xs)
