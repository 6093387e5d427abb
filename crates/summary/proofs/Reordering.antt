-- "Where a sheet is given, reordering the records leaves it equal" (`reordered`).
use mathlib.Core.List.Permᴰ
use mathlib.Core.List.{List, [], ◌∷◌, Permᴰ}
use mathlib.Core.List.{flatten}
use mathlib.Core.Path.{◌≡◌, refl, sym, ap, subst, ◌∙◌}
use Prim.Native.Nat.{ℕ, suc, ◌+◌, ◌≤◌}
use native.Mathlib.Nat.{zero-add}
use native.Mathlib.Omega.{arith}
use borrow.Author.Tests.{eq-eqb, lt-leb}
use lib.ListN.{length}
use Rattle.record.specs.Record.{read_record}
use Rattle.record.specs.declared.Record.{Record}
use Rattle.summary.specs.Sheet.{sheet_of}
use Rattle.summary.specs.File.{parts, max_records, first_fault, with_record, records_in, summarized}
use Rattle.summary.specs.File.{Whole, All}
use Rattle.summary.specs.declared.RecordSummary.{RecordSummary}
use Rattle.summary.specs.declared.kernel.Tally.{Tally}
use Rattle.summary.proofs.Faults.{Fine, first_fine, given_fine, given_sheet}
use Rattle.summary.proofs.Parts.{parts_joined}
use Rattle.summary.proofs.Tallies.{perm_length, tally_reordered}
use Rattle.std.specs.Prelude.{Ok}
use Rattle.image.specs.Call.{Decision, accepts, refuses}

-- ---- parts without fault, in another order

fine_first : (ps : List (List ℕ)) (k : ℕ) → All Fine ps → k + length ps ≤ max_records → first_fault k ps ≡ k + length ps
unfolding first_fault
fine_first [] k f most = omega arith
fine_first (p ∷ ps) k f most =
    let rest = fine_first ps (suc k) f.1 (omega (arith, most)) in
    rw (lt-leb max_records k (omega (arith, most)), f.0) (omega (arith, rest))

perm_all : (P : List ℕ → Type 0) {ps qs : List (List ℕ)} → Permᴰ ps qs → All P ps → All P qs
perm_all P Permᴰ.nil f = tt
perm_all P (Permᴰ.cons e p) f = (subst P e f.0, perm_all P p f.1)
perm_all P (Permᴰ.swap e g) f = (subst P g f.1.0, (subst P e f.0, f.1.1))
perm_all P (Permᴰ.trans p q) f = perm_all P q (perm_all P p f)

with_both : (z : Decision Record) {rs qs : List Record} → Permᴰ rs qs
    → Permᴰ (with_record z rs) (with_record z qs)
with_both (accepts r) p = Permᴰ.cons refl p
with_both (refuses number) p = p

with_swapped : (a b : Decision Record) (rs : List Record)
    → Permᴰ (with_record a (with_record b rs)) (with_record b (with_record a rs))
with_swapped (accepts r) (accepts q) rs = Permᴰ.swap refl refl
with_swapped (accepts r) (refuses n) rs = Permᴰ.refl (r ∷ rs)
with_swapped (refuses m) (accepts q) rs = Permᴰ.refl (q ∷ rs)
with_swapped (refuses m) (refuses n) rs = Permᴰ.refl rs

perm_records : {ps qs : List (List ℕ)} → Permᴰ ps qs → Permᴰ (records_in ps) (records_in qs)
perm_records Permᴰ.nil = Permᴰ.nil
perm_records (Permᴰ.cons {a} e p) = rw (sym e) (with_both (read_record a) (perm_records p))
perm_records (Permᴰ.swap {a} {b} {l = l} e f) =
    rw (sym e, sym f) (with_swapped (read_record a) (read_record b) (records_in l))
perm_records (Permᴰ.trans p q) = Permᴰ.trans (perm_records p) (perm_records q)

-- ---- files

parts_reordered : (xs ys : List ℕ) (s : RecordSummary) → Permᴰ (parts xs) (parts ys) → summarized xs ≡ Ok s
    → summarized ys ≡ Ok s
unfolding summarized
parts_reordered xs ys s p e =
    let n = perm_length p in
    let fine = first_fine (parts xs) 0 (omega arith) (given_fine xs s e ∙ sym (zero-add (length (parts xs)))) in
    let none = fine_first (parts ys) 0 (perm_all Fine p fine.fine) (omega (arith, n, fine.within))
    ∙ zero-add (length (parts ys)) in
    rw (eq-eqb (first_fault 0 (parts ys)) (length (parts ys)) none)
    (ap (λ (t : Tally). Ok (sheet_of t)) (sym (tally_reordered (perm_records p)))
    ∙ ap Ok (sym (given_sheet xs s e)))

pub reordered : (ps qs : List (List ℕ)) (s : RecordSummary) → All Whole ps → Permᴰ ps qs
    → summarized (flatten ps) ≡ Ok s → summarized (flatten qs) ≡ Ok s
reordered ps qs s w p =
    parts_reordered (flatten ps) (flatten qs) s
    (rw (parts_joined ps w, parts_joined qs (perm_all Whole p w)) p)
