-- The contract of `write` determines the number and every byte of the slice (`wrote_determined`), whatever the slice
-- held where it is written (`wrote_same`); that of `read` is an equation.
use mathlib.Core.List.{List}
use mathlib.Core.Path.{◌≡◌, refl, sym, ap, ◌∙◌}
use Prim.Native.Nat.{ℕ}
use lib.ListN.{length}
use Rattle.record.specs.Record.{to_write, write_number, write_bytes, Wrote}
use Rattle.record.specs.declared.fields.Fields.{Fields}
use Rattle.record.specs.declared.Record.{Record}
use Rattle.std.specs.Prelude.{Option, None, Some}
use Rattle.image.specs.Call.{Decision, accepts, decided}

pub wrote_determined : (r : Record) (old new new' : List ℕ) (answer answer' : Decision (Unit {0})) → Wrote r old new answer
    → Wrote r old new' answer' → (answer ≡ answer') × (new ≡ new')
wrote_determined r old new new' answer answer' a b = (a.answers ∙ sym b.answers, a.bytes ∙ sym b.bytes)

-- what is written takes nothing of the old bytes but their number
to_write_same : (r : Record) (old old' : List ℕ) → length old ≡ length old' → to_write r old ≡ to_write r old'
unfolding to_write
to_write_same r old old' e = rw e

bytes_same : (z : Option Fields) (old old' : List ℕ) → accepts tt ≡ decided {R = Unit {0}} (write_number z) tt
    → write_bytes z old ≡ write_bytes z old'
bytes_same (Some f) old old' e = refl
bytes_same None old old' e = cc

pub wrote_same : (r : Record) (old old' new new' : List ℕ) (answer answer' : Decision (Unit {0}))
    → length old ≡ length old' → Wrote r old new answer → Wrote r old' new' answer'
    → (answer ≡ answer') × (answer ≡ accepts tt → new ≡ new')
wrote_same r old old' new new' answer answer' e a b =
    let z = to_write r old in
    let same : to_write r old ≡ to_write r old' = to_write_same r old old' e in (
      a.answers ∙ ap (λ (z : Option Fields). decided {R = Unit {0}} (write_number z) tt) same ∙ sym b.answers,
      λ done. a.bytes ∙ bytes_same z old old' (sym done ∙ a.answers)
          ∙ ap (λ (x : Option Fields). write_bytes x old') same ∙ sym b.bytes,
    )
