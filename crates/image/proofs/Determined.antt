-- A contract is an `Outcome`, which determines its call (`outcome_determines`) if what an accepted call writes is
-- determined (`painted_one`, `outs_one`, `with_outs_one`).
use Prim.Native.Nat.{ℕ}
use mathlib.Core.List.{List}
use mathlib.Core.Path.{◌≡◌, refl, sym, ap, subst, ◌∙◌}
use Rattle.numbers.specs.Written.{Painted}
use Rattle.numbers.proofs.Written.{written_one}
use Rattle.image.specs.Determined.{WritesOne, Determines}
use Rattle.image.specs.Call.{Decision, accepts, refuses, Outcome, WithOuts, OutsOnly}

module _ {R A D S N : Type 0} (size : S → N) (decide : N → Decision R) (answers : Decision R → A)
    (writes : R → D → D → Type 0) (one : WritesOne writes) (old : D) where
  same_new : (decision : Decision R) {new new' : D} {scratch scratch' other other' : S} {answer answer' : A}
      → Outcome decision answers writes old new scratch scratch' answer
      → Outcome decision answers writes old new' other other' answer' → new ≡ new'
  same_new (accepts found) {new} {new'} o p = one found old new new' (o.written found refl) (p.written found refl)
  same_new (refuses number) o p = o.dst_kept number refl ∙ sym (p.dst_kept number refl)

  pub outcome_determines : Determines size
      (λ scratch scratch' new answer. Outcome (decide (size scratch)) answers writes old new scratch scratch' answer)
  outcome_determines scratch scratch' other other' new new' answer answer' e o p = (
    o.answered ∙ ap (λ (n : N). answers (decide n)) e ∙ sym p.answered,
    same_new (decide (size scratch)) o
        (subst (λ (n : N). Outcome (decide n) answers writes old new' other other' answer') (sym e) p),
  )

-- ---- what is written

pub painted_one : {R A : Type 0} (z : A) (f : R → ℕ → ℕ → A) (w h s : ℕ)
    → WritesOne {D = List A} (λ (found : R) old new. Painted z (f found) w h s old new)
painted_one z f w h s found old new new' = written_one

pub outs_one : {R O : Type 0} (value : R → O) → WritesOne (OutsOnly value)
outs_one value found old new new' e f = e ∙ sym f

pub with_outs_one : {R D O : Type 0} (writes : R → D → D → Type 0) (value : R → O) → WritesOne writes
    → WritesOne (WithOuts writes value)
with_outs_one writes value one found old new new' p q =
    rw (one found old.0 new.0 new'.0 p.0 q.0, p.1, q.1) refl

-- no destination
pub nothing_one : {R : Type 0} → WritesOne {R = R} {D = Unit {0}} (λ _ _ _. Unit {0})
nothing_one found old new new' _ _ = refl
