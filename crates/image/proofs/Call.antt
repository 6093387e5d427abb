-- A call's outcome: where it refuses (`outcome_refused`) and where it accepts (`outcome_accepted`), the two by a
-- refusal's number (`refused_by`, `accepted_by`), and the call as C has it, by its number (`number_in_c`), with
-- out-parameters alone (`outs_in_c`) or beside the destination (`outcome_in_c`).
use Prim.Native.Nat.{ℕ, zero, suc}
use native.Mathlib.Omega.{arith}
use mathlib.Core.Path.{◌≡◌, refl, sym, ap, ◌∙◌}
use Rattle.std.proofs.Common.{Bool, false}
use Rattle.std.proofs.lemmas.Bool.{true≢false}
use Rattle.std.specs.Prelude.{Result, Ok, Err, IfOk}
use Rattle.std.specs.Result.{is_err}
use Rattle.image.specs.Call.{Decision, accepts, refuses, unless, decided, and_then, number_of, Outcome, Returns}
use Rattle.image.specs.Call.{WithOuts, OutsOnly}
use Rattle.image.specs.Refusal.{first_refusal}

module _ {R : Type 0} where
  pub unless_refuses : (n : ℕ) (next : Decision R) → (n ≡ 0 → ⊥) → unless n next ≡ refuses n
  unless_refuses zero next h = absurd (h refl)
  unless_refuses (suc n) next h = refl

  -- where a call refuses, nothing else that it could decide counts: the bytes of a refused source are not read
  pub refused_same : (n : ℕ) (next next' : Decision R) → (n ≡ 0 → ⊥) → unless n next ≡ unless n next'
  refused_same n next next' h = unless_refuses n next h ∙ sym (unless_refuses n next' h)

  pub decided_refuses : (n : ℕ) (found : R) → (n ≡ 0 → ⊥) → decided n found ≡ refuses n
  decided_refuses n found = unless_refuses n (accepts found)

  pub decided_none : {n : ℕ} → n ≡ 0 → (found : R) → decided n found ≡ accepts found
  decided_none e found = ap (λ (n : ℕ). decided n found) e

  pub accepts_not_refuses : {found : R} {n : ℕ} → accepts found ≡ refuses n → ⊥
  accepts_not_refuses e = let z : ◌≡◌ {A = ℕ} 0 1 = cc in omega arith

  -- what accepts is behind 0
  pub unless_accepts : (n : ℕ) (next : Decision R) (found : R) → unless n next ≡ accepts found
      → (n ≡ 0) × (next ≡ accepts found)
  unless_accepts zero next found e = (refl, e)
  unless_accepts (suc n) next found e = absurd (accepts_not_refuses (sym e))

  pub decided_accepts : (n : ℕ) (found found' : R) → decided n found ≡ accepts found' → (n ≡ 0) × (found ≡ found')
  decided_accepts n found found' e = let a = unless_accepts n (accepts found) found' e in (a.0, cc)

  -- both of two accept
  pub then_accepts : {Q : Type 0} (d : Decision Q) (next : Q → Decision R) {found : R} → and_then d next ≡ accepts found
      → (q : Q) × ((d ≡ accepts q) × (next q ≡ accepts found))
  then_accepts (accepts q) next e = (q, (refl, e))
  then_accepts (refuses number) next e = absurd (accepts_not_refuses (sym e))

  pub number_unless : (n : ℕ) (next : Decision R) → number_of (unless n next) ≡ first_refusal n (number_of next)
  number_unless zero next = refl
  number_unless (suc n) next = refl

  pub number_decided : (n : ℕ) (found : R) → number_of (decided n found) ≡ n
  number_decided zero found = refl
  number_decided (suc n) found = refl

module _ {R A D S : Type 0} {decision : Decision R} (answers : Decision R → A) (writes : R → D → D → Type 0) (old : D)
    (scratch : S) where
  -- nothing was written
  pub outcome_refused : (n : ℕ) {answer : A} → decision ≡ refuses n → answer ≡ answers (refuses n)
      → Outcome decision answers writes old old scratch scratch answer
  outcome_refused n e a =
      record {
        answered = a ∙ ap answers (sym e);
        written = λ found z. absurd (accepts_not_refuses (sym z ∙ e));
        dst_kept = λ _ _. refl;
        scratch_kept = λ _ _ _. refl;
      }

  pub outcome_accepted : (found : R) {answer : A} (new : D) (scratch' : S) → decision ≡ accepts found
      → answer ≡ answers (accepts found) → writes found old new
      → Outcome decision answers writes old new scratch scratch' answer
  outcome_accepted found new scratch' e a w =
      record {
        answered = a ∙ ap answers (sym e);
        written = λ found' z. let same : found' ≡ found = cc in rw same w;
        dst_kept = λ number z. absurd (accepts_not_refuses (sym e ∙ z));
        scratch_kept = λ number z _. absurd (accepts_not_refuses (sym e ∙ z));
      }

-- a call that decides by a refusal's number
module _ {R A D S : Type 0} {refusal : ℕ} (found : R) (answers : Decision R → A) (writes : R → D → D → Type 0) (old : D)
    (scratch : S) where
  pub refused_by : (n : ℕ) {answer : A} → refusal ≡ n → (n ≡ 0 → ⊥) → answer ≡ answers (refuses n)
      → Outcome (decided refusal found) answers writes old old scratch scratch answer
  refused_by n e some a =
      outcome_refused answers writes old scratch n (ap (λ (k : ℕ). decided k found) e ∙ decided_refuses n found some) a

  pub accepted_by : {answer : A} (new : D) (scratch' : S) → refusal ≡ 0 → answer ≡ answers (accepts found)
      → writes found old new → Outcome (decided refusal found) answers writes old new scratch scratch' answer
  accepted_by new scratch' e a w =
      outcome_accepted answers writes old scratch found new scratch' (ap (λ (k : ℕ). decided k found) e) a w

-- ---- An answer's decision goes to C as 0 or a number and out-parameters: the call, as C has it.

module _ {R A D S : Type 0} {decision : Decision R} {answers : Decision R → A}
    {writes : R → D → D → Type 0} {old new : D}
    {scratch scratch' : S} {answer : A} (of : A → Decision R) (inverse : (d : Decision R) → of (answers d) ≡ d)
    (o : Outcome decision answers writes old new scratch scratch' answer) where
  same-decision : of answer ≡ decision
  same-decision = ap of o.answered ∙ inverse decision

module _ {R A D O S : Type 0} {decision : Decision R} {answers : Decision R → A}
    {writes : R → D → D → Type 0} {old new : D}
    {scratch scratch' : S} {answer : A} (of : A → Decision R)
    (inverse : (d : Decision R) → of (answers d) ≡ d) (value : R → O)
    {before after : O} {r : ℕ} (o : Outcome decision answers writes old new scratch scratch' answer)
    (c : Returns (of answer) value before after r) where
  e : of answer ≡ decision
  e = same-decision of inverse o

  -- the out-parameters alone
  pub outs_in_c : Outcome decision number_of (OutsOnly value) before after scratch scratch' r
  outs_in_c =
      record {
        answered = c.answered ∙ ap number_of e;
        written = λ found z. c.written found (e ∙ z);
        dst_kept = λ n z. c.dst_kept n (e ∙ z);
        scratch_kept = o.scratch_kept;
      }

  pub outcome_in_c : Outcome decision number_of (WithOuts writes value) (old, before) (new, after) scratch scratch' r
  outcome_in_c =
      record {
        answered = outs_in_c.answered;
        written = λ found z. (o.written found z, outs_in_c.written found z);
        dst_kept = λ n z. rw (o.dst_kept n z, outs_in_c.dst_kept n z) refl;
        scratch_kept = o.scratch_kept;
      }

-- what an accepted one ensures, where a test shows that it is accepted
pub accepted_has : {T E L : Type 0} {b : Bool} (r : Result T E) → IfOk r (λ _. L) → b ≡ is_err r → b ≡ false → L
accepted_has (Ok x) h e f = h
accepted_has (Err x) h e f = elim (true≢false (sym e ∙ f)) [ ]
