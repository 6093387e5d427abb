-- What is printed, case by case; and that a refusal changes nothing (`ran_kept`).
use mathlib.Core.Path.{◌≡◌, refl}
use mathlib.Core.Bool.{true, false}
use mathlib.Core.List.{List}
use Prim.Native.Nat.{ℕ, ◌*◌, ◌≤◌, ◌<◌}
use borrow.Author.Tests.{lt-ltb, le-ltb}
use lib.ListN.{length}
use Rattle.std.specs.Prelude.{Err}
use Rattle.image.specs.Call.{Decision, accepts, refuses, map_found}
use Rattle.image.specs.declared.refusal.Refusal.{Refusal}
use Rattle.image.proofs.Front.{counted, counted_kept}
use Rattle.record.specs.Record.{read_record, is_job}
use Rattle.record.specs.declared.Record.{Record}
use Rattle.smear_run.specs.Stage.{stage}
use Rattle.smear_run.specs.Output.{refused_text, too_large, printed, job_output, output, Ran}

module _ (r : Record) (picture : List ℕ) where
  pub no_job : is_job r ≡ false → job_output r picture ≡ refused_text 13
  unfolding job_output
  no_job e = rw e

  pub of_large : is_job r ≡ true → 4096 < r.width * r.height → job_output r picture ≡ too_large
  unfolding job_output
  of_large e h = rw (e, lt-ltb 4096 (r.width * r.height) h)

  pub of_stage : is_job r ≡ true → r.width * r.height ≤ 4096 → job_output r picture ≡ printed r (stage r picture)
  unfolding job_output
  of_stage e h = rw (e, le-ltb 4096 (r.width * r.height) h)

module _ (job picture : List ℕ) where
  pub of_record : {r : Record} → read_record job ≡ accepts r → output job picture ≡ job_output r picture
  unfolding output
  of_record e = rw e

  pub of_refused : {number : ℕ} → read_record job ≡ refuses number → output job picture ≡ refused_text number
  unfolding output
  of_refused e = rw e

-- ---- a refusal

count_is : (d : Decision (List ℕ)) → map_found length d ≡ counted d
count_is (accepts xs) = refl
count_is (refuses number) = refl

-- a refusal leaves the slice as it was
pub ran_kept : (job picture : List ℕ) {old new : List ℕ} (refusal : Refusal)
    → Ran job picture old new (Err refusal)
    → new ≡ old
ran_kept job picture refusal ran = counted_kept (λ (d : Decision ℕ). d) count_is ran refl
