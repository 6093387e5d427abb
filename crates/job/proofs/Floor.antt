-- The floor of the whole job (document 02, K6): a job comes to what it does without one, or to 17 (`floor_only`).
-- Floor 0 gives the former (`floor_0`), and a higher floor never accepts more (`floor_below`).
use mathlib.Core.Bool.{Bool, true, false, cond}
use mathlib.Core.Logic.{◌⊎◌, inl, inr}
use mathlib.Core.Path.{◌≡◌, refl, sym, ◌∙◌}
use Prim.Native.Nat.{ℕ, zero, suc, ◌≤◌}
use native.Mathlib.Omega.{arith}
use Rattle.numbers.proofs.Test.{by_test}
use Rattle.image.specs.Call.{Decision, accepts, refuses, unless}
use Rattle.image.specs.Refusal.{first_refusal}
use Rattle.image.proofs.Call.{unless_accepts}
use Rattle.image.proofs.Chain.{cond_left, first_zero}
use Rattle.tensor.specs.Confidence.{passes}
use Rattle.tensor.specs.Tensor.{picture_sums}
use Rattle.tensor.proofs.Floor.{passes_0, passes_below}
use Rattle.job.specs.declared.JobResult.{JobResult}
use Rattle.job.specs.Floor.{with_floor, plan_without}
use Rattle.job.specs.Job.{Job, job_refusal, start_refusal, plan_length, job_direction, job_length, plan}

-- ---- 17 behind other numbers, where a test fails

module _ (next : Decision JobResult) where
  abbrev floored : ℕ → Bool → Decision JobResult
  floored n t = unless (first_refusal n (cond t 0 17)) next

  passed : (n : ℕ) {t : Bool} → t ≡ true → floored n t ≡ unless n next
  passed zero e = rw e
  passed (suc n) e = refl

  failed : (n : ℕ) {t : Bool} → t ≡ false → (floored n t ≡ unless n next) ⊎ (floored n t ≡ refuses 17)
  failed zero e = inr (rw e)
  failed (suc n) e = inl refl

  accepted : (n : ℕ) (t : Bool) (result : JobResult) → floored n t ≡ accepts result → t ≡ true
  accepted n t result e =
      cond_left t 17 (omega arith) (first_zero n (cond t 0 17) (unless_accepts _ next result e).0).1

-- ---- the plan

module _ (j : Job) where
  abbrev confident : ℕ → Bool
  confident c = let s = picture_sums j.source in passes c j.source.width j.source.height s.a s.c s.e

  abbrev measured : Decision JobResult
  measured = plan_length j.source.width j.source.height (job_direction j) (job_length j)

  plan-floored : (c : ℕ) → plan (with_floor c j) ≡ floored measured (job_refusal j) (confident c)
  unfolding plan start_refusal job_refusal
  plan-floored c = refl

  plan-passed : (c : ℕ) → confident c ≡ true → plan (with_floor c j) ≡ plan_without j
  plan-passed c e = plan-floored c ∙ passed measured (job_refusal j) e

  pub floor_only : (c : ℕ) → (plan (with_floor c j) ≡ plan_without j) ⊎ (plan (with_floor c j) ≡ refuses 17)
  floor_only c = rw (plan-floored c)
      (by_test (confident c) (λ e. inl (passed measured (job_refusal j) e)) (failed measured (job_refusal j)))

  pub floor_0 : plan (with_floor 0 j) ≡ plan_without j
  floor_0 =
      let s = picture_sums j.source in
      plan-passed 0 (passes_0 j.source.width j.source.height s.a s.c s.e)

  pub floor_below : (c c' : ℕ) → c ≤ c' → (result : JobResult) → plan (with_floor c' j) ≡ accepts result
      → plan (with_floor c j) ≡ accepts result
  floor_below c c' le result e =
      let s = picture_sums j.source in
      let above = accepted measured (job_refusal j) (confident c') result (sym (plan-floored c') ∙ e) in
      let below = passes_below j.source.width j.source.height s.a s.c s.e le above in
      plan-passed c below ∙ sym (plan-passed c' above) ∙ e
