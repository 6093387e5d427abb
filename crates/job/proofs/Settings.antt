-- The estimate call of a job's plan: its settings are taken (`estimate_taken`).
use mathlib.Core.Path.{◌≡◌, ap}
use Prim.Native.Nat.{ℕ, ◌≤◌}
use native.Mathlib.Omega.{arith}
use Rattle.std.specs.Prelude.{is_some}
use Rattle.image.specs.Call.{Gray8}
use Rattle.image.specs.declared.layout.Layout.{Layout}
use Rattle.raster.specs.Direction.{angle_of, snaps}
use Rattle.deblur.specs.Refusal.{LengthTaken}
use Rattle.deblur.proofs.Refusals.{first_0, line_0, iterated_0}
use Rattle.job.specs.declared.JobConfig.{JobConfig}
use Rattle.job.specs.declared.JobResult.{JobResult}
use Rattle.job.specs.Demands.{estimate_filter}
use Rattle.job.specs.Job.{Runnable}

module _ (config : JobConfig) (result : JobResult) (k : ℕ) where
  pub estimate_taken : {src : Gray8} {dst : Layout} {scratch_len : ℕ} → Runnable src dst config scratch_len
      → LengthTaken src.width src.height result.blur_length → 1 ≤ k → k ≤ config.iterations
      → (estimate_filter config result k).refusal src.width src.height ≡ 0
  estimate_taken {src} a l least most =
      let limit = a.iterations_taken.most in
      let d = result.direction in
      first_0 (line_0 src.width src.height (angle_of d) l (ap is_some (snaps d)))
      (iterated_0 config.relaxation k a.relaxation_taken (record { least = least; most = omega arith }))
