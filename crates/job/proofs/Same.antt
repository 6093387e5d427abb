-- The whole job on sources that show the same picture: the plan is the same (`job_same`), the estimates are equal at
-- every pixel (`job_estimate_same`), and so two calls end alike, whatever the old destinations and all scratch hold
-- (`restored_same`).
use Prim.Native.Nat.{ℕ, ◌<◌}
use mathlib.Core.List.{List}
use mathlib.Core.Path.{◌≡◌, ap, ◌∙◌}
use lib.IntN.{ℤ}
use Rattle.std.specs.Prelude.{Result}
use lib.ListN.{length}
use Rattle.numbers.specs.Scalar.{clamp_byte}
use Rattle.image.specs.Call.{Gray8}
use Rattle.image.specs.declared.layout.Layout.{Layout}
use Rattle.image.specs.declared.refusal.Refusal.{Refusal}
use Rattle.image.specs.Same.{SamePicture, SameLayout, SameEnd}
use Rattle.image.proofs.Pair.{destination_laid}
use Rattle.image.proofs.Told.{told_one}
use Rattle.image.proofs.Same.{pair_same, ends_alike}
use Rattle.raster.specs.declared.direction.RasterDirection4.{RasterDirection4}
use Rattle.tensor.specs.declared.direction.DirectionEstimate.{DirectionEstimate}
use Rattle.tensor.proofs.Same.{sums_same, found_same}
use Rattle.swings.specs.declared.Swing.{Swing}
use Rattle.blur.specs.Length.{thresholds, length_along}
use Rattle.blur.proofs.SameLength.{along_same}
use Rattle.deblur.specs.Settings.{line_kernel}
use Rattle.deblur.proofs.Same.{last_same}
use Rattle.job.specs.declared.JobConfig.{JobConfig}
use Rattle.job.specs.declared.JobResult.{JobResult}
use Rattle.job.specs.Job.{
  layout_of,
  job_of,
  job_refusal,
  start_refusal,
  picture_direction,
  job_length,
  plan,
  job_estimate,
  Restored,
}
use Rattle.job.proofs.Plans.{plan_accepted}

module _ {a b : Gray8} (same : SamePicture a b) where
  pub job_estimate_same : (config : JobConfig) (result : JobResult) (k c r : ℕ) → c < a.width → r < a.height
      → job_estimate a config result k c r ≡ job_estimate b config result k c r
  job_estimate_same config result k c r =
      let kernel = line_kernel result.blur_length config.relaxation k config.border in
      last_same same kernel result.direction c r

  direction_same : picture_direction a ≡ picture_direction b
  unfolding picture_direction
  direction_same = ap (λ (found : DirectionEstimate). found.direction) (found_same same)

  module _ (dst : Layout) (config : JobConfig) (scratch_len swings_len : ℕ) where
    refusal-same : start_refusal (job_of a dst config scratch_len swings_len)
        ≡ start_refusal (job_of b dst config scratch_len swings_len)
    unfolding start_refusal job_refusal
    refusal-same =
        rw (
          pair_same same dst.len dst.width dst.height dst.stride,
          sums_same same,
          same.same_width,
          same.same_height,
        )

    length_same : job_length (job_of a dst config scratch_len swings_len)
        ≡ job_length (job_of b dst config scratch_len swings_len)
    length_same =
        let limits = thresholds config.minimum_transitions config.minimum_amplitude in
        ap (λ (d : RasterDirection4). length_along a d limits) direction_same
        ∙ along_same same limits (picture_direction b)

    pub plan_same : plan (job_of a dst config scratch_len swings_len) ≡ plan (job_of b dst config scratch_len swings_len)
    unfolding plan
    plan_same = rw (refusal-same, length_same, direction_same, same.same_width, same.same_height)

  pub job_same : {dst dst' : Gray8} {n n' m m' : ℕ} (config : JobConfig) → SameLayout dst dst' → n ≡ n' → m ≡ m'
      → plan (job_of a (layout_of dst) config n m) ≡ plan (job_of b (layout_of dst') config n' m')
  job_same {dst' = dst'} {n' = n'} {m' = m'} config alike lent records =
      rw (alike.same_length, alike.same_width, alike.same_height, alike.same_stride, lent, records)
      (plan_same (layout_of dst') config n' m')

  pub restored_same : {dst dst' : Gray8} {new new' : List ℕ} (config : JobConfig)
      {scratch scratch₁ scratch' scratch₁' : List ℤ} {swings swings₁ swings' swings₁' : List Swing}
      {answer answer' : Result JobResult Refusal} → SameLayout dst dst' → length scratch ≡ length scratch'
      → length swings ≡ length swings' → Restored a dst new config scratch scratch₁ swings swings₁ answer
      → Restored b dst' new' config scratch' scratch₁' swings' swings₁' answer'
      → SameEnd (plan (job_of a (layout_of dst) config (length scratch) (length swings))) 0 a.width a.height
      dst.stride new new' answer answer'
  restored_same config {answer = answer} {answer'} alike lent records o o' =
      let ends =
      ends_alike (λ result c r. clamp_byte (job_estimate a config result config.iterations c r))
      (λ result c r. clamp_byte (job_estimate b config result config.iterations c r)) same
      (job_same config alike lent records) alike.same_stride alike.same_length
      (λ result is. destination_laid (plan_accepted _ is).runnable.pictures)
      (λ result _ c r hc hr. ap clamp_byte (job_estimate_same config result config.iterations c r hc hr)) o o'
      in
      record { same_answer = told_one answer answer' ends.same_answer; same_pixels = ends.same_pixels }
