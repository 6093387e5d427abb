-- The calls along lines on sources that show the same picture: their last estimates are equal at every pixel
-- (`last_same`), they decide the same (`filter_same`, `estimate_call_same`), and so they end alike, whatever the old
-- destinations and scratch hold (`filtered_same`, `estimates_same`).
use Prim.Native.Nat.{ℕ, ◌<◌}
use mathlib.Core.List.{List}
use mathlib.Core.Path.{◌≡◌, ap}
use lib.IntN.{ℤ, pos}
use lib.ListN.{length}
use Rattle.numbers.specs.Scalar.{clamp_byte}
use Rattle.image.specs.Call.{Gray8}
use Rattle.image.specs.Picture.{pixel}
use Rattle.image.specs.Same.{SamePicture, SameLayout, SameEnd}
use Rattle.image.proofs.Pair.{destination_laid}
use Rattle.image.proofs.Same.{layout_same, pair_same, ends_alike}
use Rattle.raster.specs.declared.direction.RasterDirection4.{RasterDirection4}
use Rattle.line.specs.declared.kernel.LineKernel.{LineKernel}
use Rattle.deblur.specs.declared.RestorationMetadata.{RestorationMetadata}
use Rattle.image.specs.declared.refusal.Refusal.{Refusal}
use Rattle.image.proofs.Told.{told_one}
use Rattle.std.specs.Prelude.{Result}
use Rattle.deblur.specs.Calls.{
  decided_along,
  last_estimate,
  filter_decision,
  Filtered,
  estimate_decision,
  EstimateWritten,
}
use Rattle.deblur.specs.Refusal.{filter_refusal, estimate_refusal}
use Rattle.deblur.specs.Settings.{LineFilter}
use Rattle.deblur.proofs.Decided.{along_accepts}
use Rattle.deblur.proofs.Refusals.{filter_accepted, estimate_accepted}
use Rattle.deblur.proofs.RowStride.{estimate_same, walked_tight}

module _ {a b : Gray8} (same : SamePicture a b) where
  pub last_same : (kernel : LineKernel) (d : RasterDirection4) (c r : ℕ) → c < a.width → r < a.height
      → last_estimate a kernel d c r ≡ last_estimate b kernel d c r
  last_same kernel d c r hc hr =
      rw (← same.same_width, ← same.same_height)
      (estimate_same (pixel a.bytes a.stride) (pixel b.bytes b.stride) d a.width a.height
      kernel.border kernel.blur_length kernel.q kernel.iterations c r same.same_pixels hc hr)

  -- ---- restoration and line unsharp, whatever the settings' refusal at sides

  pub filter_refusal_same : (dst_len dst_width dst_height dst_stride : ℕ) (settings : ℕ → ℕ → ℕ) (scratch_len : ℕ)
      → filter_refusal (length a.bytes) a.width a.height a.stride dst_len dst_width dst_height dst_stride
      (settings a.width a.height) scratch_len
      ≡ filter_refusal (length b.bytes) b.width b.height b.stride dst_len dst_width dst_height dst_stride
      (settings b.width b.height) scratch_len
  unfolding filter_refusal
  filter_refusal_same dst_len dst_width dst_height dst_stride settings scratch_len =
      rw (pair_same same dst_len dst_width dst_height dst_stride, same.same_width, same.same_height)

  pub filter_same : {dst dst' : Gray8} {n n' : ℕ} (f : LineFilter) → SameLayout dst dst' → n ≡ n'
      → filter_decision a dst f n ≡ filter_decision b dst' f n'
  filter_same {dst' = dst'} {n' = n'} f alike lent =
      rw (alike.same_length, alike.same_width, alike.same_height, alike.same_stride, lent)
      (ap (λ (k : ℕ). decided_along k f.direction)
      (filter_refusal_same (length dst'.bytes) dst'.width dst'.height dst'.stride f.refusal n'))

  pub filtered_same : {dst dst' : Gray8} {new new' : List ℕ} (f : LineFilter)
      {scratch scratch₁ scratch' scratch₁' : List ℤ} {answer answer' : Result RestorationMetadata Refusal} → SameLayout dst dst'
      → length scratch ≡ length scratch' → Filtered a dst new f scratch scratch₁ answer
      → Filtered b dst' new' f scratch' scratch₁' answer'
      → SameEnd (filter_decision a dst f (length scratch)) 0 a.width a.height dst.stride new new' answer answer'
  filtered_same f alike lent o o' =
      let ends =
      ends_alike (λ d c r. clamp_byte (last_estimate a f.kernel d c r))
      (λ d c r. clamp_byte (last_estimate b f.kernel d c r)) same (filter_same f alike lent) alike.same_stride
      alike.same_length
      (λ d is.
      let t = filter_accepted _ _ _ _ _ _ _ _ _ _ (along_accepts _ f.direction d is).0 in
      destination_laid t.pictures)
      (λ d _ c r hc hr. ap clamp_byte (last_same f.kernel d c r hc hr)) o o'
      in
      record { same_answer = told_one _ _ ends.same_answer; same_pixels = ends.same_pixels }

  -- ---- the estimate call

  pub estimate_call_same : {m m' n n' : ℕ} (f : LineFilter) → m ≡ m' → n ≡ n'
      → estimate_decision a m f n ≡ estimate_decision b m' f n'
  unfolding estimate_refusal
  estimate_call_same f room lent = rw (room, lent, layout_same same, same.same_width, same.same_height)

  pub estimates_same : {old old' new new' : List ℤ} (f : LineFilter) {scratch scratch₁ scratch' scratch₁' : List ℤ}
      {answer answer' : Result RestorationMetadata Refusal} → length old ≡ length old' → length scratch ≡ length scratch'
      → EstimateWritten a old new f scratch scratch₁ answer → EstimateWritten b old' new' f scratch' scratch₁' answer'
      → SameEnd (estimate_decision a (length old) f (length scratch)) (pos 0) a.width a.height a.width new new'
      answer answer'
  estimates_same f room lent o o' =
      let ends =
      ends_alike (last_estimate a f.kernel) (last_estimate b f.kernel) same (estimate_call_same f room lent)
      same.same_width room
      (λ d is.
      let t = estimate_accepted _ _ _ _ _ _ _ (along_accepts _ f.direction d is).0 in
      (walked_tight t.picture t.dst_least).laid)
      (λ d _ c r hc hr. last_same f.kernel d c r hc hr) o o'
      in
      record { same_answer = told_one _ _ ends.same_answer; same_pixels = ends.same_pixels }
