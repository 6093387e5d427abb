-- Which calls are not refused.
use Prim.Native.Nat.{ℕ, ◌≤◌}
use mathlib.Core.Path.{◌≡◌}
use borrow.Author.Tests.{le-ltb}
use Rattle.image.specs.Refusal.{pair_refusal}
use Rattle.sharpen.specs.Call.{binomial_scratch, binomial_refusal}

module _ (len width height stride dst_len dst_width dst_height dst_stride scratch_len : ℕ) where
  pub refusal_0 : pair_refusal len width height stride dst_len dst_width dst_height dst_stride ≡ 0
      → binomial_scratch width height ≤ scratch_len
      → binomial_refusal len width height stride dst_len dst_width dst_height dst_stride scratch_len ≡ 0
  unfolding binomial_refusal
  refusal_0 e h = simp (e, le-ltb scratch_len (binomial_scratch width height) h)
