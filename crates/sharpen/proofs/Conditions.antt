-- The binomial unsharp is given each number in its condition and otherwise never (`sharpen_exactly`), and 0 exactly
-- where it is accepted (`binomial_iff`).
use Prim.Native.Nat.{ℕ}
use native.Mathlib.Omega.{arith}
use mathlib.Core.Logic.{◌↔◌}
use mathlib.Core.Path.{◌≡◌}
use borrow.Author.Tests.{ltb-false}
use lib.ListN.{length}
use Rattle.image.specs.Call.{Gray8, number_of}
use Rattle.image.specs.Conditions.{FirstMatch, Exactly}
use Rattle.image.specs.Refusal.{pair_refusal}
use Rattle.image.proofs.Chain.{first_zero, cond_zero}
use Rattle.image.proofs.Conditions.{match_none, match_test, match_then, decided_exactly}
use Rattle.image.proofs.Conditions.{pair_matches, pair_numbered, pair_iff}
use Rattle.numbers.proofs.Test.{ltb_iff}
use Rattle.sharpen.specs.Call.{binomial_scratch, binomial_refusal, sharpen_decision}
use Rattle.sharpen.specs.Conditions.{binomial_conditions, BinomialAccepted}
use Rattle.sharpen.proofs.Call.{refusal_0}

module _ (len width height stride dst_len dst_width dst_height dst_stride scratch_len : ℕ) where
  abbrev refusal : ℕ
  refusal = binomial_refusal len width height stride dst_len dst_width dst_height dst_stride scratch_len

  binomial-matches : FirstMatch
      (binomial_conditions len width height stride dst_len dst_width dst_height dst_stride scratch_len)
      refusal
  unfolding binomial_refusal
  binomial-matches =
      match_then (pair_matches len width height stride dst_len dst_width dst_height dst_stride)
      (pair_numbered len width height stride dst_len dst_width dst_height dst_stride)
      (match_test 10 match_none (ltb_iff scratch_len (binomial_scratch width height)))

  taken : refusal ≡ 0 → BinomialAccepted len width height stride dst_len dst_width dst_height dst_stride scratch_len
  unfolding binomial_refusal
  taken e =
      let a = first_zero (pair_refusal len width height stride dst_len dst_width dst_height dst_stride) _ e in
      record {
        pictures = (pair_iff len width height stride dst_len dst_width dst_height dst_stride).0 a.0;
        scratch_least =
            ltb-false scratch_len (binomial_scratch width height) (cond_zero _ 10 0 (omega arith) a.1).0;
      }

  pub binomial_iff : (refusal ≡ 0)
      ↔ BinomialAccepted len width height stride dst_len dst_width dst_height dst_stride scratch_len
  binomial_iff = (
    taken,
    λ a. refusal_0 len width height stride dst_len dst_width dst_height dst_stride scratch_len
        ((pair_iff len width height stride dst_len dst_width dst_height dst_stride).1 a.pictures) a.scratch_least,
  )

pub sharpen_exactly : (src dst : Gray8) (scratch_len : ℕ)
    → Exactly
    (binomial_conditions (length src.bytes) src.width src.height src.stride (length dst.bytes)
    dst.width dst.height dst.stride scratch_len)
    (number_of (sharpen_decision src dst scratch_len))
sharpen_exactly src dst scratch_len =
    decided_exactly
    (binomial-matches (length src.bytes) src.width src.height src.stride (length dst.bytes) dst.width
    dst.height dst.stride scratch_len)
    tt
