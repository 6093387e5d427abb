-- The two calls are given each number in its condition and otherwise never (`box_exactly`, `halve_exactly`), and 0
-- exactly where they are accepted (`box_iff`, `halve_iff`).
use Prim.Native.Nat.{ℕ, ◌/◌, ◌<◌}
use mathlib.Core.Bool.{Bool, true, cond, ◌||◌}
use mathlib.Core.Logic.{◌⊎◌, ◌↔◌}
use mathlib.Core.Path.{◌≡◌}
use lib.Dec.{ltb}
use lib.ListN.{length}
use Rattle.image.specs.Call.{Gray8, number_of}
use Rattle.image.specs.Conditions.{FirstMatch, Exactly}
use Rattle.image.proofs.Conditions.{Numbered, match_none, match_test, match_then, decided_exactly}
use Rattle.image.proofs.Conditions.{layout_matches, layout_numbered, sized_matches}
use Rattle.numbers.proofs.Test.{ltb_iff, or_iff}
use Rattle.resize.specs.Call.{max_halvings, box_sides_refusal, count_refusal, resize_refusal, box_refusal}
use Rattle.resize.specs.Call.{halving_refusal, halve_scratch, halve_refusal, box_decision, halve_decision}
use Rattle.resize.specs.Conditions.{SomeBelow2, resize_conditions, box_conditions, halve_conditions}
use Rattle.resize.specs.Conditions.{Resizes, HalveAccepted}
use Rattle.resize.specs.Halving.{side_after, starts_below2}
use Rattle.resize.proofs.Refusals.{resizes, resizing, halve_0, halve_taken}
use Rattle.resize.proofs.Sides.{starts_below_iff}

module _ (len width height stride dst_len dst_width dst_height dst_stride : ℕ) where
  -- ---- with 18 by a test

  module _ {C : Type 0} (t : Bool) (iff : (t ≡ true) ↔ C) (w h : ℕ) where
    resize-matches : FirstMatch (resize_conditions len width height stride dst_len dst_width dst_height dst_stride C w h)
        (resize_refusal len width height stride dst_len dst_width dst_height dst_stride (cond t 18 0) w h)
    resize-matches =
        match_then (layout_matches len width height stride) (layout_numbered len width height stride)
        (match_then (match_test 18 match_none iff) (tt, tt)
        (sized_matches dst_len dst_width dst_height dst_stride w h))

    resize-numbered : Numbered (resize_conditions len width height stride dst_len dst_width dst_height dst_stride C w h)
    resize-numbered = (tt, (tt, (tt, (tt, (tt, (tt, (tt, tt)))))))

  -- ---- one halving

  box-matches : FirstMatch (box_conditions len width height stride dst_len dst_width dst_height dst_stride)
      (box_refusal len width height stride dst_len dst_width dst_height dst_stride)
  unfolding box_refusal box_sides_refusal
  box-matches =
      resize-matches (ltb width 2 || ltb height 2) (or_iff _ _ (ltb_iff width 2) (ltb_iff height 2)) (width / 2)
      (height / 2)

  pub box_iff : (box_refusal len width height stride dst_len dst_width dst_height dst_stride ≡ 0)
      ↔ Resizes len width height stride dst_len dst_width dst_height dst_stride (box_sides_refusal width height)
      (width / 2) (height / 2)
  unfolding box_refusal
  box_iff = (resizes, resizing)

  -- ---- as many as stated

  module _ (count scratch_len : ℕ) where
    abbrev refusal : ℕ
    refusal = halve_refusal len width height stride dst_len dst_width dst_height dst_stride count scratch_len

    abbrev many : Bool
    many = ltb max_halvings count || starts_below2 count width height

    many-iff : (many ≡ true) ↔ ((max_halvings < count) ⊎ SomeBelow2 count width height)
    many-iff = or_iff _ _ (ltb_iff max_halvings count) (starts_below_iff count width height)

    halve-matches : FirstMatch
        (halve_conditions len width height stride dst_len dst_width dst_height dst_stride count scratch_len)
        refusal
    unfolding halve_refusal halving_refusal count_refusal
    halve-matches =
        match_then (resize-matches many many-iff (side_after count width) (side_after count height))
        (resize-numbered many many-iff (side_after count width) (side_after count height))
        (match_test 10 match_none (ltb_iff scratch_len (halve_scratch width height)))

    pub halve_iff : (refusal ≡ 0)
        ↔ HalveAccepted len width height stride dst_len dst_width dst_height dst_stride count scratch_len
    unfolding halving_refusal
    halve_iff = (
      λ e. let a = halve_taken len width height stride dst_len dst_width dst_height dst_stride count scratch_len e in
          record { pictures = resizes a.0; scratch_least = a.1 },
      λ a. halve_0 len width height stride dst_len dst_width dst_height dst_stride count scratch_len
          (resizing a.pictures) a.scratch_least,
    )

pub box_exactly : (src dst : Gray8)
    → Exactly
    (box_conditions (length src.bytes) src.width src.height src.stride (length dst.bytes) dst.width
    dst.height dst.stride)
    (number_of (box_decision src dst))
box_exactly src dst =
    decided_exactly
    (box-matches (length src.bytes) src.width src.height src.stride (length dst.bytes) dst.width
    dst.height dst.stride)
    tt

pub halve_exactly : (count : ℕ) (src dst : Gray8) (scratch_len : ℕ)
    → Exactly
    (halve_conditions (length src.bytes) src.width src.height src.stride (length dst.bytes) dst.width
    dst.height dst.stride count scratch_len)
    (number_of (halve_decision count src dst scratch_len))
halve_exactly count src dst scratch_len =
    decided_exactly
    (halve-matches (length src.bytes) src.width src.height src.stride (length dst.bytes) dst.width
    dst.height dst.stride count scratch_len)
    tt
