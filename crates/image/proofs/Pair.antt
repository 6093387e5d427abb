-- When a source and a destination are given which number, and what it is to be accepted.
use Prim.Native.Nat.{ℕ}
use native.Mathlib.Omega.{arith}
use mathlib.Core.Bool.{and-false, and-eq-true_iff}
use mathlib.Core.Logic.{◌⊎◌, inl, inr}
use mathlib.Core.Path.{◌≡◌, ◌∙◌}
use lib.Dec.{eqb}
use borrow.Author.Tests.{eq-eqb, ne_eqb, eqb-true}
use Rattle.image.specs.Refusal.{layout_refusal, destination_refusal, sizes_refusal, sized_refusal, pair_refusal}
use Rattle.image.specs.Refusal.{Laid, LaidAt, LaidPair}
use Rattle.image.proofs.Chain.{cond_left, first_zero}
use Rattle.image.proofs.Accepted.{laid, accepted}

-- Each number of a destination in its condition.
module _ (dst_len dst_width dst_height dst_stride w h : ℕ) where
  abbrev other : ℕ
  other = layout_refusal dst_len dst_width dst_height dst_stride

  abbrev sized : ℕ
  sized = sized_refusal dst_len dst_width dst_height dst_stride w h

  pub sized_5 : (other ≡ 0 → ⊥) → sized ≡ 5
  unfolding sized_refusal destination_refusal
  sized_5 n = simp (ne_eqb other 0 n)

  pub sized_6 : other ≡ 0 → (dst_width ≡ w → ⊥) ⊎ (dst_height ≡ h → ⊥) → sized ≡ 6
  unfolding sized_refusal destination_refusal sizes_refusal
  sized_6 d (inl n) = simp (d, ne_eqb dst_width w n)
  sized_6 d (inr n) = simp (d, ne_eqb dst_height h n, and-false)

  pub sized_0 : other ≡ 0 → dst_width ≡ w → dst_height ≡ h → sized ≡ 0
  unfolding sized_refusal destination_refusal sizes_refusal
  sized_0 d ew eh = simp (d, eq-eqb dst_width w ew, eq-eqb dst_height h eh)

module _ {dst_len dst_width dst_height dst_stride w h : ℕ} where
  -- an accepted destination is laid, and the other way round
  pub laid_at : sized_refusal dst_len dst_width dst_height dst_stride w h ≡ 0
      → LaidAt dst_len dst_width dst_height dst_stride w h
  unfolding sized_refusal destination_refusal sizes_refusal
  laid_at e =
      let a = first_zero (destination_refusal dst_len dst_width dst_height dst_stride) _ e in
      let same = (and-eq-true_iff (eqb dst_width w) (eqb dst_height h)).0 (cond_left _ 6 (omega arith) a.1) in
      record {
        destination =
            laid (eqb-true (layout_refusal dst_len dst_width dst_height dst_stride) 0 (cond_left _ 5 (omega arith) a.0));
        same_width = eqb-true dst_width w same.0;
        same_height = eqb-true dst_height h same.1;
      }

  pub accepted_at : LaidAt dst_len dst_width dst_height dst_stride w h
      → sized_refusal dst_len dst_width dst_height dst_stride w h ≡ 0
  accepted_at l =
      sized_0 dst_len dst_width dst_height dst_stride w h (accepted l.destination) l.same_width l.same_height

  -- it is laid at these sides
  pub at_laid : LaidAt dst_len dst_width dst_height dst_stride w h → Laid dst_len w h dst_stride
  at_laid l = rw (l.same_width, l.same_height) at l.destination

-- A source, then the destination.
module _ (len width height stride dst_len dst_width dst_height dst_stride : ℕ) where
  abbrev own : ℕ
  own = layout_refusal len width height stride

  abbrev pair : ℕ
  pair = pair_refusal len width height stride dst_len dst_width dst_height dst_stride

  pub pair_sized : own ≡ 0 → pair ≡ sized_refusal dst_len dst_width dst_height dst_stride width height
  unfolding pair_refusal
  pair_sized e = simp e

module _ {len width height stride dst_len dst_width dst_height dst_stride : ℕ} where
  -- an accepted pair is laid, and the other way round
  pub laid_pair : pair_refusal len width height stride dst_len dst_width dst_height dst_stride ≡ 0
      → LaidPair len width height stride dst_len dst_width dst_height dst_stride
  unfolding pair_refusal
  laid_pair e =
      let a = first_zero (layout_refusal len width height stride) _ e in
      let l = laid_at a.1 in
      record {
        source = laid a.0;
        destination = l.destination;
        same_width = l.same_width;
        same_height = l.same_height;
      }

  pub accepted_pair : LaidPair len width height stride dst_len dst_width dst_height dst_stride
      → pair_refusal len width height stride dst_len dst_width dst_height dst_stride ≡ 0
  accepted_pair l =
      pair_sized len width height stride dst_len dst_width dst_height dst_stride (accepted l.source)
      ∙ sized_0 dst_len dst_width dst_height dst_stride width height (accepted l.destination) l.same_width
      l.same_height

  -- the destination is laid at the source's size
  pub destination_laid : LaidPair len width height stride dst_len dst_width dst_height dst_stride
      → Laid dst_len width height dst_stride
  destination_laid l = rw (l.same_width, l.same_height) at l.destination
