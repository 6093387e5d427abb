-- When a call is given which number: 18, also by what is left of the sides (`count_left`), then the chain.
use Prim.Native.Nat.{ℕ, ◌/◌, ◌≤◌, ◌<◌}
use native.Mathlib.Omega.{arith}
use mathlib.Core.Bool.{true, cond, or-false, ◌||◌}
use mathlib.Core.Logic.{inl, inr, ⊎_elim}
use mathlib.Core.Path.{◌≡◌, refl, ap, ◌∙◌}
use borrow.Author.Tests.{lt-ltb, le-ltb, ltb-false, eq-eqb, eqb-true}
use lib.Dec.{eqb}
use Rattle.image.specs.Refusal.{first_refusal, layout_refusal, sized_refusal, Laid}
use Rattle.image.proofs.Chain.{cond_zero, first_zero}
use Rattle.image.proofs.Pair.{laid_at, accepted_at}
use Rattle.image.proofs.Accepted.{laid, accepted}
use Rattle.numbers.proofs.Test.{by_test, or_ext}
use Rattle.resize.specs.Call.{
  max_halvings,
  box_sides_refusal,
  count_refusal,
  left_refusal,
  resize_refusal,
  box_refusal,
  halving_refusal,
  halve_scratch,
  halve_refusal,
}
use Rattle.resize.specs.Conditions.{Resizes}
use Rattle.resize.specs.Halving.{side_after, starts_below2}
use Rattle.resize.proofs.Sides.{nothing_left, all_start}

-- ---- 18

module _ (count w h : ℕ) where
  pub count_many : max_halvings < count → count_refusal count w h ≡ 18
  unfolding count_refusal
  count_many l = simp (lt-ltb max_halvings count l)

  -- by what is left of the sides
  pub count_left : count ≤ max_halvings → 0 < w → 0 < h
      → count_refusal count w h ≡ left_refusal (side_after count w) (side_after count h)
  unfolding count_refusal left_refusal
  count_left l pw ph = simp (le-ltb max_halvings count l) (ap (λ t. cond t 18 0) same)
    where
      starts : ((0 < side_after count w) × (0 < side_after count h) → ⊥) → starts_below2 count w h ≡ true
      starts gone =
          by_test (starts_below2 count w h) (λ t. t) (λ t. absurd (gone (all_start count w h t pw ph)))

      same : starts_below2 count w h ≡ (eqb (side_after count w) 0 || eqb (side_after count h) 0)
      same =
          or_ext (starts_below2 count w h) (eqb (side_after count w) 0) (eqb (side_after count h) 0)
          (λ t.
          ⊎_elim (λ e. inl (eq-eqb (side_after count w) 0 e)) (λ e. inr (eq-eqb (side_after count h) 0 e))
          (nothing_left count w h t))
          (λ t. starts (λ some. omega (arith, eqb-true (side_after count w) 0 t, some.0)))
          (λ t. starts (λ some. omega (arith, eqb-true (side_after count h) 0 t, some.1)))

-- ---- the chain, with 18 in its place

module _ (len width height stride dst_len dst_width dst_height dst_stride eighteen w h : ℕ) where
  abbrev own : ℕ
  own = layout_refusal len width height stride

  abbrev resize : ℕ
  resize = resize_refusal len width height stride dst_len dst_width dst_height dst_stride eighteen w h

  pub resize_target : own ≡ 0 → eighteen ≡ 0 → resize ≡ sized_refusal dst_len dst_width dst_height dst_stride w h
  resize_target mine start = simp (mine, start)

-- what is accepted, and the other way round
module _ {len width height stride dst_len dst_width dst_height dst_stride eighteen w h : ℕ} where
  pub resizes : resize_refusal len width height stride dst_len dst_width dst_height dst_stride eighteen w h ≡ 0
      → Resizes len width height stride dst_len dst_width dst_height dst_stride eighteen w h
  resizes e =
      let a = first_zero (layout_refusal len width height stride) _ e in
      let b = first_zero eighteen _ a.1 in
      record { source = laid a.0; starts = b.0; target = laid_at b.1 }

  pub resizing : Resizes len width height stride dst_len dst_width dst_height dst_stride eighteen w h
      → resize_refusal len width height stride dst_len dst_width dst_height dst_stride eighteen w h ≡ 0
  resizing r =
      resize_target len width height stride dst_len dst_width dst_height dst_stride eighteen w h (accepted r.source)
      r.starts
      ∙ accepted_at r.target

-- ---- one halving is a count of 1

pub box_sides_one : (w h : ℕ) → count_refusal 1 w h ≡ box_sides_refusal w h
unfolding count_refusal box_sides_refusal starts_below2
box_sides_one w h = simp or-false

module _ (len width height stride dst_len dst_width dst_height dst_stride : ℕ) where
  pub halving_one : halving_refusal len width height stride dst_len dst_width dst_height dst_stride 1
      ≡ box_refusal len width height stride dst_len dst_width dst_height dst_stride
  unfolding halving_refusal box_refusal side_after
  halving_one = rw (box_sides_one width height) refl

  pub box_taken : box_refusal len width height stride dst_len dst_width dst_height dst_stride ≡ 0
      → Resizes len width height stride dst_len dst_width dst_height dst_stride (box_sides_refusal width height)
      (width / 2) (height / 2)
  unfolding box_refusal
  box_taken = resizes

-- ---- a number of halvings: 1 to 4 come first, 10 last

module _ (len width height stride dst_len dst_width dst_height dst_stride count : ℕ) where
  module _ (mine : layout_refusal len width height stride ≡ 0) where
    pub halving_many : max_halvings < count
        → halving_refusal len width height stride dst_len dst_width dst_height dst_stride count ≡ 18
    unfolding halving_refusal
    halving_many l = simp (mine, count_many count width height l)

  -- 18 by what is left
  pub halving_left : {lw lh : ℕ} → Laid len width height stride → count ≤ max_halvings → lw ≡ side_after count width
      → lh ≡ side_after count height
      → halving_refusal len width height stride dst_len dst_width dst_height dst_stride count
      ≡ first_refusal (left_refusal lw lh) (sized_refusal dst_len dst_width dst_height dst_stride lw lh)
  unfolding halving_refusal
  halving_left l few ew eh =
      rw (ew, eh, accepted l, count_left count width height few l.width_pos l.height_pos) refl

  pub halving_taken : halving_refusal len width height stride dst_len dst_width dst_height dst_stride count ≡ 0
      → Resizes len width height stride dst_len dst_width dst_height dst_stride (count_refusal count width height)
      (side_after count width) (side_after count height)
  unfolding halving_refusal
  halving_taken = resizes

module _ (len width height stride dst_len dst_width dst_height dst_stride count scratch_len : ℕ) where
  abbrev halving : ℕ
  halving = halving_refusal len width height stride dst_len dst_width dst_height dst_stride count

  abbrev whole : ℕ
  whole = halve_refusal len width height stride dst_len dst_width dst_height dst_stride count scratch_len

  pub halve_0 : halving ≡ 0 → halve_scratch width height ≤ scratch_len → whole ≡ 0
  unfolding halve_refusal
  halve_0 e h = simp (e, le-ltb scratch_len (halve_scratch width height) h)

  -- what is accepted
  pub halve_taken : whole ≡ 0 → (halving ≡ 0) × (halve_scratch width height ≤ scratch_len)
  unfolding halve_refusal
  halve_taken e =
      let a = first_zero halving _ e in
      (a.0, ltb-false scratch_len (halve_scratch width height) (cond_zero _ 10 0 (omega arith) a.1).0)
