-- Halvings one after the other, as they are painted: none (`painted_none`), the only one (`painted_once`), one and then
-- the others from what it left in the scratch (`painted_more`).
use Prim.Native.Nat.{ℕ, ◌+◌, ◌*◌, ◌/◌, ◌≤◌, ◌<◌}
use native.Mathlib.Nat.{le_trans, le_refl, mul-le-mul}
use native.Mathlib.Omega.{arith}
use mathlib.Core.List.{List}
use mathlib.Core.Path.{◌≡◌, ◌∙◌}
use lib.ListN.{length}
use Rattle.numbers.specs.Written.{Painted}
use Rattle.numbers.proofs.Written.{painted_get, painted_same}
use Rattle.image.specs.Picture.{pixel}
use Rattle.image.specs.Refusal.{Laid}
use Rattle.image.proofs.Accepted.{tight_laid, place_within}
use Rattle.resize.specs.Halving.{halved, halved_times, side_after}
use Rattle.resize.proofs.Halvings.{times_none, times_more, times_same}
use Rattle.resize.proofs.Sides.{side_none, side_more, side_most}

-- where a picture has room, one of half its size has, and one of a quarter beside it
half_room : (w h : ℕ) → w / 2 * (h / 2) ≤ w * h
half_room w h = mul-le-mul (omega arith) (omega arith)

pub quarter_room : (w h : ℕ) → w / 2 / 2 * (h / 2 / 2) ≤ w * h
quarter_room w h = le_trans (half_room (w / 2) (h / 2)) (half_room w h)

pub rooms_beside : (w h : ℕ) → w / 2 / 2 * (h / 2 / 2) + w / 2 * (h / 2) ≤ w * h
rooms_beside w h =
    let twice : w / 2 * (h / 2 * 2) ≤ w * h = mul-le-mul (omega arith) (omega arith) in
    omega (arith, half_room (w / 2) (h / 2))

-- sides after `count` halvings, of which there is one and then n
module _ (count n w h : ℕ) (is : count ≡ n + 1) where
  sides : (side : ℕ) → side_after count side ≡ side_after n (side / 2)
  sides side = rw is (side_more n side)

  -- what is left is left of the half-size picture
  pub half_some : (side : ℕ) → 0 < side_after count side → 0 < side / 2
  half_some side p = le_trans (rw (sides side) at p) (side_most n (side / 2))

  -- a destination of the last size, for the halvings behind the first
  pub last_laid : {len s : ℕ} → Laid len (side_after count w) (side_after count h) s
      → Laid len (side_after n (w / 2)) (side_after n (h / 2)) s
  last_laid l = rw (sides w, sides h) at l

  -- a part of the scratch with room for the half-size picture
  pub half_laid : {len dst_len s : ℕ} → w ≤ 1024 → h ≤ 1024 → w / 2 * (h / 2) ≤ len
      → Laid dst_len (side_after count w) (side_after count h) s → Laid len (w / 2) (h / 2) (w / 2)
  half_laid {len} mw mh fits l =
      tight_laid len (w / 2) (h / 2) (half_some w l.width_pos) (omega arith) (half_some h l.height_pos)
      (omega arith) fits

  pub painted_more : (px : ℕ → ℕ → ℕ) (s : ℕ) {old new scratch mid : List ℕ}
      → Laid (length scratch) (w / 2) (h / 2) (w / 2)
      → Painted 0 (halved px) (w / 2) (h / 2) (w / 2) scratch mid
      → Painted 0 (halved_times n (pixel mid (w / 2))) (side_after n (w / 2)) (side_after n (h / 2)) s old new
      → Painted 0 (halved_times count px) (side_after count w) (side_after count h) s old new
  painted_more px s {mid = mid} l F S =
      rw (sides w, sides h, is, times_more n px)
      (painted_same (halved_times n (pixel mid (w / 2))) (side_after n (w / 2)) (side_after n (h / 2)) s S
      (halved_times n (halved px))
      (times_same n (pixel mid (w / 2)) (halved px) (w / 2) (h / 2) λ c r hc hr.
      painted_get (halved px) (w / 2) (h / 2) (w / 2) F c r hc hr (le_refl (w / 2)) (place_within l c r hc hr)))

module _ (px : ℕ → ℕ → ℕ) (count w h s : ℕ) {old new : List ℕ} where
  pub painted_none : count ≡ 0 → Painted 0 px w h s old new
      → Painted 0 (halved_times count px) (side_after count w) (side_after count h) s old new
  painted_none e P = rw (e, side_none w, side_none h, times_none px) P

  pub painted_once : count ≡ 1 → Painted 0 (halved px) (w / 2) (h / 2) s old new
      → Painted 0 (halved_times count px) (side_after count w) (side_after count h) s old new
  painted_once e P =
      let is : count ≡ 0 + 1 = e ∙ omega arith in
      let same : halved_times count px ≡ halved px = rw is (times_more 0 px ∙ times_none (halved px)) in
      rw (
        same,
        sides count 0 w h is w,
        sides count 0 w h is h,
        side_none (w / 2),
        side_none (h / 2),
      ) P

-- a destination of the last size
module _ (count w h : ℕ) {len s : ℕ} (l : Laid len (side_after count w) (side_after count h) s) where
  pub whole_laid : count ≡ 0 → Laid len w h s
  whole_laid e = rw (e, side_none w, side_none h) at l

  pub once_laid : count ≡ 1 → Laid len (w / 2) (h / 2) s
  once_laid e = rw (side_none (w / 2), side_none (h / 2)) at (last_laid count 0 w h (e ∙ omega arith) l)
