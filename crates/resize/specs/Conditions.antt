-- Document 02, K8: each number with its condition, in the calls' order, and what is accepted.
use Rattle.std.specs.Prelude.{ℕ, ◌/◌, ◌≤◌, ◌<◌, List, [], ◌∷◌, ◌++◌, ◌⊎◌, ◌≡◌}
use Rattle.image.specs.Conditions.{Refusal, given, layout_conditions, sized_conditions}
use Rattle.image.specs.Refusal.{Laid, LaidAt}
use Rattle.resize.specs.Call.{max_halvings, count_refusal, halve_scratch}
use Rattle.resize.specs.Halving.{side_after}

-- a halving would start from a side below 2
abbrev pub Below2 : ℕ → ℕ → Type 0
Below2 w h = (w < 2) ⊎ (h < 2)

-- some of `count` halvings would: the one that has `done` before it starts from the sides after them
pub record SomeBelow2 (count w h : ℕ) : Type 0 where
  pub done : ℕ
  pub is_one : done < count
  pub below : Below2 (side_after done w) (side_after done h)

-- 1 to 4, then 18 in its condition, then 5, and 6 where the destination has not the sides w and h
abbrev pub resize_conditions : ℕ → ℕ → ℕ → ℕ → ℕ → ℕ → ℕ → ℕ → Type 0 → ℕ → ℕ → List Refusal
resize_conditions len width height stride dst_len dst_width dst_height dst_stride eighteen w h =
    layout_conditions len width height stride
    ++ (given 18 eighteen ∷ sized_conditions dst_len dst_width dst_height dst_stride w h)

abbrev pub box_conditions : ℕ → ℕ → ℕ → ℕ → ℕ → ℕ → ℕ → ℕ → List Refusal
box_conditions len width height stride dst_len dst_width dst_height dst_stride =
    resize_conditions len width height stride dst_len dst_width dst_height dst_stride (Below2 width height) (width / 2)
    (height / 2)

abbrev pub halve_conditions : ℕ → ℕ → ℕ → ℕ → ℕ → ℕ → ℕ → ℕ → ℕ → ℕ → List Refusal
halve_conditions len width height stride dst_len dst_width dst_height dst_stride count scratch_len =
    resize_conditions len width height stride dst_len dst_width dst_height dst_stride
    ((max_halvings < count) ⊎ SomeBelow2 count width height) (side_after count width) (side_after count height)
    ++ (given 10 (scratch_len < halve_scratch width height) ∷ [])

-- ---- what is accepted

-- `resize_refusal` is 0 exactly there.
pub record Resizes (len width height stride dst_len dst_width dst_height dst_stride eighteen w h : ℕ) : Type 0 where
  pub source : Laid len width height stride
  pub starts : eighteen ≡ 0
  pub target : LaidAt dst_len dst_width dst_height dst_stride w h

-- `halve_refusal` is 0 exactly there.
pub record HalveAccepted (len width height stride dst_len dst_width dst_height dst_stride count scratch_len : ℕ)
    : Type 0 where
  pub pictures : Resizes len width height stride dst_len dst_width dst_height dst_stride (count_refusal count width height)
      (side_after count width) (side_after count height)
  pub scratch_least : halve_scratch width height ≤ scratch_len
