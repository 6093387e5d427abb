-- Document 01, "Refusals, first match wins": numbers 1 to 6, those of a source and of a destination. 0 is no refusal.
use Rattle.std.specs.Prelude.{ℕ, zero, suc, ◌+◌, ◌*◌, ◌-◌, ◌≤◌, ◌<◌, cond, ◌&&◌, ◌||◌, ◌≡◌, eqb, ltb}

-- the longest side
abbrev pub max_side : ℕ
max_side = 1024

-- the first refusal of two
abbrev pub first_refusal : ℕ → ℕ → ℕ
first_refusal zero next = next
first_refusal (suc number) next = suc number

-- 1 a side is 0; 2 a side exceeds 1,024
unfoldable pub sides_refusal : ℕ → ℕ → ℕ
sides_refusal width height = cond (eqb width 0 || eqb height 0) 1 (cond (ltb max_side width || ltb max_side height) 2 0)

-- 3 the stride is below the width; 4 the slice of len bytes is shorter than stride × (height − 1) + width. On ℕ nothing
-- overflows: a sum that does in a usize exceeds every length, and gives 4.
unfoldable pub rows_refusal : ℕ → ℕ → ℕ → ℕ → ℕ
rows_refusal len width height stride = cond (ltb stride width) 3 (cond (ltb len (stride * (height - 1) + width)) 4 0)

unfoldable pub layout_refusal : ℕ → ℕ → ℕ → ℕ → ℕ
unfolding sides_refusal rows_refusal
layout_refusal len width height stride = first_refusal (sides_refusal width height) (rows_refusal len width height stride)

-- 5 the destination's own layout meets one of 1 to 4
unfoldable pub destination_refusal : ℕ → ℕ → ℕ → ℕ → ℕ
destination_refusal len width height stride = cond (eqb (layout_refusal len width height stride) 0) 0 5

-- 6 the two sizes differ
unfoldable pub sizes_refusal : ℕ → ℕ → ℕ → ℕ → ℕ
sizes_refusal width height dst_width dst_height = cond (eqb dst_width width && eqb dst_height height) 0 6

-- 5 and 6 of a destination that must have the sides w and h
unfoldable pub sized_refusal : ℕ → ℕ → ℕ → ℕ → ℕ → ℕ → ℕ
unfolding destination_refusal sizes_refusal
sized_refusal dst_len dst_width dst_height dst_stride w h =
    first_refusal (destination_refusal dst_len dst_width dst_height dst_stride) (sizes_refusal w h dst_width dst_height)

-- 1 to 4 of the source, then 5 and 6
unfoldable pub pair_refusal : ℕ → ℕ → ℕ → ℕ → ℕ → ℕ → ℕ → ℕ → ℕ
unfolding sized_refusal
pair_refusal len width height stride dst_len dst_width dst_height dst_stride =
    first_refusal (layout_refusal len width height stride)
    (sized_refusal dst_len dst_width dst_height dst_stride width height)

-- An accepted layout: `layout_refusal` is 0 exactly there.
pub record Laid (len width height stride : ℕ) : Type 0 where
  pub width_pos : 0 < width
  pub width_most : width ≤ max_side
  pub height_pos : 0 < height
  pub height_most : height ≤ max_side
  pub stride_least : width ≤ stride
  pub len_least : stride * (height - 1) + width ≤ len

-- An accepted destination of the sides w and h: `sized_refusal` is 0 exactly there.
pub record LaidAt (dst_len dst_width dst_height dst_stride w h : ℕ) : Type 0 where
  pub destination : Laid dst_len dst_width dst_height dst_stride
  pub same_width : dst_width ≡ w
  pub same_height : dst_height ≡ h

-- An accepted source and destination: `pair_refusal` is 0 exactly there.
pub record LaidPair (len width height stride dst_len dst_width dst_height dst_stride : ℕ) : Type 0 where
  pub source : Laid len width height stride
  pub destination : Laid dst_len dst_width dst_height dst_stride
  pub same_width : dst_width ≡ width
  pub same_height : dst_height ≡ height
