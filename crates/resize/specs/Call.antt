-- The contracts of the two calls (document 02, K8).
use Rattle.std.specs.Prelude.{ℕ, ◌*◌, ◌/◌, cond, ◌||◌, List, Result, eqb, ltb, length}
use Rattle.numbers.specs.Written.{Painted}
use Rattle.image.specs.Call.{Gray8, Decision, decided, told, same, Outcome}
use Rattle.image.specs.declared.refusal.Refusal.{Refusal}
use Rattle.image.specs.Refusal.{first_refusal, layout_refusal, sized_refusal}
use Rattle.image.specs.Picture.{pixel}
use Rattle.resize.specs.Halving.{halved, halved_times, side_after, starts_below2}

-- ---- refusals: 0 is none

-- "0 to 10"
abbrev pub max_halvings : ℕ
max_halvings = 10

-- 18, of one halving: it would start from a side below 2
unfoldable pub box_sides_refusal : ℕ → ℕ → ℕ
box_sides_refusal w h = cond (ltb w 2 || ltb h 2) 18 0

-- 18, of a number of them: the count exceeds 10, or some halving would start from a side below 2
unfoldable pub count_refusal : ℕ → ℕ → ℕ → ℕ
count_refusal count w h = cond (ltb max_halvings count || starts_below2 count w h) 18 0

-- .. by what is left of the sides: where `count` is at most 10 and the sides are not 0, this is the same (a law,
-- `count_left`)
unfoldable pub left_refusal : ℕ → ℕ → ℕ
left_refusal w h = cond (eqb w 0 || eqb h 0) 18 0

-- "between 4 and 5": 1 to 4 of the source, then 18, then 5 of the destination and 6 where it has not the sides w and h
abbrev pub resize_refusal : ℕ → ℕ → ℕ → ℕ → ℕ → ℕ → ℕ → ℕ → ℕ → ℕ → ℕ → ℕ
resize_refusal len width height stride dst_len dst_width dst_height dst_stride eighteen w h =
    first_refusal (layout_refusal len width height stride)
    (first_refusal eighteen (sized_refusal dst_len dst_width dst_height dst_stride w h))

unfoldable pub box_refusal : ℕ → ℕ → ℕ → ℕ → ℕ → ℕ → ℕ → ℕ → ℕ
unfolding box_sides_refusal
box_refusal len width height stride dst_len dst_width dst_height dst_stride =
    resize_refusal len width height stride dst_len dst_width dst_height dst_stride (box_sides_refusal width height)
    (width / 2) (height / 2)

unfoldable pub halving_refusal : ℕ → ℕ → ℕ → ℕ → ℕ → ℕ → ℕ → ℕ → ℕ → ℕ
unfolding count_refusal side_after
halving_refusal len width height stride dst_len dst_width dst_height dst_stride count =
    resize_refusal len width height stride dst_len dst_width dst_height dst_stride (count_refusal count width height)
    (side_after count width) (side_after count height)

-- how many bytes `halve` asks as scratch
abbrev pub halve_scratch : ℕ → ℕ → ℕ
halve_scratch width height = width * height

-- .. else 10
unfoldable pub halve_refusal : ℕ → ℕ → ℕ → ℕ → ℕ → ℕ → ℕ → ℕ → ℕ → ℕ → ℕ
unfolding halving_refusal
halve_refusal len width height stride dst_len dst_width dst_height dst_stride count scratch_len =
    first_refusal (halving_refusal len width height stride dst_len dst_width dst_height dst_stride count)
    (cond (ltb scratch_len (halve_scratch width height)) 10 0)

-- ---- `box_downscale_half`, which has no scratch

abbrev pub box_decision : Gray8 → Gray8 → Decision (Unit {0})
box_decision src dst =
    decided
    (box_refusal (length src.bytes) src.width src.height src.stride (length dst.bytes) dst.width
    dst.height dst.stride)
    tt

-- each pixel of the destination is the mean of four
abbrev pub BoxWrites : Gray8 → ℕ → Unit {0} → List ℕ → List ℕ → Type 0
BoxWrites src dst_stride found old new =
    Painted 0 (halved (pixel src.bytes src.stride)) (src.width / 2) (src.height / 2) dst_stride old new

-- a call on a source, with a destination and what it is after
abbrev pub BoxHalved : Gray8 → Gray8 → List ℕ → Result (Unit {0}) Refusal → Type 0
BoxHalved src dst new answer =
    Outcome (box_decision src dst) same (BoxWrites src dst.stride) dst.bytes new (tt {0}) (tt {0}) (told answer)

-- ---- `halve`

abbrev pub halve_decision : ℕ → Gray8 → Gray8 → ℕ → Decision (Unit {0})
halve_decision count src dst scratch_len =
    decided
    (halve_refusal (length src.bytes) src.width src.height src.stride (length dst.bytes) dst.width
    dst.height dst.stride count scratch_len)
    tt

abbrev pub HalveWrites : ℕ → Gray8 → ℕ → Unit {0} → List ℕ → List ℕ → Type 0
HalveWrites count src dst_stride found old new =
    Painted 0 (halved_times count (pixel src.bytes src.stride)) (side_after count src.width)
    (side_after count src.height) dst_stride old new

-- the same, with the scratch before and after
abbrev pub Halved : ℕ → Gray8 → Gray8 → List ℕ → List ℕ → List ℕ → Result (Unit {0}) Refusal → Type 0
Halved count src dst new scratch scratch' answer =
    Outcome (halve_decision count src dst (length scratch)) same (HalveWrites count src dst.stride)
    dst.bytes new scratch scratch' (told answer)
