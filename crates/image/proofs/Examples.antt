-- Document 01's cases of refusals 1 to 6, and a picture of 3 by 2 with stride 4.
use Prim.Native.Nat.{ℕ, ◌*◌, ◌-◌, ◌^◌}
use mathlib.Core.List.{List, [], ◌∷◌}
use mathlib.Core.Path.{◌≡◌, refl}
use Rattle.image.specs.Refusal.{layout_refusal, pair_refusal}
use Rattle.image.specs.Picture.{pixel_of, row_of}
use Rattle.std.specs.Prelude.{Some, None}

-- 1 comes before 2, 2 before 3, 3 before 4
empty_first : layout_refusal 0 0 1025 0 ≡ 1
unfolding layout_refusal
empty_first = refl

large_first : layout_refusal 0 1025 1 0 ≡ 2
unfolding layout_refusal
large_first = refl

stride_first : layout_refusal 0 5 1 4 ≡ 3
unfolding layout_refusal
stride_first = refl

-- side 1,024 is accepted, 1,025 gives 2
largest : layout_refusal (1024 * 1024) 1024 1024 1024 ≡ 0
unfolding layout_refusal
largest = refl

too_wide : layout_refusal (1025 * 1024) 1025 1024 1025 ≡ 2
unfolding layout_refusal
too_wide = refl

too_high : layout_refusal (1024 * 1025) 1024 1025 1024 ≡ 2
unfolding layout_refusal
too_high = refl

-- the last row needs no bytes behind its pixels
exact : layout_refusal 11 3 3 4 ≡ 0
unfolding layout_refusal
exact = refl

one_short : layout_refusal 10 3 3 4 ≡ 4
unfolding layout_refusal
one_short = refl

-- a stride whose product wraps to 0 in a usize
wrapping : layout_refusal 1024 1 3 (2 ^ 63) ≡ 4
unfolding layout_refusal
wrapping = refl

widest_stride : layout_refusal (2 ^ 63 - 1) 5 2 (2 ^ 64 - 1) ≡ 4
unfolding layout_refusal
widest_stride = refl

-- a stride is not used in a picture of one row
one_row : layout_refusal 5 5 1 (2 ^ 64 - 1) ≡ 0
unfolding layout_refusal
one_row = refl

-- the source's number comes before the destination's 5, and 5 before 6
source_first : pair_refusal 4 5 1 5 0 0 0 0 ≡ 4
unfolding pair_refusal layout_refusal
source_first = refl

destination_next : pair_refusal 5 5 1 5 3 4 1 4 ≡ 5
unfolding pair_refusal layout_refusal
destination_next = refl

sizes_last : pair_refusal 6 3 2 3 6 2 3 2 ≡ 6
unfolding pair_refusal layout_refusal
sizes_last = refl

strides_differ : pair_refusal 6 3 2 3 11 3 2 8 ≡ 0
unfolding pair_refusal layout_refusal
strides_differ = refl

bytes : List ℕ
bytes = 1 ∷ 2 ∷ 3 ∷ 99 ∷ 4 ∷ 5 ∷ 6 ∷ []

last_pixel : pixel_of bytes 3 2 4 2 1 ≡ Some 6
unfolding bytes pixel_of layout_refusal
last_pixel = refl

between_rows : pixel_of bytes 3 2 4 3 0 ≡ None
unfolding bytes pixel_of layout_refusal
between_rows = refl

second_row : row_of bytes 3 2 4 1 ≡ 4 ∷ 5 ∷ 6 ∷ []
unfolding bytes row_of layout_refusal
second_row = refl

no_row : row_of bytes 3 2 4 2 ≡ []
unfolding bytes row_of layout_refusal
no_row = refl

-- the smallest view with a byte beside its pixel, which the Rust reads (docs/DIFFERENCES.md)
smallest_outside : pixel_of (7 ∷ 9 ∷ []) 1 1 2 1 0 ≡ None
unfolding pixel_of layout_refusal
smallest_outside = refl

smallest_no_row : row_of (7 ∷ 9 ∷ []) 1 1 2 1 ≡ []
unfolding row_of layout_refusal
smallest_no_row = refl
