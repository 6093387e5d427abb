-- Document 01, "The 32-byte record": where each field stands, and its filter's limits.
use Rattle.std.specs.Prelude.{Bool, ◌&&◌, ◌||◌, List, [], ◌∷◌, ◌++◌, ℕ, ◌*◌, ◌%◌, leb, eqb, get_or, take, drop, is_some}
use Rattle.std.specs.Float.{binary64}
use Rattle.std.specs.Float.Ieee.{of_bits, lt}
use Rattle.std.specs.Float.Ieee.Scale.{finite}
use Rattle.floats.specs.Factor.{scale, max_relaxation, max_gain}
use Rattle.image.specs.Refusal.{max_side}
use Rattle.raster.specs.Border.{is_border}
use Rattle.raster.specs.Direction.{from_angle}
use Rattle.line.specs.Kernel.{max_iterations, max_blur_length}
use Rattle.record.specs.Bytes.{number_at, bytes_of}
use Rattle.record.specs.declared.RecordFilter.{RecordFilter}
use Rattle.record.specs.declared.RecordFilter.TheVariants.{WholeJob, Restoration, Unsharp, Binomial}
use Rattle.record.specs.declared.fields.Fields.{Fields}
use Rattle.record.specs.declared.fields.Head.{Head}

-- ---- width 2, height 2, direction 1, border 1, border value 1, filter 1, blur length 2, iterations 2, q 4, angle 8,
-- estimate 8

-- what every record has, whatever its filter
unfoldable pub decoded_head : List ℕ → Head
decoded_head xs = record { width = number_at xs 0 2; height = number_at xs 2 2; filter = get_or xs 7 0 }

unfoldable pub decoded : List ℕ → Fields
unfolding decoded_head
decoded xs = record {
  head = decoded_head xs;
  direction = get_or xs 4 0;
  border = get_or xs 5 0;
  value = get_or xs 6 0;
  blur_length = number_at xs 8 2;
  iterations = number_at xs 10 2;
  q = number_at xs 12 4;
  angle = number_at xs 16 8;
  estimate = number_at xs 24 8;
}

-- the bytes of the fields, in the same order; four fields are single bytes
unfoldable pub head_bytes : ℕ → ℕ → ℕ → ℕ → ℕ → ℕ → List ℕ
head_bytes width height direction border value filter =
    bytes_of 2 width ++ bytes_of 2 height ++ (direction ∷ border ∷ value ∷ filter ∷ [])

unfoldable pub count_bytes : ℕ → ℕ → ℕ → List ℕ
count_bytes L iterations q = bytes_of 2 L ++ bytes_of 2 iterations ++ bytes_of 4 q

unfoldable pub double_bytes : ℕ → ℕ → List ℕ
double_bytes angle estimate = bytes_of 8 angle ++ bytes_of 8 estimate

unfoldable pub encoded : Fields → List ℕ
unfolding head_bytes count_bytes double_bytes
encoded f =
    head_bytes f.head.width f.head.height f.direction f.border f.value f.head.filter
    ++ count_bytes f.blur_length f.iterations f.q
    ++ double_bytes f.angle f.estimate

-- "records back to back"
abbrev pub back_to_back : List Fields → List ℕ
back_to_back [] = []
back_to_back (f ∷ fs) = encoded f ++ back_to_back fs

-- the bytes of record i, from 0 on
abbrev pub record_at : List ℕ → ℕ → List ℕ
record_at xs i = take 32 (drop (i * 32) xs)

-- ---- the limits

-- "Refusals", 1 and 2: 1 to 1,024
abbrev pub side_legal : ℕ → Bool
side_legal n = leb 1 n && leb n max_side

abbrev pub head_legal : Head → Bool
head_legal h = side_legal h.width && side_legal h.height

-- "Refusals", 7: a blur length is odd, at least 3 and at most 2 × max(width, height) + 1
abbrev pub length_legal : ℕ → ℕ → ℕ → Bool
length_legal width height n = eqb (n % 2) 1 && leb 3 n && leb n (max_blur_length width height)

-- bits of a finite double
abbrev pub finite_bits : ℕ → Bool
finite_bits bits = finite (of_bits binary64 bits)

-- document 02, K7: an angle has a direction; with one that has none, a record gives 13
abbrev pub angle_legal : ℕ → Bool
angle_legal bits = is_some (from_angle (of_bits binary64 bits))

-- an estimate is zero bits or positive and finite
abbrev pub estimate_legal : ℕ → Bool
estimate_legal bits = eqb bits 0 || (finite_bits bits && lt (of_bits binary64 0) (of_bits binary64 bits))

-- what both line filters ask: a direction 0 to 3, a border, an angle that has a direction, an estimate
unfoldable pub line_legal : Fields → Bool
unfolding is_border
line_legal f =
    leb f.direction 3 && is_border f.border f.value && angle_legal f.angle && estimate_legal f.estimate

-- what both restorations ask ("Refusals", 8 and 9): iterations, and the q of a relaxation
unfoldable pub iterated_legal : Fields → Bool
unfolding line_legal
iterated_legal f =
    line_legal f && leb 1 f.iterations && leb f.iterations max_iterations && leb f.q (max_relaxation * scale)

-- direction, length, angle and estimate are 0
abbrev pub unmeasured : Fields → Bool
unmeasured f = eqb f.direction 0 && eqb f.blur_length 0 && eqb f.angle 0 && eqb f.estimate 0

-- "Each field obeys its filter's limits": the whole job has length 0, which stands with direction 0, angle bits 0 and
-- estimate 0; line unsharp has 0 iterations and the q of a gain; the binomial has 0 in all behind height but
-- filter
unfoldable pub filter_legal : RecordFilter → Fields → Bool
unfolding iterated_legal line_legal
filter_legal (WholeJob x) f = iterated_legal f && unmeasured f
filter_legal (Restoration x) f = iterated_legal f && length_legal f.head.width f.head.height f.blur_length
filter_legal (Unsharp x) f =
    line_legal f
    && length_legal f.head.width f.head.height f.blur_length
    && eqb f.iterations 0
    && leb f.q (max_gain * scale)
filter_legal Binomial f =
    unmeasured f && eqb f.border 0 && eqb f.value 0 && eqb f.iterations 0 && eqb f.q 0

-- fields that break no limit
unfoldable pub legal : RecordFilter → Fields → Bool
unfolding filter_legal
legal k f = head_legal f.head && filter_legal k f
