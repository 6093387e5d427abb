-- Document 01's cases that are marked ★, all of them in the document's order, and then the examples of document 02's
-- requests, are one list, and one theorem says that each has the value beside it. What a case has is told by the
-- definitions that the calls' contracts cite, and the two are compared by `≡` alone: no test of our own stands between.
use Rattle.std.specs.Prelude.{ℕ, zero, suc, ◌*◌, List, [], ◌∷◌, ◌++◌, map, ◌≡◌, refl, ℤ, pos, negsuc, length, get_or, take, replicate, Float, Option, Some, None, Result, Ok, Err}
use Rattle.std.specs.Float.{binary64}
use Rattle.std.specs.Float.Ieee.{of_bits, of_int, add, sub, mul, div, rem, le, lt, eq}
use Rattle.numbers.specs.Scalar.{clamp_byte}
use Rattle.numbers.specs.Sum.{total, count}
use Rattle.floats.specs.Factor.{quantized}
use Rattle.image.specs.Call.{gray8, Decision, accepts, refuses}
use Rattle.image.specs.Picture.{pixel, tabulate, pixels_of}
use Rattle.image.specs.Refusal.{sides_refusal, layout_refusal, sized_refusal, pair_refusal}
use Rattle.pgm.specs.Form.{on_from}
use Rattle.pgm.specs.Read.{read_decision}
use Rattle.pgm.specs.declared.PgmPicture.{PgmPicture}
use Rattle.pgm.specs.Write.{digits, digit_count, write_decision}
use Rattle.raster.specs.Border.{border_map}
use Rattle.raster.specs.Direction.{from_angle}
use Rattle.raster.specs.Lines.{start_col, start_row, line_of}
use Rattle.raster.specs.declared.border.LineBorderMode.{LineBorderMode}
use Rattle.raster.specs.declared.border.LineBorderMode.TheVariants.{Replicate, Reflect, Wrap}
use Rattle.raster.specs.declared.border.BorderSample.{BorderSample}
use Rattle.raster.specs.declared.border.BorderSample.TheVariants.{Inside}
use Rattle.raster.specs.declared.direction.RasterDirection4.{RasterDirection4}
use Rattle.raster.specs.declared.direction.RasterDirection4.TheVariants.{Horizontal, DownRight, Vertical, DownLeft}
use Rattle.line.specs.Iteration as iteration
use Rattle.line.specs.Line.{sample, window, mean}
use Rattle.blur.specs.Length.{thresholds, length_decision, snapped_decision}
use Rattle.swings.specs.Rise.{level_of, crossed_at, place_at, crossing_of, rise_between}
use Rattle.swings.specs.Swings.{swings_from}
use Rattle.tensor.specs.Confidence.{passes}
use Rattle.tensor.specs.Tensor.{gradient_x, gradient_y, row_sum, interior_sum, tensor_sums, tensor_direction, estimate_of}
use Rattle.deblur.specs.Calls as calls
use Rattle.deblur.specs.Picture.{estimate, estimate_on}
use Rattle.deblur.specs.Refusal as deblur
use Rattle.deblur.specs.Settings.{LineFilter, restoration_of, unsharp_of}
use Rattle.sharpen.specs.Binomial.{tap_place, binomial_sum, sharper, unsharp}
use Rattle.sharpen.specs.Call.{binomial_refusal}
use Rattle.resize.specs.Call as resize
use Rattle.resize.specs.Halving.{mean_of_four, halved_times, side_after, starts_below2}
use Rattle.job.specs.Floor.{config_floor}
use Rattle.job.specs.Job.{layout, job_of, job_default, job_refusal, start_refusal, picture_direction, plan}
use Rattle.job.specs.declared.JobResult.{JobResult}
use Rattle.record.specs.Bytes.{little_endian}
use Rattle.record.specs.Fields.{decoded, legal}
use Rattle.record.specs.Record.{read_record, record_of}
use Rattle.summary.specs.File.{fault_number, summarized}
use Rattle.summary.specs.declared.DirectionSummary.{DirectionSummary}
use Rattle.summary.specs.declared.FaultyRecord.{FaultyRecord}
use Rattle.summary.specs.declared.RecordSummary.{RecordSummary}

-- ---- the document's pictures, without padding

-- "Three equal rows 0 0 0 50 100 150 200 250 250 250"
ramp : List ℕ
ramp = 0 ∷ 0 ∷ 0 ∷ 50 ∷ 100 ∷ 150 ∷ 200 ∷ 250 ∷ 250 ∷ 250 ∷ []

three_ramps : List ℕ
unfolding ramp
three_ramps = ramp ++ ramp ++ ramp

-- "Row 10 10 40 10 10"
row : List ℕ
row = 10 ∷ 10 ∷ 40 ∷ 10 ∷ 10 ∷ []

-- K2's row 40 10 10 10 10
drum : List ℕ
drum = 40 ∷ 10 ∷ 10 ∷ 10 ∷ 10 ∷ []

-- K6's 4 by 3 and 4 by 4
corner : List ℕ
corner = 0 ∷ 0 ∷ 0 ∷ 0 ∷ 0 ∷ 10 ∷ 10 ∷ 0 ∷ 0 ∷ 0 ∷ 10 ∷ 0 ∷ []

equal : List ℕ
equal = 2 ∷ 2 ∷ 1 ∷ 2 ∷ 1 ∷ 1 ∷ 2 ∷ 2 ∷ 2 ∷ 2 ∷ 1 ∷ 0 ∷ 1 ∷ 2 ∷ 2 ∷ 1 ∷ []

-- K8's 4 by 4, in which each halving rounds, and its 5 by 5, whose last column and row are dropped
rounding : List ℕ
rounding = 1 ∷ 2 ∷ 1 ∷ 1 ∷ 2 ∷ 2 ∷ 0 ∷ 0 ∷ 2 ∷ 1 ∷ 2 ∷ 2 ∷ 0 ∷ 0 ∷ 1 ∷ 1 ∷ []

odd : List ℕ
odd =
    0 ∷ 1 ∷ 255 ∷ 255 ∷ 9
    ∷ 1 ∷ 1 ∷ 255 ∷ 254 ∷ 9
    ∷ 10 ∷ 20 ∷ 30 ∷ 40 ∷ 9
    ∷ 50 ∷ 60 ∷ 70 ∷ 80 ∷ 9
    ∷ 9 ∷ 9 ∷ 9 ∷ 9 ∷ 9
    ∷ []

-- ---- records on 5 by 1, by their bytes

-- a restoration of length L along Horizontal, one iteration, q 65,536
restored_over : ℕ → List ℕ
restored_over L = 5 ∷ 0 ∷ 1 ∷ 0 ∷ 0 ∷ 0 ∷ 0 ∷ 1 ∷ L ∷ 0 ∷ 1 ∷ 0 ∷ 0 ∷ 0 ∷ 1 ∷ 0 ∷ replicate 16 0

-- a line unsharp of length 3, gain 1.5
sharpened_over_3 : List ℕ
sharpened_over_3 = 5 ∷ 0 ∷ 1 ∷ 0 ∷ 0 ∷ 0 ∷ 0 ∷ 2 ∷ 3 ∷ 0 ∷ 0 ∷ 0 ∷ 0 ∷ 128 ∷ 1 ∷ 0 ∷ replicate 16 0

binomial : List ℕ
binomial = 5 ∷ 0 ∷ 1 ∷ 0 ∷ 0 ∷ 0 ∷ 0 ∷ 3 ∷ replicate 24 0

-- a restoration of length 11 along Vertical, estimate 10.5
vertical_over_11 : List ℕ
vertical_over_11 =
    5 ∷ 0 ∷ 1 ∷ 0 ∷ 2 ∷ 0 ∷ 0 ∷ 1 ∷ 11 ∷ 0 ∷ 1 ∷ 0 ∷ 0 ∷ 0 ∷ 1 ∷ 0 ∷ replicate 14 0 ++ (0x25 ∷ 0x40 ∷ [])

-- ---- K3's files

-- `P5`, and with a blank before each the digits of width, height and maximum
p5 : List ℕ → List ℕ → List ℕ → List ℕ
p5 width height maximum = 80 ∷ 53 ∷ 32 ∷ width ++ (32 ∷ height) ++ (32 ∷ maximum)

-- 1, 255 and 1025
d1 : List ℕ
d1 = 49 ∷ []

d255 : List ℕ
d255 = 50 ∷ 53 ∷ 53 ∷ []

d1025 : List ℕ
d1025 = 49 ∷ 48 ∷ 50 ∷ 53 ∷ []

-- 18446744073709551, the start of 2^64 + 5 and of 2^64 + 255
beyond : List ℕ
beyond = 49 ∷ 56 ∷ 52 ∷ 52 ∷ 54 ∷ 55 ∷ 52 ∷ 52 ∷ 48 ∷ 55 ∷ 51 ∷ 55 ∷ 48 ∷ 57 ∷ 53 ∷ 53 ∷ 49 ∷ []

none : DirectionSummary
none = record { count = 0; total = 0; largest = 0; mean = 0; remainder = 0 }

-- ---- what a case asks, and what it gives. A double is given by its bits.

data Question : Type 0 where
  -- "Direction from an angle"
  direction_of : ℕ → Question
  -- "Length": that of the three ramps along Horizontal, by the minimum
  length_of_ramps : ℕ → Question
  -- "Mean along a line": where the sample at a place of a line of n comes from
  sample_at_lem : LineBorderMode → ℕ → ℤ → Question
  -- "Mean along a line": of the samples of a line, over a length, at a place
  mean_of : List ℤ → ℕ → ℕ → Question
  -- "Restoration and line unsharp": q of a relaxation
  q_of : ℕ → Question
  -- "Restoration and line unsharp": the row with relaxation 1, by the iterations, and with a gain
  row_restored : ℕ → Question
  row_sharpened : ℕ → Question
  -- "Whole job and exact run": the three ramps, by the minimum
  job_on_ramps : ℕ → Question
  -- "Binomial unsharp": the row
  row_binomial : Question
  -- document 02, K1: the sheet of a file
  sheet_of : List ℕ → Question
  -- document 02, K2: the drum's row under Wrap with relaxation 1, uncut, by length and iterations
  drum_estimated : ℕ → ℕ → Question
  -- document 02, K3: a file that is read; the row written, by the room there is
  pgm_of : List ℕ → Question
  row_as_pgm : ℕ → Question
  -- document 02, K5: restoration and estimate call by the sides of a picture, the scratch, and the estimates' room
  lines_lent : ℕ → ℕ → ℕ → ℕ → Question
  -- .. and the whole job, by the sides, the scratch, and the records
  job_lent : ℕ → ℕ → ℕ → ℕ → Question
  -- document 02, K6: the whole job by a picture, its sides, the scratch, and the floor
  job_floor : List ℕ → ℕ → ℕ → ℕ → ℕ → Question
  -- document 02, K7: the length of a picture of 2 by 2, by the angle, its bytes, and the records
  length_of_four : ℕ → List ℕ → ℕ → Question
  -- .. and the row restored along an angle, by the iterations
  row_along : ℕ → ℕ → Question
  -- document 02, K8: a square picture, its side, and how often it is halved
  square_halved : List ℕ → ℕ → ℕ → Question
  -- .. and the refusals of so many halvings and of the single one, by the source's sides, the destination's, the count
  -- and the scratch
  halvings_lent : ℕ → ℕ → ℕ → ℕ → ℕ → ℕ → Question

data Answer : Type 0 where
  direction : Option RasterDirection4 → Answer
  measured : Decision (Option Float) → Answer
  source : BorderSample → Answer
  level : ℤ → Answer
  factor : Option ℕ → Answer
  pixels : List ℕ → Answer
  levels : List ℤ → Answer
  refused : ℕ → Answer
  planned : Decision JobResult → Answer
  sheet : RecordSummary → Answer
  -- the number of a fault and its index
  fault : ℕ → ℕ → Answer
  read : Decision PgmPicture → Answer
  -- of refusals, where 0 is none
  numbers : List ℕ → Answer

-- what a call gives, or its refusal
unless : ℕ → Answer → Answer
unless zero answer = answer
unless (suc number) answer = refused (suc number)

-- a row of five
five : {A : Type 0} → (ℕ → ℕ → A) → List A
five f = map (λ c. f c 0) (0 ∷ 1 ∷ 2 ∷ 3 ∷ 4 ∷ [])

-- the row's pixels after a call, or the call's refusal
written : ℕ → (ℕ → ℕ → ℕ) → Answer
unfolding unless five
written number f = unless number (pixels (five f))

-- what a call gives along its direction, or its refusal
along : Decision RasterDirection4 → (RasterDirection4 → Answer) → Answer
along (accepts d) f = f d
along (refuses number) f = refused number

-- the row through a line filter, with the scratch that is asked
filtered : LineFilter → Answer
unfolding row along five
filtered f =
    along (calls.filter_decision (gray8 row 5 1 5) (gray8 row 5 1 5) f 15)
    (λ d. pixels (five (λ c r. clamp_byte (calls.last_estimate (gray8 row 5 1 5) f.kernel d c r))))

-- the drum's row through the estimate call, with the room that is asked
estimated : LineFilter → Answer
unfolding drum along five
estimated f =
    along (calls.estimate_decision (gray8 drum 5 1 5) 5 f 15)
    (λ d. levels (five (calls.last_estimate (gray8 drum 5 1 5) f.kernel d)))

-- a restoration along an angle with relaxation 1
along_angle : ℕ → ℕ → ℕ → LineBorderMode → LineFilter
along_angle angle L iterations border =
    restoration_of
    (record {
      theta_radians = of_bits binary64 angle;
      blur_length = L;
      iterations = iterations;
      relaxation = of_bits binary64 0x3ff0_0000_0000_0000;
      border = border;
    })

-- .. along Horizontal
along_row : ℕ → ℕ → LineBorderMode → LineFilter
unfolding along_angle
along_row = along_angle 0

-- the bytes that a call writes, or its refusal
bytes : Decision (List ℕ) → Answer
bytes (accepts xs) = pixels xs
bytes (refuses number) = refused number

-- a file's sheet, or its fault
sheet_or_fault : Result RecordSummary FaultyRecord → Answer
sheet_or_fault (Ok s) = sheet s
sheet_or_fault (Err f) = fault fault_number f.index

value : Question → Answer
unfolding sheet_or_fault three_ramps row unless written filtered estimated along_angle along_row bytes
value (direction_of angle) = direction (from_angle (of_bits binary64 angle))
value (length_of_ramps minimum) =
    measured (length_decision (gray8 three_ramps 10 3 10) Horizontal (thresholds minimum 24) 30)
value (sample_at_lem border n p) = source (border_map border n p)
value (mean_of line L p) = level (mean (border_map Replicate (length line)) (λ i. get_or line i (pos 0)) L p)
value (q_of relaxation) = factor (quantized 1 (of_bits binary64 relaxation))
value (row_restored iterations) = filtered (along_row 3 iterations Replicate)
value (row_sharpened gain) =
    filtered
    (unsharp_of
    (record {
      theta_radians = of_bits binary64 0;
      blur_length = 3;
      gain = of_bits binary64 gain;
      border = Replicate;
    }))
value (job_on_ramps minimum) =
    planned
    (plan
    (job_of (gray8 three_ramps 10 3 10) (layout 30 10 3 10)
    (record {
      minimum_transitions = minimum;
      minimum_amplitude = 24;
      minimum_confidence = 0;
      iterations = 1;
      relaxation = of_bits binary64 0x3ff0_0000_0000_0000;
      border = Replicate;
    })
    30 30))
value row_binomial = written (binomial_refusal 5 5 1 5 5 5 1 5 5) (unsharp (pixel row 5) 5 1)
value (sheet_of file) = sheet_or_fault (summarized file)
value (drum_estimated L iterations) = estimated (along_row L iterations Wrap)
value (pgm_of file) = read (read_decision file)
value (row_as_pgm room) = bytes (write_decision (gray8 row 5 1 5) room)
value (lines_lent w h scratch room) =
    let settings = (along_row 3 1 Replicate).refusal w h in
    numbers (deblur.filter_refusal (w * h) w h w (w * h) w h w settings scratch
    ∷ deblur.estimate_refusal (w * h) w h w room settings scratch ∷ [])
value (job_lent w h scratch records) =
    let black = gray8 (replicate (w * h) 0) w h w in
    numbers (job_refusal (job_of black (layout (w * h) w h w) job_default scratch records) ∷ [])
value (job_floor xs w h scratch c) =
    let config = config_floor c job_default in
    planned (plan (job_of (gray8 xs w h w) (layout (w * h) w h w) config scratch (w * h)))
value (length_of_four angle xs records) =
    measured (snapped_decision (gray8 xs 2 2 2) (from_angle (of_bits binary64 angle)) (thresholds 8 24) records)
value (row_along angle iterations) = filtered (along_angle angle 3 iterations Replicate)
value (square_halved xs n count) =
    let m = side_after count n in
    unless (resize.halve_refusal (n * n) n n n (m * m) m m m count (n * n))
    (pixels (pixels_of m m (halved_times count (pixel xs n))))
value (halvings_lent w h dw dh count scratch) =
    numbers (resize.halve_refusal (w * h) w h w (dw * dh) dw dh dw count scratch
    ∷ resize.box_refusal (w * h) w h w (dw * dh) dw dh dw ∷ [])

-- ---- the list

record Case : Type 0 where
  asked : Question
  must_be : Answer

infix 68 ◌gives◌
◌gives◌ : Question → Answer → Case
q gives a = record { asked = q; must_be = a }

cases : List Case
unfolding ◌gives◌ restored_over sharpened_over_3 binomial vertical_over_11 none row p5 d1 d255 d1025 beyond three_ramps
    corner equal rounding odd
cases =
    -- "0.39 gives Horizontal★, 0.40 DownRight★, .. NaN ..★", which has none by document 02, K7
    direction_of 0x3fd8_f5c2_8f5c_28f6 gives direction (Some Horizontal)
    ∷ direction_of 0x3fd9_9999_9999_999a gives direction (Some DownRight)
    ∷ direction_of 0x7ff8_0000_0000_0000 gives direction None
    -- "5.0 with minimum 3★, Nothing with 4★"
    ∷ length_of_ramps 3 gives measured (accepts (Some (of_bits binary64 0x4014_0000_0000_0000)))
    ∷ length_of_ramps 4 gives measured (accepts None)
    -- "n = 4, Reflect: −2 gives 2★, 7 gives 1★. Samples −1, 0, 0, L = 3, middle: −1★."
    ∷ sample_at_lem Reflect 4 (negsuc 1) gives source (Inside 2)
    ∷ sample_at_lem Reflect 4 (pos 7) gives source (Inside 1)
    ∷ mean_of (negsuc 0 ∷ pos 0 ∷ pos 0 ∷ []) 3 1 gives level (negsuc 0)
    -- "0.1 gives 6,554★, 2^−17 gives 1★"
    ∷ q_of 0x3fb9_9999_9999_999a gives factor (Some 6554)
    ∷ q_of 0x3ee0_0000_0000_0000 gives factor (Some 1)
    -- "one iteration 10 0 60 0 10★; two 14 0 80 0 14★ .. Line unsharp, gain 1.5: 10 0 70 0 10★"
    ∷ row_restored 1 gives pixels (10 ∷ 0 ∷ 60 ∷ 0 ∷ 10 ∷ [])
    ∷ row_restored 2 gives pixels (14 ∷ 0 ∷ 80 ∷ 0 ∷ 14 ∷ [])
    ∷ row_sharpened 0x3ff8_0000_0000_0000 gives pixels (10 ∷ 0 ∷ 70 ∷ 0 ∷ 10 ∷ [])
    -- "On the ramp above the direction is Vertical, so refusal 11★."
    ∷ job_on_ramps 3 gives planned (refuses 11)
    -- "The row above gives 8 2 59 2 8★."
    ∷ row_binomial gives pixels (8 ∷ 2 ∷ 59 ∷ 2 ∷ 8 ∷ [])
    -- K1: "Horizontal (3, 11, 5, 3, 2), Vertical (1, 11, 11, 11, 0), 1 binomial"; 31 bytes; an empty file
    ∷ sheet_of (restored_over 3 ++ restored_over 5 ++ sharpened_over_3 ++ binomial ++ vertical_over_11)
    gives sheet (record {
      horizontal = record { count = 3; total = 11; largest = 5; mean = 3; remainder = 2 };
      down_right = none;
      vertical = record { count = 1; total = 11; largest = 11; mean = 11; remainder = 0 };
      down_left = none;
      binomials = 1;
    })
    ∷ sheet_of (take 31 binomial) gives fault 13 0
    ∷ sheet_of []
    gives sheet (record {
      horizontal = none;
      down_right = none;
      vertical = none;
      down_left = none;
      binomials = 0;
    })
    -- K2: of 4 places −1 gives 3, 4 gives 0, −5 gives 3, 9 gives 1
    ∷ sample_at_lem Wrap 4 (negsuc 0) gives source (Inside 3)
    ∷ sample_at_lem Wrap 4 (pos 4) gives source (Inside 0)
    ∷ sample_at_lem Wrap 4 (negsuc 4) gives source (Inside 3)
    ∷ sample_at_lem Wrap 4 (pos 9) gives source (Inside 1)
    -- its row: one iteration 60 0 10 10 0, two, uncut, 80 −13 14 14 −13; over a length of 11 one gives 62 5 5 5 5
    ∷ drum_estimated 3 1 gives levels (pos 60 ∷ pos 0 ∷ pos 10 ∷ pos 10 ∷ pos 0 ∷ [])
    ∷ drum_estimated 3 2 gives levels (pos 80 ∷ negsuc 12 ∷ pos 14 ∷ pos 14 ∷ negsuc 12 ∷ [])
    ∷ drum_estimated 11 1 gives levels (pos 62 ∷ pos 5 ∷ pos 5 ∷ pos 5 ∷ pos 5 ∷ [])
    -- K3: a comment alone separates; `255#` gives 14; in `255 #c` LF the `#` is a pixel; `255` CR LF and a byte gives
    -- 16; a comment without an end gives 14
    ∷ pgm_of (80 ∷ 53 ∷ 35 ∷ 97 ∷ 13 ∷ 53 ∷ 35 ∷ 98 ∷ 10 ∷ 49 ∷ 32 ∷ 9 ∷ d255 ++ (32 ∷ row))
    gives read (accepts (record { width = 5; height = 1; start = 16 }))
    ∷ pgm_of (p5 d1 d1 d255 ++ (35 ∷ 10 ∷ 7 ∷ [])) gives read (refuses 14)
    ∷ pgm_of (p5 (51 ∷ []) d1 d255 ++ (32 ∷ 35 ∷ 99 ∷ 10 ∷ []))
    gives read (accepts (record { width = 3; height = 1; start = 11 }))
    ∷ pgm_of (p5 d1 d1 d255 ++ (13 ∷ 10 ∷ 7 ∷ [])) gives read (refuses 16)
    ∷ pgm_of (p5 d1 d1 (35 ∷ d255)) gives read (refuses 14)
    -- the order: `P5 0 1 255` at the end of the file gives 14; `P5 0 1025 7` LF gives 1; `P5 1025 1 7` LF gives 2
    ∷ pgm_of (p5 (48 ∷ []) d1 d255) gives read (refuses 14)
    ∷ pgm_of (p5 (48 ∷ []) d1025 (55 ∷ 10 ∷ [])) gives read (refuses 1)
    ∷ pgm_of (p5 d1025 d1 (55 ∷ 10 ∷ [])) gives read (refuses 2)
    -- a maximum of 0, 256 or 65,535
    ∷ pgm_of (p5 d1 d1 (48 ∷ 10 ∷ 7 ∷ [])) gives read (refuses 15)
    ∷ pgm_of (p5 d1 d1 (50 ∷ 53 ∷ 54 ∷ 10 ∷ 7 ∷ [])) gives read (refuses 15)
    ∷ pgm_of (p5 d1 d1 (54 ∷ 53 ∷ 53 ∷ 51 ∷ 53 ∷ 10 ∷ 7 ∷ [])) gives read (refuses 15)
    -- `0005` and `0255`; 18446744073709551621 as a width; 18446744073709551871 as a maximum
    ∷ pgm_of (p5 (48 ∷ 48 ∷ 48 ∷ 53 ∷ []) d1 (48 ∷ d255) ++ (10 ∷ row))
    gives read (accepts (record { width = 5; height = 1; start = 15 }))
    ∷ pgm_of (p5 (beyond ++ (54 ∷ 50 ∷ 49 ∷ [])) d1 d255 ++ (10 ∷ row)) gives read (refuses 2)
    ∷ pgm_of (p5 d1 d1 (beyond ++ (56 ∷ 55 ∷ 49 ∷ [])) ++ (10 ∷ 7 ∷ [])) gives read (refuses 15)
    -- "10 10 40 10 10 written is 50 35 0A 35 0A 31 0A 32 35 35 0A 0A 0A 28 0A 0A"; room for 15 gives 5
    ∷ row_as_pgm 16
    gives pixels (0x50 ∷ 0x35 ∷ 0xa ∷ 0x35 ∷ 0xa ∷ 0x31 ∷ 0xa ∷ 0x32 ∷ 0x35 ∷ 0x35 ∷ 0xa
    ∷ 0xa ∷ 0xa ∷ 0x28 ∷ 0xa ∷ 0xa ∷ [])
    ∷ row_as_pgm 15 gives refused 5
    -- K5: on 5 by 3 and on 3 by 5 scratch of 14 gives 10 and 15 is accepted, on 1,024 by 1,024 3,072; estimates and
    -- records are as many as the pixels
    ∷ lines_lent 5 3 14 15 gives numbers (10 ∷ 10 ∷ [])
    ∷ lines_lent 5 3 15 15 gives numbers (0 ∷ 0 ∷ [])
    ∷ lines_lent 5 3 15 14 gives numbers (0 ∷ 10 ∷ [])
    ∷ lines_lent 3 5 14 15 gives numbers (10 ∷ 10 ∷ [])
    ∷ lines_lent 3 5 15 15 gives numbers (0 ∷ 0 ∷ [])
    ∷ lines_lent 1024 1024 3071 1048576 gives numbers (10 ∷ 10 ∷ [])
    ∷ lines_lent 1024 1024 3072 1048576 gives numbers (0 ∷ 0 ∷ [])
    ∷ lines_lent 1024 1024 3072 1048575 gives numbers (0 ∷ 10 ∷ [])
    ∷ job_lent 5 3 14 15 gives numbers (10 ∷ [])
    ∷ job_lent 5 3 15 15 gives numbers (0 ∷ [])
    ∷ job_lent 5 3 15 14 gives numbers (10 ∷ [])
    ∷ job_lent 3 5 14 15 gives numbers (10 ∷ [])
    ∷ job_lent 3 5 15 15 gives numbers (0 ∷ [])
    -- K6: A, C, E = 1300, −100, 500 pass 160, and then there are too few swings; 161 gives 17. 16, 0, 8 pass 128 on
    -- equality, and not 129. The ramp passes 256; a number above that is no floor.
    ∷ job_floor corner 4 3 12 160 gives planned (refuses 11)
    ∷ job_floor corner 4 3 12 161 gives planned (refuses 17)
    ∷ job_floor equal 4 4 12 128 gives planned (refuses 11)
    ∷ job_floor equal 4 4 12 129 gives planned (refuses 17)
    ∷ job_floor three_ramps 10 3 30 256 gives planned (refuses 11)
    ∷ job_floor three_ramps 10 3 30 257 gives planned (refuses 17)
    -- A + E = 0, and a side below 3, pass 0 alone; short scratch comes first
    ∷ job_floor (replicate 9 7) 3 3 9 0 gives planned (refuses 11)
    ∷ job_floor (replicate 9 7) 3 3 9 1 gives planned (refuses 17)
    ∷ job_floor row 5 1 15 0 gives planned (refuses 11)
    ∷ job_floor row 5 1 15 1 gives planned (refuses 17)
    ∷ job_floor corner 4 3 11 300 gives planned (refuses 10)
    ∷ job_floor corner 4 3 12 300 gives planned (refuses 17)
    -- K7: the last angle with a direction, and negated; 1e306; then the next double, and negated; 1e307; the largest;
    -- the infinities
    ∷ direction_of 0x7f91_df46_a252_9d38 gives direction (Some DownRight)
    ∷ direction_of 0xff91_df46_a252_9d38 gives direction (Some DownLeft)
    ∷ direction_of 0x7f76_c8e5_ca23_9029 gives direction (Some Vertical)
    ∷ direction_of 0x7f91_df46_a252_9d39 gives direction None
    ∷ direction_of 0xff91_df46_a252_9d39 gives direction None
    ∷ direction_of 0x7fac_7b1f_3cac_7433 gives direction None
    ∷ direction_of 0x7fef_ffff_ffff_ffff gives direction None
    ∷ direction_of 0x7ff0_0000_0000_0000 gives direction None
    ∷ direction_of 0xfff0_0000_0000_0000 gives direction None
    -- "NaN on 2 by 2 gives 7", between 4 and 10
    ∷ length_of_four 0x7ff8_0000_0000_0000 (replicate 4 0) 4 gives measured (refuses 7)
    ∷ length_of_four 0x7ff8_0000_0000_0000 (replicate 3 0) 0 gives measured (refuses 4)
    ∷ length_of_four 0x7ff8_0000_0000_0000 (replicate 4 0) 3 gives measured (refuses 7)
    ∷ length_of_four 0 (replicate 4 0) 3 gives measured (refuses 10)
    ∷ length_of_four 0 (replicate 4 0) 4 gives measured (accepts None)
    -- line filters: along DownRight each pixel of the row is a line of its own; 7 stands before 8; a record gives 13
    ∷ row_along 0x7f91_df46_a252_9d38 1 gives pixels row
    ∷ row_along 0x7f91_df46_a252_9d39 1 gives refused 7
    ∷ row_along 0x7f91_df46_a252_9d39 0 gives refused 7
    ∷ sheet_of (take 16 (restored_over 3) ++ (0x39 ∷ 0x9d ∷ 0x52 ∷ 0xa2 ∷ 0x46 ∷ 0xdf ∷ 0x91 ∷ 0x7f ∷ replicate 8 0))
    gives fault 13 0
    -- K8: each halving rounds, where one mean over sixteen would give 1; an odd last row and column are dropped
    ∷ square_halved rounding 4 0 gives pixels rounding
    ∷ square_halved rounding 4 2 gives pixels (2 ∷ [])
    ∷ square_halved odd 5 1 gives pixels (1 ∷ 255 ∷ 35 ∷ 55 ∷ [])
    ∷ square_halved odd 5 2 gives pixels (87 ∷ [])
    -- 3 by 3: once accepted, twice 18. 1,024 by 1,024 at 10 gives one pixel, 1,023 by 1,024 gives 18; 11 is too many
    ∷ halvings_lent 3 3 1 1 1 9 gives numbers (0 ∷ 0 ∷ [])
    ∷ halvings_lent 3 3 1 1 2 9 gives numbers (18 ∷ 0 ∷ [])
    ∷ halvings_lent 1024 1024 1 1 10 1048576 gives numbers (0 ∷ 6 ∷ [])
    ∷ halvings_lent 1023 1024 1 1 10 1048576 gives numbers (18 ∷ 6 ∷ [])
    ∷ halvings_lent 1024 1024 1 1 11 1048576 gives numbers (18 ∷ 6 ∷ [])
    -- the order: 4, 18, 5, 6, 10, which a count of 0 gives too; a lone pixel can be copied, not halved
    ∷ halvings_lent 0 1 0 0 1 0 gives numbers (1 ∷ 1 ∷ [])
    ∷ halvings_lent 1 1 0 0 1 0 gives numbers (18 ∷ 18 ∷ [])
    ∷ halvings_lent 2 2 0 0 1 0 gives numbers (5 ∷ 5 ∷ [])
    ∷ halvings_lent 2 2 2 2 1 0 gives numbers (6 ∷ 6 ∷ [])
    ∷ halvings_lent 2 2 1 1 1 3 gives numbers (10 ∷ 0 ∷ [])
    ∷ halvings_lent 1 1 1 1 0 0 gives numbers (10 ∷ 18 ∷ [])
    ∷ halvings_lent 1 1 1 1 0 1 gives numbers (0 ∷ 18 ∷ [])
    ∷ []

-- ---- the theorem

stars : map (λ c. value c.asked) cases ≡ map (λ c. c.must_be) cases
unfolding cases value of_bits of_int add sub mul div rem le lt eq from_angle length_decision layout_refusal sized_refusal
    pair_refusal start_col start_row line_of swings_from level_of crossed_at place_at crossing_of rise_between border_map
    iteration.mean window sample total quantized deblur.filter_refusal deblur.estimate_refusal deblur.blur_length_refusal
    deblur.factor_refusal deblur.iterations_refusal estimate estimate_on iteration.after iteration.stepped plan
    start_refusal passes job_refusal picture_direction estimate_of tensor_sums tensor_direction interior_sum row_sum gradient_x
    gradient_y binomial_refusal sharper binomial_sum tap_place count summarized read_record record_of decoded legal
    little_endian on_from read_decision sides_refusal digits digit_count tabulate job_default resize.halve_refusal
    resize.halving_refusal resize.count_refusal resize.box_refusal resize.box_sides_refusal mean_of_four halved_times side_after
    starts_below2
stars = refl
