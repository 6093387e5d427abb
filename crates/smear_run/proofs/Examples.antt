-- Worked: document 01's case of the program, and its texts.
use mathlib.Core.Path.{◌≡◌, refl}
use mathlib.Core.List.{List, [], ◌∷◌, ◌++◌}
use Prim.Native.Nat.{ℕ}
use lib.Ieee.{of_bits, to_bits, add, mul, div, rem, of_int, lt}
use lib.ListN.{replicate, set, take}
use Rattle.numbers.specs.Sum.{total, count}
use Rattle.floats.specs.Factor.{within, rounded_q16, quantized, factor_of}
use Rattle.image.specs.Picture.{tabulate}
use Rattle.image.specs.Refusal.{layout_refusal, pair_refusal}
use Rattle.raster.specs.Border.{border_map}
use Rattle.raster.specs.Direction.{from_angle}
use Rattle.raster.specs.Lines.{start_col, start_row, line_of}
use Rattle.line.specs.Iteration.{mean, stepped, after}
use Rattle.line.specs.Line.{sample, window}
use Rattle.deblur.specs.Picture.{estimate_on, estimate}
use Rattle.deblur.specs.Refusal.{blur_length_refusal, factor_refusal, iterations_refusal, filter_refusal}
use Rattle.sharpen.specs.Binomial.{tap_place, binomial_sum, sharper}
use Rattle.sharpen.specs.Call.{binomial_refusal}
use Rattle.record.specs.Bytes.{little_endian, bytes_of}
use Rattle.record.specs.Fields.{decoded, encoded, legal}
use Rattle.record.specs.Record.{record_of, is_factor, filter_q, fields_of, record_fields, read_record, is_job}
use Rattle.smear_run.specs.Stage.{stage}
use Rattle.smear_run.specs.Output.{refused_text, output}

job : List ℕ
job = 0x05 ∷ 0x00 ∷ 0x01 ∷ 0x00 ∷ 0x00 ∷ 0x00 ∷ 0x00 ∷ 0x01 ∷ 0x03 ∷ 0x00 ∷ 0x01 ∷ 0x00 ∷ 0x00 ∷ 0x00 ∷ 0x01
    ∷ 0x00 ∷ replicate 16 0x00

row : List ℕ
row = 10 ∷ 10 ∷ 40 ∷ 10 ∷ 10 ∷ []

-- "The row above, one iteration"
one : output job row ≡ 0x0A ∷ 0x00 ∷ 0x3C ∷ 0x00 ∷ 0x0A ∷ job
unfolding job row output stage tabulate read_record decoded legal record_of little_endian of_bits to_bits factor_of div of_int
    lt is_job filter_refusal pair_refusal layout_refusal blur_length_refusal factor_refusal iterations_refusal
    within estimate estimate_on after stepped mean window sample border_map total start_col start_row line_of from_angle mul
    rem add rounded_q16 record_fields filter_q is_factor fields_of quantized encoded bytes_of
one = refl

-- "Binomial unsharp" of the same row; its result is its job
binomial_job : List ℕ
binomial_job = 0x05 ∷ 0x00 ∷ 0x01 ∷ 0x00 ∷ 0x00 ∷ 0x00 ∷ 0x00 ∷ 0x03 ∷ replicate 24 0x00

binomial : output binomial_job row ≡ 8 ∷ 2 ∷ 59 ∷ 2 ∷ 8 ∷ binomial_job
unfolding binomial_job row output stage tabulate read_record decoded legal record_of little_endian of_bits to_bits is_job
    binomial_refusal pair_refusal layout_refusal binomial_sum tap_place sharper count record_fields filter_q
    fields_of encoded bytes_of lt
binomial = refl

-- a picture that is a pixel short gives `refused 4`
short : output job (take 4 row) ≡ 114 ∷ 101 ∷ 102 ∷ 117 ∷ 115 ∷ 101 ∷ 100 ∷ 32 ∷ 52 ∷ 10 ∷ []
unfolding job row output stage read_record decoded legal record_of little_endian of_bits to_bits factor_of div of_int lt is_job
    filter_refusal pair_refusal layout_refusal blur_length_refusal factor_refusal
    iterations_refusal within refused_text from_angle mul
short = refl

-- a record that is a byte short gives `refused 13`
no_record : output (take 31 job) row ≡ 114 ∷ 101 ∷ 102 ∷ 117 ∷ 115 ∷ 101 ∷ 100 ∷ 32 ∷ 49 ∷ 51 ∷ 10 ∷ []
unfolding job output read_record refused_text
no_record = refl

-- so does an angle without a direction, 0x7f91df46a2529d39 (document 02, K7)
undirected :
    output
    (take 16 job ++ (0x39 ∷ 0x9d ∷ 0x52 ∷ 0xa2 ∷ 0x46 ∷ 0xdf ∷ 0x91 ∷ 0x7f ∷ []) ++ replicate 8 0x00) row
    ≡ 114 ∷ 101 ∷ 102 ∷ 117 ∷ 115 ∷ 101 ∷ 100 ∷ 32 ∷ 49 ∷ 51 ∷ 10 ∷ []
unfolding job output read_record decoded legal little_endian of_bits from_angle mul refused_text
undirected = refl

-- 1,024 by 5 gives `too large`
large : output (set (set (set job 0 0) 1 4) 2 5) [] ≡ 116 ∷ 111 ∷ 111 ∷ 32 ∷ 108 ∷ 97 ∷ 114 ∷ 103 ∷ 101 ∷ 10 ∷ []
unfolding job output read_record decoded legal record_of little_endian of_bits to_bits factor_of div of_int lt is_job from_angle
    mul
large = refl
