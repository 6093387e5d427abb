-- Document 02, K3: what the writer writes.
use Rattle.std.specs.Prelude.{ℕ, zero, suc, ◌+◌, ◌/◌, ◌%◌, cond, List, Result, [], ◌∷◌, ◌++◌, ltb, length}
use Rattle.image.specs.Call.{Gray8, Decision, unless, told, map_found, room_for, FrontWrites, Outcome}
use Rattle.image.specs.declared.refusal.Refusal.{Refusal}
use Rattle.image.specs.Picture.{pixel, pixels_of}
use Rattle.image.specs.Refusal.{layout_refusal}

-- ---- "numbers without leading zeros"

-- the last k digits of n, the most significant first
unfoldable pub digits : ℕ → ℕ → List ℕ
digits zero n = []
digits (suc k) n = digits k (n / 10) ++ ((48 + n % 10) ∷ [])

-- how many a number below 10,000 has: a side has at most four
unfoldable pub digit_count : ℕ → ℕ
digit_count n = cond (ltb n 10) 1 (cond (ltb n 100) 2 (cond (ltb n 1000) 3 4))

abbrev pub decimal : ℕ → List ℕ
decimal n = digits (digit_count n) n

-- ---- "one LF behind each of the four header fields and no comment"

-- a number and an LF
abbrev pub number_line : ℕ → List ℕ
number_line n = decimal n ++ (10 ∷ [])

-- `P5`
abbrev pub magic_line : List ℕ
magic_line = 80 ∷ 53 ∷ 10 ∷ []

abbrev pub header_lines : ℕ → ℕ → List ℕ
header_lines width height = magic_line ++ number_line width ++ number_line height ++ number_line 255

-- the header, then the pixels, tight
abbrev pub pgm_bytes : Gray8 → List ℕ
pgm_bytes src =
    header_lines src.width src.height
    ++ pixels_of src.width src.height (pixel src.bytes src.stride)

-- ---- "The writer gives 5 for an output slice that is too short; otherwise it answers the length written and leaves
-- the bytes behind that unchanged", after 1 to 4 of its source

abbrev pub write_decision : Gray8 → ℕ → Decision (List ℕ)
write_decision src room =
    unless (layout_refusal (length src.bytes) src.width src.height src.stride)
    (room_for 5 room (pgm_bytes src))

-- the answer is how many bytes were written
abbrev pub PgmWritten : Gray8 → List ℕ → List ℕ → Result ℕ Refusal → Type 0
PgmWritten src old new answer =
    Outcome (write_decision src (length old)) (map_found length) FrontWrites old new (tt {0}) (tt {0}) (told answer)
