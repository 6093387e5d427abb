-- What the program prints (document 01, "The 32-byte record"), as a list of bytes that the bytes of its two files give.
use Rattle.std.specs.Prelude.{◌≡◌, true, cond, List, [], ◌∷◌, ◌++◌, ℕ, ◌+◌, ◌*◌, ◌/◌, ◌%◌, ◌≤◌, ltb, length, Result}
use Rattle.image.specs.Call.{Decision, accepts, refuses, told, map_found, room_for, FrontWrites, Outcome}
use Rattle.image.specs.declared.refusal.Refusal.{Refusal}
use Rattle.image.specs.Picture.{pixels_of}
use Rattle.record.specs.Record.{record_fields, write_bytes, read_record, is_job}
use Rattle.record.specs.declared.Record.{Record}
use Rattle.smear_run.specs.Stage.{most_pixels, Made, stage}

-- ---- the texts: "both texts end in a line feed"

-- `refused N`; a number below 100
unfoldable pub refused_text : ℕ → List ℕ
refused_text n =
    114 ∷ 101 ∷ 102 ∷ 117 ∷ 115 ∷ 101 ∷ 100 ∷ 32
    ∷ cond (ltb n 10) ((48 + n % 10) ∷ 10 ∷ []) ((48 + n / 10) ∷ (48 + n % 10) ∷ 10 ∷ [])

-- `too large`
abbrev pub too_large : List ℕ
too_large = 116 ∷ 111 ∷ 111 ∷ 32 ∷ 108 ∷ 97 ∷ 114 ∷ 103 ∷ 101 ∷ 10 ∷ []

-- ---- "pixels, then the result"

-- the result's 32 bytes behind the pixels: `write` refuses no job's result (proofs/Results: `result_written`)
abbrev pub then_record : List ℕ → Record → List ℕ
then_record pixels result = pixels ++ write_bytes (record_fields result) []

abbrev pub printed : Record → Decision Made → List ℕ
printed r (accepts m) = then_record (pixels_of r.width r.height m.pixels) m.result
printed r (refuses number) = refused_text number

-- ---- "A record that is no job gives 13; next, width × height above 4,096 prints `too large`; a refusal prints
-- `refused N`."

unfoldable pub job_output : Record → List ℕ → List ℕ
job_output r picture =
    cond (is_job r) (cond (ltb most_pixels (r.width * r.height)) too_large (printed r (stage r picture)))
    (refused_text 13)

abbrev pub output_of : Decision Record → List ℕ → List ℕ
output_of (accepts r) picture = job_output r picture
output_of (refuses number) picture = refused_text number

unfoldable pub output : List ℕ → List ℕ → List ℕ
unfolding job_output
output job picture = output_of (read_record job) picture

-- "surplus picture bytes are ignored", where the picture holds all pixels that are read for this job. One that is too
-- short gives 4, and is longer with surplus bytes.
abbrev pub Whole : List ℕ → List ℕ → Type 0
Whole job picture =
    (r : Record) → read_record job ≡ accepts r → is_job r ≡ true → r.width * r.height ≤ most_pixels
    → r.width * r.height ≤ length picture

-- ---- the call

-- what is printed, or 10 where there is no room for it
abbrev pub run_decision : ℕ → List ℕ → Decision (List ℕ)
run_decision room xs = room_for 10 room xs

-- a call answers how many bytes are printed
abbrev pub Ran : List ℕ → List ℕ → List ℕ → List ℕ → Result ℕ Refusal → Type 0
Ran job picture old new answer =
    Outcome (run_decision (length old) (output job picture)) (map_found length) FrontWrites old new (tt {0}) (tt {0})
    (told answer)
