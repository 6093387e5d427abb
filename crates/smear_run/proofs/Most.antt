-- The program never prints more than 4,128 bytes: `run` with that much room never refuses.
use mathlib.Core.Bool.{Bool, true, false, cond}
use mathlib.Core.List.{List, [], ◌∷◌}
use Prim.Native.Nat.{ℕ, ◌+◌, ◌*◌, ◌/◌, ◌%◌, ◌≤◌}
use native.Mathlib.Omega.{arith}
use borrow.Author.Tests.{ltb-true, ltb-false}
use lib.Dec.{ltb, lit≤}
use lib.ListN.{length, length-append}
use Rattle.numbers.proofs.Test.{by_test}
use Rattle.image.specs.Call.{Decision, accepts, refuses}
use Rattle.image.specs.Picture.{pixels_of}
use Rattle.image.proofs.Tight.{length_pixels}
use Rattle.record.specs.Record.{record_fields, write_bytes, read_record, is_job}
use Rattle.record.specs.declared.Record.{Record}
use Rattle.record.proofs.Answer.{record_bytes_most}
use Rattle.smear_run.specs.Stage.{Made, stage}
use Rattle.smear_run.specs.Output.{refused_text, printed, job_output, output_of, output}
use Rattle.smear_run.proofs.Printed.{no_job, of_large, of_stage}

text_most : (n : ℕ) → length (refused_text n) ≤ 4128
unfolding refused_text
text_most n = go (ltb n 10)
  where
    go : (b : Bool) → length (114 ∷ 101 ∷ 102 ∷ 117 ∷ 115 ∷ 101 ∷ 100 ∷ 32
        ∷ cond b ((48 + n % 10) ∷ 10 ∷ []) ((48 + n / 10) ∷ (48 + n % 10) ∷ 10 ∷ [])) ≤ 4128
    go true = lit≤ tt
    go false = lit≤ tt

printed_most : (r : Record) (d : Decision Made) → r.width * r.height ≤ 4096 → length (printed r d) ≤ 4128
printed_most r (refuses number) h = text_most number
printed_most r (accepts m) h =
    let l = length-append (pixels_of r.width r.height m.pixels) (write_bytes (record_fields m.result) []) in
    let p = length_pixels r.width r.height m.pixels in
    let b = record_bytes_most m.result in
    omega arith

job_most : (r : Record) (picture : List ℕ) → length (job_output r picture) ≤ 4128
job_most r picture =
    by_test (is_job r)
    (λ j.
    by_test (ltb 4096 (r.width * r.height)) (λ t. rw (of_large r picture j (ltb-true 4096 _ t)) (lit≤ tt))
    (λ t. let h = ltb-false 4096 (r.width * r.height) t in rw (of_stage r picture j h)
    (printed_most r (stage r picture) h)))
    (λ j. rw (no_job r picture j) (text_most 13))

pub output_most : (job picture : List ℕ) → length (output job picture) ≤ 4128
unfolding output
output_most job picture = go (read_record job)
  where
    go : (z : Decision Record) → length (output_of z picture) ≤ 4128
    go (accepts r) = job_most r picture
    go (refuses number) = text_most number
