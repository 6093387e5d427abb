-- The contract of the binomial unsharp.
use Rattle.std.specs.Prelude.{ℕ, ◌*◌, cond, List, Result, ltb, length}
use Rattle.numbers.specs.Written.{Painted}
use Rattle.image.specs.Call.{Gray8, Decision, decided, told, same, Outcome}
use Rattle.image.specs.declared.refusal.Refusal.{Refusal}
use Rattle.image.specs.Refusal.{first_refusal, pair_refusal}
use Rattle.image.specs.Picture.{pixel}
use Rattle.sharpen.specs.Binomial.{unsharp}

-- how many u16 the call asks as scratch
abbrev pub binomial_scratch : ℕ → ℕ → ℕ
binomial_scratch width height = width * height

-- Document 01, "Refusals, first match wins": 1 to 6, then 10 where scratch is too short. 0 is no refusal.
unfoldable pub binomial_refusal : ℕ → ℕ → ℕ → ℕ → ℕ → ℕ → ℕ → ℕ → ℕ → ℕ
binomial_refusal len width height stride dst_len dst_width dst_height dst_stride scratch_len =
    first_refusal (pair_refusal len width height stride dst_len dst_width dst_height dst_stride)
    (cond (ltb scratch_len (binomial_scratch width height)) 10 0)

abbrev pub sharpen_decision : Gray8 → Gray8 → ℕ → Decision (Unit {0})
sharpen_decision src dst scratch_len =
    decided
    (binomial_refusal (length src.bytes) src.width src.height src.stride (length dst.bytes)
    dst.width dst.height
    dst.stride scratch_len)
    tt

-- each pixel of the destination is the mask's there
abbrev pub SharpenWrites : Gray8 → ℕ → Unit {0} → List ℕ → List ℕ → Type 0
SharpenWrites src dst_stride found old new =
    Painted 0 (unsharp (pixel src.bytes src.stride) src.width src.height) src.width
    src.height dst_stride old new

-- a call on a source, with a destination and what it is after, and the scratch before and after
abbrev pub Sharpened : Gray8 → Gray8 → List ℕ → List ℕ → List ℕ → Result (Unit {0}) Refusal → Type 0
Sharpened src dst new scratch scratch' answer =
    Outcome (sharpen_decision src dst (length scratch)) same (SharpenWrites src dst.stride)
    dst.bytes new scratch scratch' (told answer)
