-- The contract of the binomial unsharp determines the answer and every byte of the destination.
use Prim.Native.Nat.{ℕ}
use lib.ListN.{length}
use Rattle.image.specs.Call.{Gray8, told, same}
use Rattle.image.specs.Picture.{pixel}
use Rattle.image.specs.Determined.{WritesOne, Determines}
use Rattle.image.proofs.Determined.{outcome_determines, painted_one}
use Rattle.image.proofs.Told.{told_one}
use Rattle.sharpen.specs.Binomial.{unsharp}
use Rattle.sharpen.specs.Call.{sharpen_decision, SharpenWrites, Sharpened}

pub sharpen_one : (src : Gray8) (dst_stride : ℕ) → WritesOne (SharpenWrites src dst_stride)
sharpen_one src =
    painted_one 0 (λ _. unsharp (pixel src.bytes src.stride) src.width src.height) src.width
    src.height

pub sharpened_determined : (src dst : Gray8)
    → Determines length (λ scratch scratch' new answer. Sharpened src dst new scratch scratch' answer)
sharpened_determined src dst scratch scratch' other other' new new' answer answer' e o p =
    let d = outcome_determines length (sharpen_decision src dst) same (SharpenWrites src dst.stride)
    (sharpen_one src dst.stride) dst.bytes scratch scratch' other other' new new' (told answer) (told answer') e o p in
    (told_one answer answer' d.0, d.1)
