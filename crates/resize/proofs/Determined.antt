-- The contracts of the two calls determine the answer and every byte of the destination.
use Prim.Native.Nat.{ℕ, ◌/◌}
use lib.ListN.{length}
use Rattle.image.specs.Call.{Gray8, told, same}
use Rattle.image.specs.Determined.{WritesOne, Determines}
use Rattle.image.specs.Picture.{pixel}
use Rattle.image.proofs.Determined.{outcome_determines, painted_one}
use Rattle.image.proofs.Told.{told_one}
use Rattle.resize.specs.Call.{box_decision, BoxWrites, BoxHalved}
use Rattle.resize.specs.Call.{halve_decision, HalveWrites, Halved}
use Rattle.resize.specs.Halving.{halved, halved_times, side_after}

pub box_one : (src : Gray8) (dst_stride : ℕ) → WritesOne (BoxWrites src dst_stride)
box_one src = painted_one 0 (λ _. halved (pixel src.bytes src.stride)) (src.width / 2) (src.height / 2)

pub box_determined : (src dst : Gray8)
    → Determines {S = Unit {0}} (λ s. s) (λ _ _ new answer. BoxHalved src dst new answer)
box_determined src dst _ _ _ _ new new' answer answer' e o p =
    let d = outcome_determines (λ s. s) (λ _. box_decision src dst) same (BoxWrites src dst.stride)
    (box_one src dst.stride) dst.bytes tt tt tt tt new new' (told answer) (told answer') e o p in
    (told_one answer answer' d.0, d.1)

pub halve_one : (count : ℕ) (src : Gray8) (dst_stride : ℕ) → WritesOne (HalveWrites count src dst_stride)
halve_one count src =
    painted_one 0 (λ _. halved_times count (pixel src.bytes src.stride)) (side_after count src.width)
    (side_after count src.height)

pub halve_determined : (count : ℕ) (src dst : Gray8)
    → Determines length (λ scratch scratch' new answer. Halved count src dst new scratch scratch' answer)
halve_determined count src dst scratch scratch' other other' new new' answer answer' e o p =
    let d = outcome_determines length (halve_decision count src dst) same (HalveWrites count src dst.stride)
    (halve_one count src dst.stride) dst.bytes scratch scratch' other other' new new' (told answer) (told answer') e o p in
    (told_one answer answer' d.0, d.1)
