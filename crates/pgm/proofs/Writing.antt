-- What the writer answers and leaves, case by case.
use Prim.Native.Nat.{ℕ, ◌+◌, ◌-◌, ◌*◌, ◌≤◌, ◌<◌}
use native.Mathlib.Omega.{arith}
use mathlib.Core.List.{List, ◌++◌}
use mathlib.Core.Path.{◌≡◌, refl, sym, ap, ◌∙◌}
use lib.ListN.{length, take, drop, length-append}
use Rattle.std.proofs.Common.{Ok, Err}
use Rattle.image.specs.Call.{Gray8, Decision, accepts, refuses, unless, room_for, FrontWrites, Appended}
use Rattle.image.specs.Call.{number_of, number_of_refusal, map_found}
use Rattle.image.specs.Picture.{pixel, pixels_of}
use Rattle.image.specs.Refusal.{layout_refusal}
use Rattle.image.proofs.Appending.{appended_then, appended_front, front_put, part_put}
use Rattle.image.proofs.Call.{accepts_not_refuses, outcome_refused, outcome_accepted}
use Rattle.image.proofs.Front.{room_short, room_whole}
use Rattle.image.proofs.Tight.{length_pixels}
use Rattle.pgm.specs.Write.{header_lines, pgm_bytes, write_decision, PgmWritten}
use Rattle.image.specs.declared.refusal.Refusal.{Refusal}
use Rattle.image.specs.declared.refusal.Refusal.TheVariants.{InvalidDestination}

map_refuses : {R T : Type 0} (f : R → T) (d : Decision R) {k : ℕ} → map_found f d ≡ refuses k → d ≡ refuses k
map_refuses f (accepts r) e = absurd (accepts_not_refuses e)
map_refuses f (refuses n) e = ap refuses (ap number_of e)

pub length_file : (src : Gray8)
    → length (pgm_bytes src) ≡ length (header_lines src.width src.height) + src.width * src.height
length_file src =
    length-append (header_lines src.width src.height) (pixels_of src.width src.height (pixel src.bytes
    src.stride))
    ∙ ap (λ (n : ℕ). length (header_lines src.width src.height) + n)
    (length_pixels src.width src.height (pixel src.bytes src.stride))

module _ (src : Gray8) (old : List ℕ) where
  abbrev refusal : ℕ
  refusal = layout_refusal (length src.bytes) src.width src.height src.stride

  module _ (laid : refusal ≡ 0) {start e : ℕ} (at : start ≡ length (header_lines src.width src.height))
      (end : e ≡ start + src.width * src.height) where
    all : e ≡ length (pgm_bytes src)
    all = end ∙ ap (λ (n : ℕ). n + src.width * src.height) at ∙ sym (length_file src)

    taken : {d : Decision (List ℕ)} → room_for 5 (length old) (pgm_bytes src) ≡ d → write_decision src (length old) ≡ d
    taken is = ap (λ (n : ℕ). unless n (room_for 5 (length old) (pgm_bytes src))) laid ∙ is

    pub write_short : length old < e → PgmWritten src old old (Err InvalidDestination)
    write_short h =
        outcome_refused (map_found length) FrontWrites old tt 5
        (taken (room_short 5 (pgm_bytes src) (rw all at h))) refl

    -- the header, then the pixels in a part that has come back as ys
    pub write_whole : {mid ys : List ℕ} → e ≤ length old
        → mid ≡ header_lines src.width src.height ++ drop (length (header_lines src.width src.height)) old
        → ys ≡ pixels_of src.width src.height (pixel src.bytes src.stride)
        → PgmWritten src old (take start mid ++ (ys ++ drop (e - start) (drop start mid))) (Ok e)
    write_whole {mid} {ys} h m p =
        let l : length ys ≡ e - start =
        ap length p ∙ length_pixels src.width src.height (pixel src.bytes src.stride) ∙ omega arith in
        let header : Appended (header_lines src.width src.height) 0 old mid start = front_put at m in
        let pixels = part_put start e mid ys (omega arith) l in
        outcome_accepted (map_found length) FrontWrites old tt (pgm_bytes src) _ tt
        (taken (room_whole 5 (pgm_bytes src) (rw all at h))) (ap accepts all)
        (appended_front (appended_then (omega arith) header pixels)
        ∙ ap (λ (zs : List ℕ). header_lines src.width src.height ++ zs
        ++ drop (length (header_lines src.width src.height ++ zs)) old) p)

-- a refusal leaves the slice as it was
pub refused_kept : (src : Gray8) {old new : List ℕ} (r : Refusal) → PgmWritten src old new (Err r) → new ≡ old
refused_kept src {old} r o =
    o.dst_kept (number_of_refusal r) (map_refuses length (write_decision src (length old)) (sym o.answered))
