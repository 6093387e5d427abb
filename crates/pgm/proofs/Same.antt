-- The writer on sources that show the same picture: it writes the same bytes (`file_same`), and so two calls end alike,
-- whatever the slices held (`written_same`).
use Prim.Native.Nat.{ℕ}
use mathlib.Core.List.{List, ◌++◌}
use mathlib.Core.Path.{◌≡◌, refl, sym, ap, ap₂, ◌∙◌}
use lib.ListN.{length, take}
use Rattle.std.specs.Prelude.{Result}
use Rattle.image.specs.declared.refusal.Refusal.{Refusal}
use Rattle.image.specs.Call.{Gray8, accepts, unless, room_for}
use Rattle.image.specs.Picture.{pixel}
use Rattle.image.specs.Same.{SamePicture}
use Rattle.image.proofs.Front.{fronts_alike}
use Rattle.image.proofs.Accepted.{accepted}
use Rattle.image.proofs.Tight.{pixels_same}
use Rattle.image.proofs.Told.{told_one}
use Rattle.pgm.specs.Write.{header_lines, pgm_bytes, write_decision, PgmWritten}

module _ {a b : Gray8} (same : SamePicture a b) where
  pub file_same : pgm_bytes a ≡ pgm_bytes b
  file_same =
      ap (◌++◌ (header_lines a.width a.height))
      (pixels_same a.width a.height (pixel a.bytes a.stride) (pixel b.bytes b.stride)
      same.laid.width_pos same.same_pixels)
      ∙ rw (same.same_width, same.same_height) refl

  pub write_same : {n n' : ℕ} → n ≡ n' → write_decision a n ≡ write_decision b n'
  write_same {n} {n'} room =
      ap (λ (k : ℕ). unless k (room_for 5 n (pgm_bytes a))) (accepted same.laid)
      ∙ ap₂ (room_for 5) room file_same
      ∙ sym (ap (λ (k : ℕ). unless k (room_for 5 n' (pgm_bytes b))) (accepted same.laid'))

  pub written_same : {old new old' new' : List ℕ} {answer answer' : Result ℕ Refusal} → length old ≡ length old'
      → PgmWritten a old new answer → PgmWritten b old' new' answer'
      → (answer ≡ answer')
      × ((xs : List ℕ) → write_decision a (length old) ≡ accepts xs → take (length xs) new ≡ take (length xs) new')
  written_same {answer = answer} {answer'} room o o' =
      let e = fronts_alike (write_same room) o o' in
      (told_one answer answer' e.0, e.1)
