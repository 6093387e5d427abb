-- Each number of the reader and of the writer is given in its condition and otherwise never (`read_exactly`,
-- `write_exactly`).
use Prim.Native.Nat.{ℕ, ◌*◌, ◌<◌}
use mathlib.Core.Bool.{Bool, true, false, ◌||◌, cond}
use mathlib.Core.List.{List, [], ◌∷◌}
use mathlib.Core.Logic.Iff
use mathlib.Core.Logic.{◌⊎◌, inl, inr, ◌↔◌}
use mathlib.Core.Path.{◌≡◌, refl, sym, ap, subst, ◌∙◌}
use lib.Dec.{eqb}
use lib.ListN.{length, drop}
use Rattle.numbers.proofs.Test.{eqb_iff, ltb_iff, or_iff, false_iff}
use Rattle.image.specs.Call.{Gray8, Decision, accepts, refuses, and_then, decided, number_of, room_for}
use Rattle.image.specs.Conditions.{given, FirstMatch, Exactly}
use Rattle.image.specs.Refusal.{max_side, sides_refusal}
use Rattle.image.proofs.Call.{accepts_not_refuses, number_decided}
use Rattle.image.proofs.Conditions.{exactly, match_none, match_test, match_unless, match_then, match_unless_decided}
use Rattle.image.proofs.Conditions.{layout_matches, layout_numbered}
use Rattle.image.proofs.Front.{room_matches}
use Rattle.pgm.specs.Form.{is_white, value_of}
use Rattle.pgm.specs.Conditions.{Headed, width_of, height_of, maximum_of, read_conditions, write_conditions}
use Rattle.pgm.specs.Read.{behind_gaps, digits_of, behind_digits, HeaderRead, is_marked, read_field, read_last}
use Rattle.pgm.specs.Read.{read_header, picture_refusal, picture_in, read_decision}
use Rattle.pgm.specs.Write.{pgm_bytes, write_decision}
use Rattle.pgm.proofs.Parsed.{header_found}
use Rattle.pgm.proofs.Printed.{as_read, header_read}

-- ---- a header is refused with 14 alone

-- a decision that refuses with no other number
pub record Broken {R : Type 0} (d : Decision R) : Type 0 where
  pub number : (n : ℕ) → d ≡ refuses n → n ≡ 14

broken_not : {R : Type 0} (found : R) → Broken (accepts found)
broken_not found = record { number = λ n e. absurd (accepts_not_refuses e) }

broken_14 : {R : Type 0} → Broken {R = R} (refuses 14)
broken_14 = record { number = λ n e. sym (ap number_of e) }

broken_cond : {R : Type 0} (t : Bool) {d e : Decision R} → Broken d → Broken e → Broken (cond t d e)
broken_cond true b c = b
broken_cond false b c = c

broken_then : {Q R : Type 0} {d : Decision Q} {next : Q → Decision R} → Broken d → ((q : Q) → Broken (next q))
    → Broken (and_then d next)
broken_then {d = accepts q} b c = c q
broken_then {d = refuses n} b c = record { number = λ k e. b.number k (ap refuses (ap number_of e)) }

field_broken : (xs : List ℕ) → Broken (read_field xs)
unfolding read_field
field_broken xs =
    let ys = behind_gaps false xs in
    broken_cond (eqb (length ys) (length xs) || eqb (length (digits_of ys)) 0) broken_14
    (broken_not (record { value = value_of (digits_of ys); rest = behind_digits ys }))

last_broken : (w h m : ℕ) (xs : List ℕ) → Broken (read_last w h m xs)
last_broken w h m [] = broken_14
last_broken w h m (b ∷ bs) = broken_cond (is_white b) (broken_not _) broken_14

header_broken : (file : List ℕ) → Broken (read_header file)
unfolding read_header
header_broken file =
    broken_cond (is_marked file)
    (broken_then (field_broken (drop 2 file)) λ w.
    broken_then (field_broken w.rest) λ h.
    broken_then (field_broken h.rest) λ m.
    last_broken w.value h.value m.value m.rest)
    broken_14

-- ---- a header's numbers are those of any form that the file has

module _ (file : List ℕ) (r : HeaderRead) (read : read_header file ≡ accepts r) where
  mine : Headed file
  mine = let k = header_found file r read in record { header = k.header; pixels = r.pixels; formed = k.formed }

  same : (f : Headed file) → as_read f.formed ≡ r
  same f = let e = sym (header_read f.formed) ∙ read in cc

  headed-iff : (P : HeaderRead → Type 0) → P r ↔ ((f : Headed file) × P (as_read f.formed))
  headed-iff P = (λ p. (mine, subst P (sym (same mine)) p), λ k. subst P (same k.0) k.1)

  picture-matches : FirstMatch
      (given 1 ((f : Headed file) × ((width_of f ≡ 0) ⊎ (height_of f ≡ 0)))
      ∷ given 2 ((f : Headed file) × ((max_side < width_of f) ⊎ (max_side < height_of f)))
      ∷ given 15 ((f : Headed file) × (maximum_of f ≡ 255 → ⊥))
      ∷ given 16 ((f : Headed file) × (length f.pixels ≡ width_of f * height_of f → ⊥))
      ∷ [])
      (picture_refusal r.width r.height r.maximum (length r.pixels))
  unfolding picture_refusal sides_refusal
  picture-matches =
      match_then
      (match_test 1
      (match_test 2 match_none
      (Iff.trans (or_iff _ _ (ltb_iff max_side r.width) (ltb_iff max_side r.height))
      (headed-iff (λ q. (max_side < q.width) ⊎ (max_side < q.height)))))
      (Iff.trans (or_iff _ _ (eqb_iff r.width 0) (eqb_iff r.height 0))
      (headed-iff (λ q. (q.width ≡ 0) ⊎ (q.height ≡ 0)))))
      (tt, (tt, tt))
      (match_unless 15
      (match_unless 16 match_none
      (Iff.trans (false_iff _ (eqb_iff (length r.pixels) (r.width * r.height)))
      (headed-iff (λ q. length q.pixels ≡ q.width * q.height → ⊥))))
      (Iff.trans (false_iff _ (eqb_iff r.maximum 255)) (headed-iff (λ q. q.maximum ≡ 255 → ⊥))))

-- ---- the calls

pub read_exactly : (file : List ℕ) → Exactly (read_conditions file) (number_of (read_decision file))
unfolding read_decision
read_exactly file = exactly (go (read_header file) refl)
  where
    go : (d : Decision HeaderRead) → read_header file ≡ d
        → FirstMatch (read_conditions file) (number_of (and_then d (λ h.
        decided (picture_refusal h.width h.height h.maximum (length h.pixels)) (picture_in file h))))
    go (accepts r) is =
        record {
          matches = inr (
            λ none. none (mine file r is),
            (subst (FirstMatch _) (sym (number_decided _ (picture_in file r))) (picture-matches file r is)).matches,
          );
        }
    go (refuses n) is =
        record {
          matches = inl (
            λ f. accepts_not_refuses (sym (header_read f.formed) ∙ is),
            (header_broken file).number n is,
          );
        }

pub write_exactly : (src : Gray8) (room : ℕ) → Exactly (write_conditions src room) (number_of (write_decision src room))
write_exactly src room =
    exactly
    (match_unless_decided (layout_matches (length src.bytes) src.width src.height src.stride)
    (layout_numbered (length src.bytes) src.width src.height src.stride)
    (room_for 5 room (pgm_bytes src)) (room_matches 5 room (pgm_bytes src)))
