-- Document 02, K5: an accepted picture's longest line has no more pixels than the picture (`needed_less`), so that a
-- call which did not answer 10 decides what it did (`filter_as_before`, `estimate_as_before`), and ends as it did
-- (`filtered_as_before`, `estimates_as_before`).
use Prim.Native.Nat.{ℕ, zero, suc, ◌*◌, ◌≤◌}
use native.Mathlib.Nat.{mul_comm, le_trans}
use native.Mathlib.Omega.{arith}
use mathlib.Core.Bool.{Bool, true, false, ◌||◌}
use mathlib.Core.List.{List}
use mathlib.Core.Path.{◌≡◌, refl, sym, ap, subst, ◌∙◌}
use lib.Dec.{ltb}
use lib.IntN.{ℤ}
use lib.ListN.{length}
use borrow.Author.Tests.{le-ltb, ltb-false}
use Rattle.numbers.proofs.Nat.{le_mul_of_pos_left}
use Rattle.numbers.proofs.Test.{or_false_intro, or_false_left, or_false_right}
use Rattle.image.specs.Call.{Gray8, Decision, refuses, decided, told, map_found, Outcome}
use Rattle.image.proofs.Told.{told_one}
use Rattle.image.specs.Determined.{WritesOne}
use Rattle.image.specs.Refusal.{layout_refusal, pair_refusal, Laid}
use Rattle.image.proofs.Determined.{outcome_determines}
use Rattle.image.proofs.Accepted.{laid}
use Rattle.image.proofs.Pair.{laid_pair}
use Rattle.std.specs.Prelude.{Option, Some, None, Result, Err}
use Rattle.raster.specs.declared.direction.RasterDirection4.{RasterDirection4}
use Rattle.image.specs.declared.refusal.Refusal.{Refusal}
use Rattle.image.specs.declared.refusal.Refusal.TheVariants.{LentTooSmall}
use Rattle.deblur.specs.declared.RestorationMetadata.{RestorationMetadata}
use Rattle.deblur.specs.Before.{
  scratch_before,
  filter_decision_before,
  FilteredBefore,
  estimate_decision_before,
  EstimateWrittenBefore,
  AsBefore,
}
use Rattle.deblur.specs.Calls.{
  metadata_of,
  decided_along,
  filter_decision,
  FilterWrites,
  Filtered,
  estimate_decision,
  EstimateWrites,
  EstimateWritten,
}
use Rattle.deblur.specs.Refusal.{scratch_needed, in_order, filter_refusal, estimate_refusal}
use Rattle.deblur.specs.Settings.{LineFilter}
use Rattle.deblur.proofs.Determined.{filter_one, estimate_one}

-- ---- what is asked is no more than it was

pub needed_less : {len w h stride : ℕ} → Laid len w h stride → scratch_needed w h ≤ scratch_before w h
needed_less {w = w} {h = h} l =
    let wide : w ≤ w * h = rw (mul_comm w h) (le_mul_of_pos_left w l.height_pos) in
    let high : h ≤ w * h = le_mul_of_pos_left h l.width_pos in
    omega arith

-- scratch that was long enough is
pub long_enough : {len w h stride : ℕ} → Laid len w h stride → (n : ℕ) → ltb n (scratch_before w h) ≡ false
    → ltb n (scratch_needed w h) ≡ false
long_enough l n e = le-ltb n _ (le_trans (needed_less l) (ltb-false n _ e))

-- ---- the number

-- where what is lent was long enough and so is, a number that was not 10 is the same
pub order_as_before : (pictures settings : ℕ) (was is : Bool) → (pictures ≡ 0 → was ≡ false → is ≡ false)
    → (in_order pictures settings was ≡ 10 → ⊥) → in_order pictures settings is ≡ in_order pictures settings was
order_as_before (suc pictures) settings was is h other = refl
order_as_before zero (suc settings) was is h other = refl
order_as_before zero zero true is h other = absurd (other refl)
order_as_before zero zero false is h other = rw (h refl refl) refl

-- ---- a contract that is an outcome

module _ {R A D S N : Type 0} (size : S → N) (was is : N → Decision R) (answers : Decision R → A)
    (writes : R → D → D → Type 0) (one : WritesOne writes) (old : D) (ten : A)
    (same : (n : N) → (answers (was n) ≡ ten → ⊥) → is n ≡ was n) where
  pub outcome_as_before : AsBefore size ten
      (λ scratch scratch' new answer. Outcome (was (size scratch)) answers writes old new scratch scratch' answer)
      (λ scratch scratch' new answer. Outcome (is (size scratch)) answers writes old new scratch scratch' answer)
  outcome_as_before scratch scratch' other other' new new' answer answer' e not-ten o p =
      let d = same (size scratch) (λ z. not-ten (o.answered ∙ z)) in
      outcome_determines size is answers writes one old scratch scratch' other other' new new' answer answer' e
      (subst (λ (d : Decision R). Outcome d answers writes old new scratch scratch' answer) (sym d) o) p

-- .. of an answer that is told
module _ {R A D S N : Type 0} (size : S → N) (was is : N → Decision R) (answers : Decision R → Decision A)
    (writes : R → D → D → Type 0) (one : WritesOne writes) (old : D) (ten : Refusal)
    (same : (n : N) → (answers (was n) ≡ told (Err ten) → ⊥) → is n ≡ was n) where
  pub told_as_before : AsBefore size (Err ten)
      (λ scratch scratch' new (answer : Result A Refusal). Outcome (was (size scratch)) answers writes old new scratch
      scratch' (told answer))
      (λ scratch scratch' new answer. Outcome (is (size scratch)) answers writes old new scratch scratch' (told answer))
  told_as_before scratch scratch' other other' new new' answer answer' e not-ten o p =
      let both = outcome_as_before size was is answers writes one old (told (Err ten)) same scratch scratch' other other'
      new new' (told answer) (told answer') e (λ z. not-ten (told_one answer (Err ten) z)) o p
      in
      (told_one answer answer' both.0, both.1)

-- ---- restoration and line unsharp

-- the answer 10 of a call that decides by a number
abbrev ten : Decision RestorationMetadata
ten = refuses 10

ten_answered : {n : ℕ} (s : Option RasterDirection4) → n ≡ 10 → map_found metadata_of (decided_along n s) ≡ ten
ten_answered (Some d) e = ap (λ (n : ℕ). map_found metadata_of (decided n d)) e
ten_answered None e = ap (λ (n : ℕ). map_found metadata_of (refuses n)) e

module _ (src : Gray8) (f : LineFilter) where
  abbrev w : ℕ
  w = src.width

  abbrev h : ℕ
  h = src.height

  -- the number of a call whose pictures have a refusal, where what is lent was and is too short by a test each
  same_number : (pictures : ℕ) (was is : Bool) → (pictures ≡ 0 → was ≡ false → is ≡ false)
      → (map_found metadata_of (decided_along (in_order pictures (f.refusal w h) was) f.direction) ≡ ten → ⊥)
      → decided_along (in_order pictures (f.refusal w h) is) f.direction
      ≡ decided_along (in_order pictures (f.refusal w h) was) f.direction
  same_number pictures was is enough not-ten =
      ap (λ (k : ℕ). decided_along k f.direction)
      (order_as_before pictures (f.refusal w h) was is enough (λ e. not-ten (ten_answered f.direction e)))

  module _ (dst : Gray8) where
    pub filter_as_before : (n : ℕ) → (map_found metadata_of (filter_decision_before src dst f n) ≡ ten → ⊥)
        → filter_decision src dst f n ≡ filter_decision_before src dst f n
    unfolding filter_refusal
    filter_as_before n =
        same_number
        (pair_refusal (length src.bytes) w h src.stride (length dst.bytes) dst.width dst.height
        dst.stride) (ltb n (scratch_before w h)) (ltb n (scratch_needed w h))
        (λ e. let l : Laid (length src.bytes) w h src.stride = (laid_pair e).source in long_enough l n)

    pub filtered_as_before : AsBefore length (Err LentTooSmall)
        (λ scratch scratch' new answer. FilteredBefore src dst new f scratch scratch' answer)
        (λ scratch scratch' new answer. Filtered src dst new f scratch scratch' answer)
    filtered_as_before =
        told_as_before length (filter_decision_before src dst f) (filter_decision src dst f) (map_found metadata_of)
        (FilterWrites src dst.stride f.kernel) (filter_one src dst.stride f.kernel) dst.bytes
        LentTooSmall filter_as_before

  -- ---- the estimate call

  module _ (old : List ℤ) where
    abbrev dst-short : Bool
    dst-short = ltb (length old) (w * h)

    pub estimate_as_before : (n : ℕ)
        → (map_found metadata_of (estimate_decision_before src (length old) f n) ≡ ten → ⊥)
        → estimate_decision src (length old) f n ≡ estimate_decision_before src (length old) f n
    unfolding estimate_refusal
    estimate_as_before n =
        same_number (layout_refusal (length src.bytes) w h src.stride) (dst-short || ltb n (scratch_before w h))
        (dst-short || ltb n (scratch_needed w h))
        (λ e short. or_false_intro (or_false_left dst-short (ltb n (scratch_before w h)) short)
        (long_enough (laid e) n (or_false_right dst-short (ltb n (scratch_before w h)) short)))

    pub estimates_as_before : AsBefore length (Err LentTooSmall)
        (λ scratch scratch' new answer. EstimateWrittenBefore src old new f scratch scratch' answer)
        (λ scratch scratch' new answer. EstimateWritten src old new f scratch scratch' answer)
    estimates_as_before =
        told_as_before length (estimate_decision_before src (length old) f) (estimate_decision src (length old) f)
        (map_found metadata_of) (EstimateWrites src f.kernel) (estimate_one src f.kernel) old LentTooSmall
        estimate_as_before
