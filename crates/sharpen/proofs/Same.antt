-- The binomial unsharp on sources that show the same picture: it is refused alike (`binomial_refusal_same`), its taps
-- read pixels alone (`unsharp_same`), and so two calls end alike, whatever the old destinations and scratch hold
-- (`sharpened_same`).
use Prim.Native.Nat.{ℕ, ◌*◌, ◌<◌}
use mathlib.Core.List.{List}
use mathlib.Core.Path.{◌≡◌, ap, ap₂}
use lib.ListN.{length}
use Rattle.numbers.proofs.Sum.{count_same}
use Rattle.std.specs.Prelude.{Result}
use Rattle.image.specs.Call.{Gray8, Decision, decided, Outcome}
use Rattle.image.specs.declared.refusal.Refusal.{Refusal}
use Rattle.image.specs.Picture.{pixel}
use Rattle.image.specs.Same.{SamePicture, SameLayout, SameEnd}
use Rattle.image.proofs.Call.{decided_accepts}
use Rattle.image.proofs.Chain.{first_zero}
use Rattle.image.proofs.Pair.{laid_pair, destination_laid}
use Rattle.image.proofs.Same.{pair_same, ends_alike}
use Rattle.image.proofs.Told.{told_one}
use Rattle.sharpen.specs.Binomial.{weight, tap_place, binomial_sum, sharper, unsharp}
use Rattle.sharpen.specs.Call.{binomial_refusal, sharpen_decision, SharpenWrites, Sharpened}
use Rattle.sharpen.proofs.Binomial.{tap_lt}

-- pictures that are equal at their pixels
pub unsharp_same : (p q : ℕ → ℕ → ℕ) (w h c r : ℕ) → ((x y : ℕ) → x < w → y < h → p x y ≡ q x y) → c < w → r < h
    → unsharp p w h c r ≡ unsharp q w h c r
unfolding binomial_sum
unsharp_same p q w h c r e hc hr =
    ap₂ sharper (e c r hc hr)
    (count_same _ _ 5 λ j _. count_same _ _ 5 λ i _. ap (λ (v : ℕ). weight j * weight i * v)
    (e (tap_place w c i) (tap_place h r j) (tap_lt w c i hc) (tap_lt h r j hr)))

module _ {a b : Gray8} (same : SamePicture a b) where
  pub binomial_refusal_same : (dst_len dst_width dst_height dst_stride scratch_len : ℕ)
      → binomial_refusal (length a.bytes) a.width a.height a.stride dst_len dst_width dst_height dst_stride
      scratch_len
      ≡ binomial_refusal (length b.bytes) b.width b.height b.stride dst_len dst_width dst_height dst_stride
      scratch_len
  unfolding binomial_refusal
  binomial_refusal_same dst_len dst_width dst_height dst_stride scratch_len =
      rw (pair_same same dst_len dst_width dst_height dst_stride, same.same_width, same.same_height)

  pub sharpen_same : {dst dst' : Gray8} {n n' : ℕ} → SameLayout dst dst' → n ≡ n'
      → sharpen_decision a dst n ≡ sharpen_decision b dst' n'
  sharpen_same {dst' = dst'} {n' = n'} alike lent =
      rw (alike.same_length, alike.same_width, alike.same_height, alike.same_stride, lent)
      (ap (λ (k : ℕ). decided {R = Unit {0}} k tt)
      (binomial_refusal_same (length dst'.bytes) dst'.width dst'.height dst'.stride n'))

  -- whatever shows the decision
  pub sharpen_ends : {A : Type 0} {answers : Decision (Unit {0}) → A} {dst dst' : Gray8}
      {new new' scratch scratch₁ scratch' scratch₁' : List ℕ} {answer answer' : A} → SameLayout dst dst'
      → length scratch ≡ length scratch'
      → Outcome (sharpen_decision a dst (length scratch)) answers (SharpenWrites a dst.stride) dst.bytes new scratch scratch₁
      answer
      → Outcome (sharpen_decision b dst' (length scratch')) answers (SharpenWrites b dst'.stride) dst'.bytes new' scratch'
      scratch₁' answer'
      → SameEnd (sharpen_decision a dst (length scratch)) 0 a.width a.height dst.stride new new' answer answer'
  unfolding binomial_refusal
  sharpen_ends alike lent =
      ends_alike (λ _. unsharp (pixel a.bytes a.stride) a.width a.height)
      (λ _. unsharp (pixel b.bytes b.stride) b.width b.height) same (sharpen_same alike lent)
      alike.same_stride alike.same_length
      (λ found is. destination_laid (laid_pair (first_zero _ _ (decided_accepts _ _ found is).0).0))
      (λ _ _ c r hc hr.
      rw (← same.same_width, ← same.same_height)
      (unsharp_same (pixel a.bytes a.stride) (pixel b.bytes b.stride) a.width a.height c r
      same.same_pixels hc hr))

  pub sharpened_same : {dst dst' : Gray8} {new new' scratch scratch₁ scratch' scratch₁' : List ℕ}
      {answer answer' : Result (Unit {0}) Refusal} → SameLayout dst dst' → length scratch ≡ length scratch'
      → Sharpened a dst new scratch scratch₁ answer → Sharpened b dst' new' scratch' scratch₁' answer'
      → SameEnd (sharpen_decision a dst (length scratch)) 0 a.width a.height dst.stride new new' answer answer'
  sharpened_same {answer = answer} {answer'} alike lent o o' =
      let e = sharpen_ends alike lent o o' in
      record { same_answer = told_one answer answer' e.same_answer; same_pixels = e.same_pixels }
