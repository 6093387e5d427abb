-- When a call along lines is given which number, and what it is to be accepted.
use Prim.Native.Nat.{ℕ, zero, suc, ◌*◌, ◌%◌, ◌<◌}
use native.Mathlib.Nat.{pos_of_ne-zero, zero-lt-suc}
use native.Mathlib.Omega.{arith}
use mathlib.Core.Bool.{Bool, true, false, not, ◌||◌, or-true}
use mathlib.Core.Logic.{◌⊎◌, inl, inr, ⊎_elim}
use mathlib.Core.Path.{◌≡◌, refl, sym, ap}
use lib.Dec.{eqb, ltb}
use lib.Ieee.{Float}
use borrow.Author.Tests.{eq-eqb, ne_eqb, lt-ltb, le-ltb, eqb-false, ltb-false, not-false}
use Rattle.numbers.proofs.Nat.{even_or_odd}
use Rattle.numbers.proofs.Test.{or_false_intro, or_false_left, or_false_right}
use Rattle.floats.specs.Factor.{max_relaxation, max_gain, within}
use Rattle.image.specs.Call.{decided}
use Rattle.image.specs.Refusal.{layout_refusal, pair_refusal, first_refusal}
use Rattle.image.proofs.Chain.{cond_zero, cond_left, first_zero, first_own}
use Rattle.image.proofs.Accepted.{laid, accepted}
use Rattle.image.proofs.Pair.{laid_pair}
use Rattle.std.specs.Prelude.{is_some}
use Rattle.raster.specs.Direction.{from_angle, angle_refusal}
use Rattle.line.specs.Kernel.{max_iterations, max_blur_length}
use Rattle.deblur.specs.declared.DirectionalUnsharpConfig.{DirectionalUnsharpConfig}
use Rattle.deblur.specs.declared.VanCittertConfig.{VanCittertConfig}
use Rattle.deblur.specs.Refusal.{blur_length_refusal, factor_refusal, iterations_refusal}
use Rattle.deblur.specs.Refusal.{iterated_refusal, scratch_needed}
use Rattle.deblur.specs.Refusal.{line_refusal, restoration_refusal, unsharp_refusal, scratch_short, lent_refusal}
use Rattle.deblur.specs.Refusal.{in_order, filter_refusal, estimate_refusal, LengthTaken, IterationsTaken}
use Rattle.deblur.specs.Refusal.{RestorationTaken, UnsharpTaken, FilterAccepted, EstimateAccepted}

-- a check's answer, by its number
pub told_by : {n number : ℕ} → n ≡ number → decided {R = Unit {0}} number tt ≡ decided n tt
told_by e = ap (λ (k : ℕ). decided {R = Unit {0}} k tt) (sym e)

-- ---- 7, the blur length

module _ (width height L : ℕ) where
  abbrev long : Bool
  long = ltb (max_blur_length width height) L

  pub blur_length_7 : (L < 3) ⊎ ((L % 2 ≡ 0) ⊎ (max_blur_length width height < L)) → blur_length_refusal width height L ≡ 7
  unfolding blur_length_refusal
  blur_length_7 (inl h) = simp (lt-ltb L 3 h)
  blur_length_7 (inr (inl e)) = simp (eq-eqb (L % 2) 0 e, or-true)
  blur_length_7 (inr (inr h)) = simp (lt-ltb (max_blur_length width height) L h, or-true)

  pub blur_length_0 : LengthTaken width height L → blur_length_refusal width height L ≡ 0
  unfolding blur_length_refusal
  blur_length_0 t =
      let odd = t.odd in
      simp
      (or_false_intro (or_false_intro (le-ltb L 3 t.least) (ne_eqb (L % 2) 0 (λ z. omega arith)))
      (le-ltb (max_blur_length width height) L t.most))

  pub length_taken : blur_length_refusal width height L ≡ 0 → LengthTaken width height L
  unfolding blur_length_refusal
  length_taken e =
      let short = ltb L 3 in
      let even = eqb (L % 2) 0 in
      let a = (cond_zero _ 7 _ (zero-lt-suc 6) e).0 in
      let b = or_false_left (short || even) long a in
      record {
        least = ltb-false L 3 (or_false_left short even b);
        odd = ⊎_elim (λ z. absurd (eqb-false (L % 2) 0 (or_false_right short even b) z)) (λ odd. odd) (even_or_odd L);
        most = ltb-false (max_blur_length width height) L (or_false_right (short || even) long a);
      }

-- ---- 8, a factor

module _ (limit : ℕ) (factor : Float) where
  pub factor_8 : within limit factor ≡ false → factor_refusal limit factor ≡ 8
  unfolding factor_refusal
  factor_8 e = rw e

  pub factor_0 : within limit factor ≡ true → factor_refusal limit factor ≡ 0
  unfolding factor_refusal
  factor_0 e = rw e

  pub factor_taken : factor_refusal limit factor ≡ 0 → within limit factor ≡ true
  unfolding factor_refusal
  factor_taken e =
      not-false (within limit factor) (cond_zero (not (within limit factor)) 8 0 (zero-lt-suc 7) e).0

-- ---- 8 and 9, the iterations

module _ (iterations : ℕ) where
  pub iterations_8 : iterations ≡ 0 → iterations_refusal iterations ≡ 8
  unfolding iterations_refusal
  iterations_8 e = simp (eq-eqb iterations 0 e)

  pub iterations_9 : max_iterations < iterations → iterations_refusal iterations ≡ 9
  unfolding iterations_refusal
  iterations_9 h = simp (ne_eqb iterations 0 (λ z. omega arith), lt-ltb max_iterations iterations h)

  pub iterations_0 : IterationsTaken iterations → iterations_refusal iterations ≡ 0
  unfolding iterations_refusal
  iterations_0 t =
      let least = t.least in
      simp (ne_eqb iterations 0 (λ z. omega arith), le-ltb max_iterations iterations t.most)

  pub iterations_taken : iterations_refusal iterations ≡ 0 → IterationsTaken iterations
  unfolding iterations_refusal
  iterations_taken e =
      let a = cond_zero _ 8 _ (zero-lt-suc 7) e in
      let b = cond_zero _ 9 _ (zero-lt-suc 8) a.1 in
      record {
        least = pos_of_ne-zero (eqb-false iterations 0 a.0);
        most = ltb-false max_iterations iterations b.0;
      }

-- ---- the settings

-- 0 where both are
pub first_0 : {a b : ℕ} → a ≡ 0 → b ≡ 0 → first_refusal a b ≡ 0
first_0 e f = rw (e, f)

module _ (relaxation : Float) (iterations : ℕ) where
  pub iterated_0 : within max_relaxation relaxation ≡ true → IterationsTaken iterations
      → iterated_refusal relaxation iterations ≡ 0
  iterated_0 f t = first_0 (factor_0 max_relaxation relaxation f) (iterations_0 iterations t)

  pub iterated_taken : iterated_refusal relaxation iterations ≡ 0
      → (within max_relaxation relaxation ≡ true) × IterationsTaken iterations
  iterated_taken e =
      let a = first_zero (factor_refusal max_relaxation relaxation) (iterations_refusal iterations) e in
      (factor_taken max_relaxation relaxation a.0, iterations_taken iterations a.1)

module _ (width height : ℕ) where
  pub line_0 : {L : ℕ} (angle : Float) → LengthTaken width height L → is_some (from_angle angle) ≡ true
      → line_refusal width height L angle ≡ 0
  line_0 {L} angle t f = first_0 (blur_length_0 width height L t) (rw f)

  -- settings whose first refusal is the lines'
  line_taken : (L : ℕ) (angle : Float) (next : ℕ) → first_refusal (line_refusal width height L angle) next ≡ 0
      → LengthTaken width height L × (is_some (from_angle angle) ≡ true) × (next ≡ 0)
  line_taken L angle next e =
      let a = first_zero (line_refusal width height L angle) next e in
      let b = first_zero (blur_length_refusal width height L) (angle_refusal (from_angle angle)) a.0 in
      (length_taken width height L b.0, cond_left (is_some (from_angle angle)) 7 (zero-lt-suc 6) b.1, a.1)

  pub restoration_taken : (config : VanCittertConfig) → restoration_refusal width height config ≡ 0
      → RestorationTaken width height config
  restoration_taken config e =
      let a = line_taken config.blur_length config.theta_radians _ e in
      let b = iterated_taken config.relaxation config.iterations a.2 in
      record {
        length_taken = a.0;
        direction_found = a.1;
        relaxation_taken = b.0;
        iterations_taken = b.1;
      }

  pub unsharp_taken : (config : DirectionalUnsharpConfig) → unsharp_refusal width height config ≡ 0
      → UnsharpTaken width height config
  unsharp_taken config e =
      let a = line_taken config.blur_length config.theta_radians _ e in
      record { length_taken = a.0; direction_found = a.1; gain_taken = factor_taken max_gain config.gain a.2 }

-- ---- the order of the numbers

module _ (pictures settings : ℕ) (short : Bool) where
  pub order_pictures : (pictures ≡ 0 → ⊥) → in_order pictures settings short ≡ pictures
  order_pictures h = first_own pictures _ h

  -- once the pictures are accepted: the settings, then what is lent
  pub order_lent : pictures ≡ 0 → in_order pictures settings short ≡ first_refusal settings (lent_refusal short)
  order_lent e = rw e

  pub order_0 : pictures ≡ 0 → settings ≡ 0 → short ≡ false → in_order pictures settings short ≡ 0
  order_0 e d t = rw (e, d, t)

  pub order_zero : in_order pictures settings short ≡ 0 → (pictures ≡ 0) × (settings ≡ 0) × (short ≡ false)
  order_zero e =
      let a = first_zero pictures _ e in
      let b = first_zero settings _ a.1 in
      (a.0, b.0, (cond_zero short 10 0 (zero-lt-suc 9) b.1).0)

-- 10 is for what is lent alone
pub order_ten : (pictures settings : ℕ) (short : Bool) → (pictures ≡ 10 → ⊥) → (settings ≡ 10 → ⊥)
    → in_order pictures settings short ≡ 10 → (pictures ≡ 0) × (short ≡ true)
order_ten (suc pictures) settings short other-pictures other-settings e = absurd (other-pictures e)
order_ten zero (suc settings) short other-pictures other-settings e = absurd (other-settings e)
order_ten zero zero true other-pictures other-settings e = (refl, refl)
order_ten zero zero false other-pictures other-settings e = absurd (omega (arith, e))

-- ---- restoration and line unsharp

module _ (len width height stride dst_len dst_width dst_height dst_stride settings scratch_len : ℕ) where
  abbrev pair : ℕ
  pair = pair_refusal len width height stride dst_len dst_width dst_height dst_stride

  abbrev filtered : ℕ
  filtered = filter_refusal len width height stride dst_len dst_width dst_height dst_stride settings scratch_len

  pub filter_lent : pair ≡ 0 → filtered ≡ first_refusal settings (lent_refusal (scratch_short width height scratch_len))
  unfolding filter_refusal
  filter_lent = order_lent pair settings (scratch_short width height scratch_len)

  pub filter_accepted : filtered ≡ 0 → FilterAccepted len width height stride dst_len dst_width dst_height dst_stride
      settings scratch_len
  unfolding filter_refusal
  filter_accepted e =
      let a = order_zero pair settings (scratch_short width height scratch_len) e in
      record {
        pictures = laid_pair a.0;
        settings_taken = a.1;
        scratch_least = ltb-false scratch_len (scratch_needed width height) a.2;
      }

-- ---- the estimate call

module _ (len width height stride dst_len settings scratch_len : ℕ) where
  abbrev layout : ℕ
  layout = layout_refusal len width height stride

  abbrev dst-short : Bool
  dst-short = ltb dst_len (width * height)

  abbrev short : Bool
  short = dst-short || scratch_short width height scratch_len

  abbrev estimated : ℕ
  estimated = estimate_refusal len width height stride dst_len settings scratch_len

  pub estimate_lent : layout ≡ 0 → estimated ≡ first_refusal settings (lent_refusal short)
  unfolding estimate_refusal
  estimate_lent = order_lent layout settings short

  -- no number: accepted, and the other way round
  pub estimate_accepted : estimated ≡ 0 → EstimateAccepted len width height stride dst_len settings scratch_len
  unfolding estimate_refusal
  estimate_accepted e =
      let a = order_zero layout settings short e in
      record {
        picture = laid a.0;
        settings_taken = a.1;
        dst_least = ltb-false dst_len (width * height)
            (or_false_left dst-short (scratch_short width height scratch_len) a.2);
        scratch_least =
            ltb-false scratch_len (scratch_needed width height)
            (or_false_right dst-short (scratch_short width height scratch_len) a.2);
      }

  pub accepted_estimate : EstimateAccepted len width height stride dst_len settings scratch_len → estimated ≡ 0
  unfolding estimate_refusal
  accepted_estimate a =
      order_0 layout settings short (accepted a.picture) a.settings_taken
      (or_false_intro (le-ltb dst_len (width * height) a.dst_least)
      (le-ltb scratch_len (scratch_needed width height) a.scratch_least))
