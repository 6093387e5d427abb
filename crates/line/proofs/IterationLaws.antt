-- The laws of the iteration over any window. What its definitions say, one law for each, so that no other file unfolds
-- them. Then: estimates depend on the samples of the picture alone where the window does (`after_same`), those of a
-- rearranged picture are its own, rearranged, where the window's are (`after_rearranged`), and, over a lawful window,
-- document 01's "|Yk| ≤ 255 × (2^(k+1) − 1)" (`after_within`), which fits an i32 (`after_fits`).
use mathlib.Core.Path.{◌≡◌, refl, sym, ap, ap₂, ◌∙◌}
use Prim.Native.Nat.{ℕ, zero, suc, ◌+◌, ◌-◌, ◌*◌, ◌^◌, ◌≤◌, ◌<◌}
use native.Mathlib.Nat.{le_refl, mul_comm, mul-le-mul_left, mul-le-mul_right, div-le_of_le-mul}
use native.Mathlib.Nat.{one-le-pow, pow-le-pow_right}
use native.Mathlib.Numerals.{add-one}
use native.Mathlib.Omega.{arith}
use lib.IntN.{ℤ, pos, nat_abs, ◌-ℤ◌, ◌*ℤ◌}
use lib.Signed.{shr_z, quot_z}
use Rattle.numbers.proofs.Int.Size.{nat_abs_add, nat_abs_sub, nat_abs_mul, nat_abs_quot, nat_abs_shr}
use Rattle.numbers.proofs.Nat.{two_pow_more}
use Rattle.floats.specs.Factor.{scale, max_gain}
use Rattle.line.specs.Iteration.{Window, mean, step_from, stepped, after}
use Rattle.line.specs.Kernel.{max_iterations}

module _ {P : Type 0} (W : Window P) (taps : ℕ) where
  pub mean_is : (y : P → ℤ) (p : P) → mean W taps y p ≡ shr_z (W y p) taps
  unfolding mean
  mean_is y p = refl

  module _ (b : P → ℤ) (q : ℕ) where
    pub stepped_is : (y : P → ℤ) (p : P) → stepped W taps b q y p ≡ step_from q (b p) (mean W taps y p) (y p)
    unfolding stepped
    stepped_is y p = refl

    pub after_zero : (p : P) → after W taps b q 0 p ≡ b p
    unfolding after
    after_zero p = refl

    pub after_suc : (k : ℕ) (p : P) → after W taps b q (suc k) p ≡ stepped W taps b q (after W taps b q k) p
    unfolding after
    after_suc k p = refl

    pub after_next : (k : ℕ) (p : P) → after W taps b q (k + 1) p ≡ stepped W taps b q (after W taps b q k) p
    after_next k p = ap (λ (j : ℕ). after W taps b q j p) (add-one k) ∙ after_suc k p

-- ---- a lawful window

-- equal at the places that are On the picture
abbrev pub Same : {P : Type 0} → (P → Type 0) → (P → ℤ) → (P → ℤ) → Type 0
Same On y z = (p : _) → On p → y p ≡ z p

-- no sample there is larger than B
abbrev pub Bounded : {P : Type 0} → (P → Type 0) → ℕ → (P → ℤ) → Type 0
Bounded On B y = (p : _) → On p → nat_abs (y p) ≤ B

-- a window that depends on the samples of the picture alone
abbrev pub Reads : {P : Type 0} → (P → Type 0) → Window P → Type 0
Reads On W = (y z : _) → Same On y z → (p : _) → W y p ≡ W z p

-- What the laws ask of a window: outside the picture it takes samples of the picture, or bytes.
pub record LawfulWindow {P : Type 0} (On : P → Type 0) (W : Window P) (taps : ℕ) : Type 0 where
  pub same : Reads On W
  pub within : (y : P → ℤ) (B : ℕ) → Bounded On B y → 255 ≤ B → (p : P) → nat_abs (W y p) ≤ taps * B

-- the step's quotient, for q ≤ g × 65,536
residual_within : (x : ℤ) (q g : ℕ) → q ≤ g * scale → nat_abs (quot_z (x *ℤ pos q) (pos scale)) ≤ nat_abs x * g
residual_within x q g h =
    rw (nat_abs_quot (x *ℤ pos q) (pos scale), nat_abs_mul x (pos q))
    (div-le_of_le-mul scale (omega (arith, mul-le-mul_left (nat_abs x) h)))

module _ {P : Type 0} {On : P → Type 0} {W : Window P} (taps : ℕ) (reads : Reads On W) where
  pub mean_same : (y z : P → ℤ) → Same On y z → (p : P) → mean W taps y p ≡ mean W taps z p
  mean_same y z d p =
      mean_is W taps y p ∙ ap (λ (x : ℤ). shr_z x taps) (reads y z d p) ∙ sym (mean_is W taps z p)

  module _ (b c : P → ℤ) (e : Same On b c) (q : ℕ) where
    pub stepped_same : (y z : P → ℤ) → Same On y z → Same On (stepped W taps b q y) (stepped W taps c q z)
    stepped_same y z d p h =
        stepped_is W taps b q y p
        ∙ ap₂ (step_from q (b p)) (mean_same y z d p) (d p h)
        ∙ ap (λ (x : ℤ). step_from q x (mean W taps z p) (z p)) (e p h)
        ∙ sym (stepped_is W taps c q z p)

    pub after_same : (k : ℕ) → Same On (after W taps b q k) (after W taps c q k)
    after_same zero p h = after_zero W taps b q p ∙ e p h ∙ sym (after_zero W taps c q p)
    after_same (suc k) p h =
        after_suc W taps b q k p
        ∙ stepped_same (after W taps b q k) (after W taps c q k) (after_same k) p h
        ∙ sym (after_suc W taps c q k p)

-- Where the window of a rearranged picture is the picture's own at the place that is taken, the estimates of the
-- rearranged picture are the picture's own, rearranged.
module _ {P : Type 0} {On : P → Type 0} {W : Window P} (taps : ℕ) (reads : Reads On W)
    (to : P → P) (moves : (y : P → ℤ) (p : P) → W (λ i. y (to i)) p ≡ W y (to p)) where
  mean-rearranged : (y : P → ℤ) (p : P) → mean W taps (λ i. y (to i)) p ≡ mean W taps y (to p)
  mean-rearranged y p =
      mean_is W taps (λ i. y (to i)) p
      ∙ ap (λ (x : ℤ). shr_z x taps) (moves y p)
      ∙ sym (mean_is W taps y (to p))

  module _ (b : P → ℤ) (q : ℕ) where
    pub after_rearranged : (k : ℕ) (p : P) → after W taps (λ i. b (to i)) q k p ≡ after W taps b q k (to p)
    after_rearranged zero p = after_zero W taps (λ i. b (to i)) q p ∙ sym (after_zero W taps b q (to p))
    after_rearranged (suc k) p =
        let y = after W taps b q k in
        let z = after W taps (λ i. b (to i)) q k in
        let m : mean W taps z p ≡ mean W taps y (to p) =
        mean_same taps reads z (λ i. y (to i)) (λ i _. after_rearranged k i) p ∙ mean-rearranged y p
        in
        after_suc W taps (λ i. b (to i)) q k p
        ∙ stepped_is W taps (λ i. b (to i)) q z p
        ∙ ap₂ (step_from q (b (to p))) m (after_rearranged k p)
        ∙ sym (stepped_is W taps b q y (to p))
        ∙ sym (after_suc W taps b q k (to p))

module _ {P : Type 0} {On : P → Type 0} {W : Window P} {taps : ℕ} (l : LawfulWindow On W taps) (some : 0 < taps) where
  pub mean_within : (y : P → ℤ) (B : ℕ) → Bounded On B y → 255 ≤ B → (p : P) → nat_abs (mean W taps y p) ≤ B
  mean_within y B bound byte p =
      rw (mean_is W taps y p) (nat_abs_shr (W y p) taps B some (rw (mul_comm B taps) (l.within y B bound byte p)))

  module _ (b : P → ℤ) (bytes : Bounded On 255 b) where
    -- with a factor up to g
    stepped_by : (q g : ℕ) → q ≤ g * scale → (y : P → ℤ) (B : ℕ) → Bounded On B y → 255 ≤ B
        → Bounded On (B + (255 + B) * g) (stepped W taps b q y)
    stepped_by q g h y B bound byte p i =
        let m = mean W taps y p in
        let r = b p -ℤ m in
        let small : nat_abs r ≤ 255 + B = omega (arith, nat_abs_sub (b p) m, bytes p i, mean_within y B bound byte p) in
        rw (stepped_is W taps b q y p)
        (omega (
          arith,
          nat_abs_add (y p) (quot_z (r *ℤ pos q) (pos scale)),
          bound p i,
          residual_within r q g h,
          mul-le-mul_right g small,
        ))

    -- relaxation, at most 1
    stepped_within : (q : ℕ) → q ≤ scale → (y : P → ℤ) (B : ℕ) → Bounded On B y → 255 ≤ B
        → Bounded On (2 * B + 255) (stepped W taps b q y)
    stepped_within q h y B bound byte p i = omega (arith, stepped_by q 1 (omega arith) y B bound byte p i)

    -- gain, at most 8, in one step from bytes
    pub unsharp_within : (q : ℕ) → q ≤ max_gain * scale → Bounded On 4335 (stepped W taps b q b)
    unsharp_within q h p i = omega (arith, stepped_by q 8 (omega arith) b 255 bytes (le_refl 255) p i)

    module _ (q : ℕ) (h : q ≤ scale) where
      pub after_within : (k : ℕ) → Bounded On (255 * (2 ^ (k + 1) - 1)) (after W taps b q k)
      after_within zero p i = rw (after_zero W taps b q p) (bytes p i)
      after_within (suc k) p i =
          let two : 1 ≤ 2 ^ k = one-le-pow k 2 (omega arith) in
          let once = two_pow_more k in
          let twice = two_pow_more (k + 1) in
          let next : suc k + 1 ≡ k + 1 + 1 = omega arith in
          let same : 2 ^ (suc k + 1) ≡ 2 ^ (k + 1 + 1) = ap (λ (j : ℕ). 2 ^ j) next in
          rw (after_suc W taps b q k p)
          (omega (
            arith,
            stepped_within q h (after W taps b q k) (255 * (2 ^ (k + 1) - 1)) (after_within k) (omega arith) p i,
          ))

      -- up to K iterations
      pub after_most : (K k : ℕ) → k ≤ K → Bounded On (255 * (2 ^ (K + 1) - 1)) (after W taps b q k)
      after_most K k d p i =
          let more = pow-le-pow_right {n = 2} (omega arith) {i = k + 1} {j = K + 1} (omega arith) in
          omega (arith, after_within k p i, more)

      -- 22 iterations: 255 × (2^23 − 1), below 2^31
      pub after_fits : (k : ℕ) → k ≤ max_iterations → Bounded On 2139094785 (after W taps b q k)
      after_fits = after_most max_iterations
