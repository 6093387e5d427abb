-- One iteration of a line in the scratch: estimates are small enough for the division that is taken (`estimate-size`)
-- and for an i32 (`next-size`), so mean and step may be called (`mean_asked`, `step_asked`), and together they bring
-- the estimate one iteration on (`iterated_next`). Then a caller that knows the samples by another name
-- (`iteration_asked`, `iterated_on`).
use mathlib.Core.Path.{◌≡◌, refl, sym, ap, ◌∙◌}
use mathlib.Core.List.{List}
use Prim.Native.Nat.{ℕ, zero, suc, ◌+◌, ◌-◌, ◌*◌, ◌^◌, ◌≤◌, ◌<◌}
use native.Mathlib.Nat.{le_trans, add-sub_cancel_left}
use native.Mathlib.Omega.{arith}
use borrow.Author.Tests.{ltb-true, ltb-false}
use lib.Dec.{ltb}
use lib.IntN.{ℤ, pos}
use lib.ListN.{length, get_or}
use Rattle.numbers.proofs.Places.{part_iff, part_before}
use Rattle.numbers.proofs.Test.{by_test}
use Rattle.numbers.proofs.Written.{written_kept}
use Rattle.floats.specs.Factor.{scale}
use Rattle.image.specs.Refusal.{max_side}
use Rattle.raster.specs.Border.{border_map, border_value, Lawful}
use Rattle.raster.proofs.BorderMap.{border_lawful}
use Rattle.line.specs.declared.kernel.LineKernel.{LineKernel}
use Rattle.line.specs.declared.mean.MeanSettings.{MeanSettings}
use Rattle.line.specs.Iteration.{step_from}
use Rattle.line.specs.Line.{window, mean}
use Rattle.line.specs.Kernel.{KernelAsked, line_at, estimate_after, Gathered, Iterated, IterationAsked}
use Rattle.line.specs.Kernel.{largest, Reciprocal, MeanAsked, MeansWritten, StepAsked, LineStepped}
use Rattle.line.proofs.IterationLaws.{LawfulWindow, stepped_is, after_zero, after_next, mean_same, stepped_same}
use Rattle.line.proofs.IterationLaws.{mean_within, unsharp_within, after_most, after_fits}
use Rattle.line.proofs.LineWindow.{Bounded, line_window, border_of_line, after_same}
use Rattle.line.proofs.KernelSum.{largest_byte, largest_most}

-- the mean's settings
abbrev pub settings_of : LineKernel → ℕ → ℕ → MeanSettings
settings_of K n r = record { n = n; blur_length = K.blur_length; reciprocal = r; border = K.border }

-- ---- one iteration, of samples b on a line of n

module _ (K : LineKernel) (n : ℕ) (some : 1 ≤ n) (value : border_value K.border ≤ 255) where
  lawful : Lawful n (border_map K.border n)
  lawful = border_lawful K.border n some value

  abbrev L : ℕ
  L = K.blur_length

  abbrev sums : (ℕ → ℤ) → ℕ → ℤ
  sums = window (border_map K.border n) L

  lawful-window : LawfulWindow (◌< n) sums L
  lawful-window = line_window lawful L

  module _ (T : KernelAsked K) (short : n ≤ max_side) (b : ℕ → ℤ) (bytes : Bounded n 255 b) where
    -- one step from bytes, with any gain
    unsharp-size : Bounded n 4335 (estimate_after K n b (0 + 1))
    unsharp-size i p =
        let zero_is : (j : ℕ) → j < n → estimate_after K n b 0 j ≡ b j = λ j _. after_zero sums L b K.q j in
        let reads = lawful-window.same in
        let same = stepped_same L reads b b (λ _ _. refl) K.q (estimate_after K n b 0) b zero_is i p in
        rw (after_next sums L b K.q 0 i ∙ same)
        (unsharp_within lawful-window T.long b bytes K.q T.gain i p)

    module _ {k : ℕ} (more : k < K.iterations) where
      -- the first estimate is bytes; a second iteration is that of a relaxation
      by_count : {P : Type 0} → (k ≡ 0 → P) → (K.q ≤ scale → P) → P
      by_count first relaxed =
          by_test (ltb 1 K.iterations)
          (λ t. relaxed (T.relaxation (ltb-true 1 K.iterations t)))
          (λ t. first (omega (arith, ltb-false 1 K.iterations t)))

      relaxed-most : K.q ≤ scale → (most : ℕ) → k ≤ most
          → Bounded n (255 * (2 ^ (most + 1) - 1)) (estimate_after K n b k)
      relaxed-most h most = after_most lawful-window T.long b bytes K.q h most k

      relaxed-size : (r : ℕ) → (0 < r → k < 10) → K.q ≤ scale → Bounded n (largest r) (estimate_after K n b k)
      relaxed-size zero early h i p = relaxed-most h 21 (omega (arith, T.iterated)) i p
      relaxed-size (suc r) early h i p = omega (arith, relaxed-most h 9 (omega (arith, early (omega arith))) i p)

      estimate-size : (r : ℕ) → (0 < r → k < 10) → Bounded n (largest r) (estimate_after K n b k)
      estimate-size r early i p =
          by_count
          (λ e. rw (e, after_zero sums L b K.q i) (le_trans (bytes i p) (largest_byte r)))
          (λ h. relaxed-size r early h i p)

      next-size : Bounded n 2147483647 (estimate_after K n b (k + 1))
      next-size i p =
          by_count
          (λ e. rw (ap (λ (j : ℕ). estimate_after K n b (j + 1) i) e) (omega (arith, unsharp-size i p)))
          (λ h.
          let fits = after_fits lawful-window T.long b bytes K.q h (k + 1) (omega (arith, T.iterated)) i p in
          omega (arith, fits))

      module _ {r : ℕ} (R : Reciprocal L r × (0 < r → k < 10)) {xs : List ℤ} (room : 3 * n ≤ length xs)
          (I : Iterated K n b k xs) where
        pub mean_asked : MeanAsked (settings_of K n r) xs
        mean_asked =
            record {
              some = some;
              short = short;
              room = room;
              value = value;
              divides = R.0;
              small = λ i h. rw (I.estimate i h) (estimate-size r R.1 i h);
            }

        module _ {ys : List ℤ} (W : MeansWritten (settings_of K n r) 0 n xs ys) where
          before : (j : ℕ) → j < n + n → get_or ys j (pos 0) ≡ get_or xs j (pos 0)
          before j h = written_kept W.written j (part_before (n + n + 0) (n - 0) j (omega arith))

          observed-is : (i : ℕ) → i < n → line_at 0 ys i ≡ b i
          observed-is i h = before (0 + i) (omega arith) ∙ I.observed i h

          estimate_is : (i : ℕ) → i < n → line_at n ys i ≡ estimate_after K n b k i
          estimate_is i h = before (n + i) (omega arith) ∙ I.estimate i h

          mean_is : (i : ℕ) → i < n → line_at (n + n) ys i ≡ mean (border_map K.border n) (estimate_after K n b k) L i
          mean_is i h =
              let on = (part_iff (n + n + 0) (n - 0) (n + n + i)).1 (omega arith, omega arith) in
              W.written.hits (n + n + i) (omega (arith, room)) on
              ∙ ap (mean (border_map K.border n) (line_at n xs) L) (add-sub_cancel_left (n + n) i)
              ∙ mean_same L lawful-window.same (line_at n xs) (estimate_after K n b k) I.estimate i

          -- one step from these
          step_is : (i : ℕ) → i < n
              → step_from K.q (line_at 0 ys i) (line_at (n + n) ys i) (line_at n ys i) ≡ estimate_after K n b (k + 1) i
          step_is i h =
              rw (observed-is i h, estimate_is i h, mean_is i h)
              (sym (after_next sums L b K.q k i ∙ stepped_is sums L b K.q (estimate_after K n b k) i))

          pub step_asked : StepAsked n K.q ys
          step_asked =
              let size = estimate-size r R.1 in
              let y = estimate_after K n b k in
              let small = mean_within lawful-window T.long y (largest r) size (largest_byte r) in
              record {
                short = short;
                room = rw W.written.same_length room;
                each = λ i h.
                    record {
                      byte = rw (observed-is i h) (bytes i h);
                      small = rw (mean_is i h) (le_trans (small i) (largest_most r));
                      gain = T.gain;
                      fits = rw (step_is i h) (omega (arith, next-size i h));
                    };
              }

          pub iterated_next : {zs : List ℤ} → LineStepped n n K.q ys zs → Iterated K n b (k + 1) zs
          iterated_next S =
              let from : ℕ → ℤ = λ j. step_from K.q (line_at 0 ys j) (line_at (n + n) ys j) (line_at n ys j) in
              record {
                observed = λ i h.
                    written_kept S.written (0 + i) (part_before n n (0 + i) (omega arith)) ∙ observed-is i h;
                estimate = λ i h.
                    let on = (part_iff n n (n + i)).1 (omega arith, omega arith) in
                    S.written.hits (n + i) (rw W.written.same_length (omega (arith, room))) on
                    ∙ ap from (add-sub_cancel_left n i)
                    ∙ step_is i h;
              }

-- ---- a caller's iterations: it knows the samples as b, and the scratch holds them

-- before the first
pub iterated_none : (K : LineKernel) {n : ℕ} {b : ℕ → ℤ} {xs : List ℤ} → Gathered b n xs → Iterated K n b 0 xs
iterated_none K {n = n} {b = b} G =
    let L = K.blur_length in
    record {
      observed = G.observed;
      estimate = λ i h. G.estimate i h ∙ sym (after_zero (window (border_map K.border n) L) L b K.q i);
    }

module _ (K : LineKernel) (n : ℕ) (some : 1 ≤ n) (value : border_value K.border ≤ 255) (b : ℕ → ℤ) {k : ℕ}
    {xs : List ℤ} (I : Iterated K n b k xs) where
  -- the same estimates, whatever the samples' name
  renamed : (j i : ℕ) → i < n → estimate_after K n (line_at 0 xs) j i ≡ estimate_after K n b j i
  renamed = after_same (border_of_line K.border n some) (line_at 0 xs) b I.observed K.q K.blur_length

  pub iteration_asked : n ≤ max_side → 3 * n ≤ length xs → KernelAsked K → k < K.iterations → Bounded n 255 b
      → IterationAsked K n k xs
  iteration_asked short room taken more bytes =
      record {
        some = some;
        short = short;
        room = room;
        taken = taken;
        more = more;
        bytes = λ i h. rw (I.observed i h) (bytes i h);
        iterated = record { observed = λ i h. refl; estimate = λ i h. I.estimate i h ∙ sym (renamed k i h) };
      }

  pub iterated_on : {ys : List ℤ} → Iterated K n (line_at 0 xs) (k + 1) ys → Iterated K n b (k + 1) ys
  iterated_on J =
      record {
        observed = λ i h. J.observed i h ∙ I.observed i h;
        estimate = λ i h. J.estimate i h ∙ renamed (k + 1) i h;
      }
