-- The window at the first place in few terms: of a border that is flat (`flat_window`), and of one that comes again
-- (`periodic_window`).
use mathlib.Core.Path.{◌≡◌, sym, ap, ap₂, ◌∙◌}
use mathlib.Core.List.{List}
use Prim.Native.Nat.{ℕ, suc, ◌+◌, ◌-◌, ◌*◌, ◌/◌, ◌≤◌, ◌<◌, min}
use native.Mathlib.Nat.{le_trans, mul-le-mul}
use native.Mathlib.Omega.{arith}
use lib.IntN.{ℤ, pos, negsuc, nat_abs, sub_ℕ, ◌+ℤ◌, ◌*ℤ◌}
use mir.Syntax.{w64}
use mir.Val.{SFits}
use Rattle.numbers.specs.Sum.{total}
use Rattle.numbers.proofs.Int.Machine.{sfits_add}
use Rattle.numbers.proofs.Int.Size.{nat_abs_mul}
use Rattle.numbers.proofs.Int.Ring.{sub_ℕ-add, sub_ℕ-neg, sub_ℕ-pos}
use Rattle.numbers.proofs.Sum.{total_same, total_const, total_shift, total_split, total_within, total_periods}
use Rattle.image.specs.Refusal.{max_side}
use Rattle.line.specs.declared.mean.MeanSettings.{MeanSettings}
use Rattle.line.specs.Line.{from_source}
use Rattle.line.specs.Kernel.{line_at, largest, MeanAsked, map_of, window_at, sample_at, opening}
use Rattle.line.specs.Kernel.{longest_blur, FlatBorder, PeriodicBorder}
use Rattle.line.proofs.LineLaws.{sample_is, sample_at_lem}
use Rattle.line.proofs.LineWindow.{sample_within}
use Rattle.line.proofs.KernelSum.{largest_byte, largest_most}
use Rattle.line.proofs.KernelMean.{lawful, opening_whole}

module _ (s : MeanSettings) {xs : List ℤ} (A : MeanAsked s xs) where
  abbrev half : ℕ
  half = s.blur_length / 2

  -- places with one source have one sample
  at_same : (u v : ℕ) → map_of s (sub_ℕ u half) ≡ map_of s (sub_ℕ v half) → sample_at s xs u ≡ sample_at s xs v
  at_same u v e =
      let f = line_at s.n xs in
      sample_is (map_of s) f (sub_ℕ u half) ∙ ap (from_source f) e ∙ sym (sample_is (map_of s) f (sub_ℕ v half))

  pub periodic_window : (period whole rest : ℕ) → PeriodicBorder period (map_of s)
      → s.blur_length ≡ whole * period + rest
      → pos whole *ℤ opening s xs period +ℤ opening s xs rest ≡ window_at s xs 0
  periodic_window period whole rest border e =
      let again : (u : ℕ) → sample_at s xs (u + period) ≡ sample_at s xs u =
      λ u. at_same (u + period) u (ap (map_of s) (sym (sub_ℕ-add u half period)) ∙ border.again (sub_ℕ u half))
      in
      sym (total_periods (sample_at s xs) period again whole rest) ∙ ap (opening s xs) (sym e) ∙ opening_whole s xs

  piece-size : (k u : ℕ) → k ≤ longest_blur → nat_abs (pos k *ℤ sample_at s xs u) ≤ 2191502345985
  piece-size k u h =
      let r = s.reciprocal in
      let small = sample_within (lawful s A) (line_at s.n xs) (largest r) A.small (largest_byte r) (sub_ℕ u half) in
      rw (nat_abs_mul (pos k) (sample_at s xs u))
      (mul-le-mul {n₂ = longest_blur} {m₂ = 1069547265} h (le_trans small (largest_most r)))

  line-size : (k : ℕ) → k ≤ s.n → nat_abs (total (line_at s.n xs) 0 k) ≤ 1095216399360
  line-size k h =
      omega (
        arith,
        total_within (line_at s.n xs) 0 k (largest s.reciprocal) (λ i _ l. A.small i (omega arith)),
        mul-le-mul {n₁ = k} {n₂ = max_side} (omega (arith, A.short)) (largest_most s.reciprocal),
      )

  -- what is before the line and on it
  pub flat_fits : (k : ℕ) → k ≤ s.n → SFits w64 (pos half *ℤ sample_at s xs 0 +ℤ total (line_at s.n xs) 0 k)
  flat_fits k h =
      sfits_add (pos half *ℤ sample_at s xs 0) (total (line_at s.n xs) 0 k)
      (omega (arith, piece-size half 0 (omega (arith, A.divides)), line-size k h))

  pub flat_window : FlatBorder s.n (map_of s) → (inside : ℕ) → inside ≡ min (s.blur_length - half) s.n
      → pos half *ℤ sample_at s xs 0 +ℤ total (line_at s.n xs) 0 inside
      +ℤ pos (s.blur_length - half - inside) *ℤ sample_at s xs (half + s.n) ≡ window_at s xs 0
  flat_window flat inside e =
      let at = sample_at s xs in
      let rest = s.blur_length - half - inside in
      let whole : half + inside + rest ≡ s.blur_length = omega arith in
      ap₂ ◌+ℤ◌ (ap₂ ◌+ℤ◌ (sym before) (sym (within inside (omega arith)))) (sym (behind inside rest (λ h. omega arith)))
      ∙ ap (◌+ℤ total at (0 + (half + inside)) rest) (sym (total_split at 0 half inside))
      ∙ sym (total_split at 0 (half + inside) rest)
      ∙ ap (total at 0) whole
      ∙ opening_whole s xs
    where
      before_same : (u : ℕ) → u < half → map_of s (sub_ℕ u half) ≡ map_of s (negsuc 0)
      before_same u h = ap (map_of s) (sub_ℕ-neg h) ∙ flat.before (half - suc u)

      before : total (sample_at s xs) 0 half ≡ pos half *ℤ sample_at s xs 0
      before =
          total_same (sample_at s xs) (λ _. sample_at s xs 0) 0 half
          (λ u _ h. at_same u 0 (before_same u (omega arith) ∙ sym (before_same 0 (omega arith))))
          ∙ total_const (sample_at s xs 0) 0 half

      within : (k : ℕ) → k ≤ s.n → total (sample_at s xs) (0 + half) k ≡ total (line_at s.n xs) 0 k
      within k h =
          sym (total_shift (sample_at s xs) 0 half k)
          ∙ total_same (λ i. sample_at s xs (i + half)) (line_at s.n xs) 0 k
          (λ i _ l.
          sample_at_lem (lawful s A) (line_at s.n xs) (i + half) half (omega arith) (omega arith)
          ∙ ap (line_at s.n xs) (omega arith))

      behind-same : (u : ℕ) → half + s.n ≤ u → map_of s (sub_ℕ u half) ≡ map_of s (pos s.n)
      behind-same u h = ap (map_of s) (sub_ℕ-pos (omega arith)) ∙ flat.behind (u - half) (omega arith)

      behind : (k rest : ℕ) → (0 < rest → k ≡ s.n)
          → total (sample_at s xs) (0 + (half + k)) rest ≡ pos rest *ℤ sample_at s xs (half + s.n)
      behind k rest full =
          total_same (sample_at s xs) (λ _. sample_at s xs (half + s.n)) (0 + (half + k)) rest
          (λ u h l.
          let f : k ≡ s.n = full (omega arith) in
          at_same u (half + s.n) (behind-same u (omega arith) ∙ sym (behind-same (half + s.n) (omega arith))))
          ∙ total_const (sample_at s xs (half + s.n)) (0 + (half + k)) rest
