-- A line of n reads only its places below n, under every border map whose samples come from the line or are not its own
-- (`OfLine`: `window_reads`, `after_same`). Where those are bytes, no sample outside the line is larger than one, and
-- the laws of the iteration hold for a line: under every lawful border map (`line_window`).
use mathlib.Core.Path.{◌≡◌, refl, sym, ◌∙◌}
use Prim.Native.Nat.{ℕ, ◌/◌, ◌≤◌, ◌<◌}
use native.Mathlib.Nat.{le_trans}
use lib.IntN.{ℤ, nat_abs, sub_ℕ}
use Rattle.numbers.proofs.Sum.{total_same, total_within}
use Rattle.raster.specs.Border.{border_map, Lawful, Within}
use Rattle.raster.specs.declared.border.BorderSample.{BorderSample}
use Rattle.raster.specs.declared.border.BorderSample.TheVariants.{Inside, Outside}
use Rattle.raster.specs.declared.border.LineBorderMode.{LineBorderMode}
use Rattle.raster.proofs.BorderMap.{SourceOf, border_range}
use Rattle.line.specs.Line.{from_source, sample, window, after}
use Rattle.line.proofs.IterationLaws as iteration
use Rattle.line.proofs.LineLaws.{sample_is, window_is}

-- equal at the places of a line of n
abbrev pub SameLine : ℕ → (ℕ → ℤ) → (ℕ → ℤ) → Type 0
SameLine n = iteration.Same (◌< n)

-- no sample of a line of n is larger than B
abbrev pub Bounded : ℕ → ℕ → (ℕ → ℤ) → Type 0
Bounded n = iteration.Bounded (◌< n)

-- a place of a line of n, or none of it
abbrev pub FromLine : ℕ → BorderSample → Type 0
FromLine n (Inside i) = i < n
FromLine n (Outside v) = Unit {0}

-- a border map whose samples come from the line, or are not its own
pub record OfLine (n : ℕ) (m : ℤ → BorderSample) : Type 0 where
  pub from : (p : ℤ) → FromLine n (m p)

source_from : (b : LineBorderMode) (n : ℕ) (s : BorderSample) → SourceOf b n s → FromLine n s
source_from b n (Inside i) h = h
source_from b n (Outside v) h = tt

-- every border is such a map, whatever its value
pub border_of_line : (b : LineBorderMode) (n : ℕ) → 0 < n → OfLine n (border_map b n)
border_of_line b n h = record { from = λ p. source_from b n (border_map b n p) (border_range b n p h) }

module _ {n : ℕ} {m : ℤ → BorderSample} (o : OfLine n m) where
  module _ (f g : ℕ → ℤ) (e : SameLine n f g) where
    source-same : (s : BorderSample) → FromLine n s → from_source f s ≡ from_source g s
    source-same (Inside i) h = e i h
    source-same (Outside v) h = refl

    pub sample_same : (p : ℤ) → sample m f p ≡ sample m g p
    sample_same p = sample_is m f p ∙ source-same (m p) (o.from p) ∙ sym (sample_is m g p)

  pub window_reads : (L : ℕ) → iteration.Reads (◌< n) (window m L)
  window_reads L f g e p =
      let at : (ℕ → ℤ) → ℕ → ℤ = λ f u. sample m f (sub_ℕ u (L / 2)) in
      window_is m f L p
      ∙ total_same (at f) (at g) p L (λ u _ _. sample_same f g e (sub_ℕ u (L / 2)))
      ∙ sym (window_is m g L p)

  pub after_same : (b c : ℕ → ℤ) → SameLine n b c → (q L k : ℕ) → SameLine n (after m b q L k) (after m c q L k)
  after_same b c e q L k = iteration.after_same L (window_reads L) b c e q k

within_from : (n : ℕ) (s : BorderSample) → Within n s → FromLine n s
within_from n (Inside i) h = h
within_from n (Outside v) h = tt

module _ {n : ℕ} {m : ℤ → BorderSample} (l : Lawful n m) where
  pub lawful_of_line : OfLine n m
  lawful_of_line = record { from = λ p. within_from n (m p) (l.range p) }

  module _ (f : ℕ → ℤ) (B : ℕ) (bound : Bounded n B f) (byte : 255 ≤ B) where
    source_within : (s : BorderSample) → Within n s → nat_abs (from_source f s) ≤ B
    source_within (Inside i) h = bound i h
    source_within (Outside v) h = le_trans h byte

    pub sample_within : (p : ℤ) → nat_abs (sample m f p) ≤ B
    sample_within p = rw (sample_is m f p) (source_within (m p) (l.range p))

  pub line_window : (L : ℕ) → iteration.LawfulWindow (◌< n) (window m L) L
  line_window L =
      let at : (ℕ → ℤ) → ℕ → ℤ = λ f u. sample m f (sub_ℕ u (L / 2)) in
      record {
        same = window_reads lawful_of_line L;
        within = λ f B bound byte p.
            rw (window_is m f L p) (total_within (at f) p L B (λ u _ _. sample_within f B bound byte (sub_ℕ u (L / 2))));
      }
