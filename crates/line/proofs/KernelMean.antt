-- The means of a line in the scratch: the estimate stays as it was (`_kept`), its windows are small enough to divide
-- (`window_size`), and the means are written place after place (`means_none`, `means_next`) or piece after piece
-- (`means_join`).
use mathlib.Core.Path.{◌≡◌, refl, sym, ap, ap₂, ◌∙◌}
use mathlib.Core.List.{List}
use Prim.Native.Nat.{ℕ, ◌+◌, ◌-◌, ◌*◌, ◌/◌, ◌^◌, ◌≤◌, ◌<◌}
use native.Mathlib.Nat.{sub_self, add-sub_cancel_left, mul-le-mul}
use native.Mathlib.Omega.{arith}
use lib.IntN.{ℤ, nat_abs, sub_ℕ, ◌+ℤ◌, ◌-ℤ◌}
use lib.ListN.{set}
use lib.Signed.{shr_z}
use mir.Syntax.{w64}
use mir.Val.{SFits}
use Rattle.numbers.proofs.Int.Size.{sfits_size}
use Rattle.numbers.proofs.Places.{part_none, part_last, part_join, part_before}
use Rattle.numbers.proofs.Sum.{total_within}
use Rattle.numbers.proofs.Written.{written_none, written_set, written_join, written_same, written_kept}
use Rattle.raster.specs.Border.{Lawful}
use Rattle.raster.proofs.BorderMap.{border_lawful}
use Rattle.line.specs.declared.mean.MeanSettings.{MeanSettings}
use Rattle.line.specs.Line.{sample, mean}
use Rattle.line.specs.Kernel.{line_at, largest, MeanAsked, map_of, window_at, sample_at, opening, MeansWritten}
use Rattle.line.proofs.IterationLaws.{mean_is, mean_same}
use Rattle.line.proofs.LineLaws.{window_is, window_slide}
use Rattle.line.proofs.LineWindow.{lawful_of_line, sample_same, sample_within, window_reads, line_window}
use Rattle.line.proofs.KernelSum.{largest_byte, largest_most}

-- the place p of the mean part
place : (n p : ℕ) → n + n + p - (n + n) ≡ p
place n p = add-sub_cancel_left (n + n) p

module _ (s : MeanSettings) (xs : List ℤ) where
  pub opening_whole : opening s xs s.blur_length ≡ window_at s xs 0
  opening_whole = sym (window_is (map_of s) (line_at s.n xs) s.blur_length 0)

module _ (s : MeanSettings) {old : List ℤ} (A : MeanAsked s old) where
  pub lawful : Lawful s.n (map_of s)
  lawful = border_lawful s.border s.n A.some A.value

  small-samples : (p : ℤ) → nat_abs (sample (map_of s) (line_at s.n old) p) ≤ largest s.reciprocal
  small-samples =
      let r = s.reciprocal in sample_within lawful (line_at s.n old) (largest r) A.small (largest_byte r)

  pub window_size : (p : ℕ) → nat_abs (window_at s old p) ≤ s.blur_length * largest s.reciprocal
  window_size =
      let r = s.reciprocal in
      (line_window lawful s.blur_length).within (line_at s.n old) (largest r) A.small (largest_byte r)

  pub window_slides : (p : ℕ) → nat_abs (window_at s old p) < 2 ^ 62
  window_slides p = omega (arith, window_size p, mul-le-mul A.divides.bounded (largest_most s.reciprocal))

  pub window_fits : (p : ℕ) → SFits w64 (window_at s old p)
  window_fits p = sfits_size (omega (arith, window_slides p))

  pub opening_size : (u : ℕ) → nat_abs (opening s old u) ≤ u * largest s.reciprocal
  opening_size u =
      total_within _ 0 u (largest s.reciprocal)
      (λ v _ _. small-samples (sub_ℕ v (s.blur_length / 2)))

  module _ {a e : ℕ} {new : List ℤ} (W : MeansWritten s a e old new) where
    pub line_kept : (i : ℕ) → i < s.n → line_at s.n new i ≡ line_at s.n old i
    line_kept i h =
        written_kept W.written (s.n + i) (part_before (s.n + s.n + a) (e - a) (s.n + i) (omega arith))

    pub sample_kept : (p : ℤ) → sample (map_of s) (line_at s.n new) p ≡ sample (map_of s) (line_at s.n old) p
    sample_kept p = sample_same (lawful_of_line lawful) (line_at s.n new) (line_at s.n old) line_kept p

    pub window_kept : (p : ℕ) → window_at s new p ≡ window_at s old p
    window_kept =
        window_reads (lawful_of_line lawful) s.blur_length (line_at s.n new) (line_at s.n old) line_kept

    pub asked_kept : MeanAsked s new
    asked_kept =
        record {
          some = A.some;
          short = A.short;
          room = rw W.written.same_length A.room;
          value = A.value;
          divides = A.divides;
          small = λ i h. rw (line_kept i h) (A.small i h);
        }

  -- the sum one place on, by the samples read while the means are written
  pub window_on : (p : ℕ) {sum x y : ℤ} → sum ≡ window_at s old p → x ≡ sample_at s old (p + s.blur_length)
      → y ≡ sample_at s old p → sum +ℤ x -ℤ y ≡ window_at s old (p + 1)
  window_on p d e f = ap₂ ◌-ℤ◌ (ap₂ ◌+ℤ◌ d e) f ∙ sym (window_slide (map_of s) (line_at s.n old) s.blur_length p)

  pub means_none : (a : ℕ) → MeansWritten s a a old old
  means_none a = record { written = written_none λ j _. rw (sub_self a) (part_none (s.n + s.n + a) j) }

  -- the mean at place p, from the window's sum there
  pub means_next : {a p : ℕ} {new : List ℤ} {sum : ℤ} (v : ℤ) → MeansWritten s a p old new → a ≤ p → p < s.n
      → sum ≡ window_at s old p → v ≡ shr_z sum s.blur_length
      → MeansWritten s a (p + 1) old (set new (s.n + s.n + p) v)
  means_next {a} {p} v W h k d e =
      record {
        written =
            written_set (s.n + s.n + p) v W.written
            (rw W.written.same_length (omega (arith, A.room)))
            (e
            ∙ ap (λ (z : ℤ). shr_z z s.blur_length) d
            ∙ sym (mean_is _ s.blur_length (line_at s.n old) p)
            ∙ ap (mean (map_of s) (line_at s.n old) s.blur_length) (sym (place s.n p)))
            (part_last (s.n + s.n + a) (p - a) (s.n + s.n + p) (p + 1 - a) (omega arith) (omega arith));
      }

  pub means_join : {a b e : ℕ} {mid new : List ℤ} → MeansWritten s a b old mid → MeansWritten s b e mid new
      → a ≤ b → b ≤ e → MeansWritten s a e old new
  means_join {a} {b} {e} {mid} F S h k =
      record {
        written =
            written_join F.written
            (written_same S.written (λ j _. refl)
            (λ j _ _.
            let w = window_reads (lawful_of_line lawful) s.blur_length in
            mean_same s.blur_length w (line_at s.n mid) (line_at s.n old) (line_kept F) (j - (s.n + s.n))))
            (part_join (s.n + s.n + a) (b - a) (s.n + s.n + b) (e - b) (e - a) (omega arith) (omega arith));
      }
