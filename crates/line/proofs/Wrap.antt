-- The wrapping border (document 02, K2): p and p + n take the same sample (`wrap_again`); the restoration of a rotated
-- line is the rotated restoration, for every iteration (`restored_rotated`); the working run lies near the exact one,
-- as under every border (`wrap_near`).
use mathlib.Core.Path.{◌≡◌, refl, sym, ap, ◌∙◌}
use Prim.Native.Nat.{ℕ, ◌+◌, ◌*◌, ◌/◌, ◌%◌, ◌≤◌, ◌<◌}
use native.Mathlib.Nat.{div-add-mod'}
use native.Mathlib.Omega.{arith}
use lib.IntN.{ℤ, pos, sub_ℕ, ◌+ℤ◌}
use Rattle.numbers.proofs.Int.Ring.{sub_ℕ-add}
use Rattle.numbers.proofs.Sum.{total_same, total_shift}
use Rattle.floats.specs.Factor.{scale}
use Rattle.raster.specs.Border.{border_map, modℤ}
use Rattle.raster.specs.declared.border.BorderSample.{BorderSample}
use Rattle.raster.specs.declared.border.LineBorderMode.TheVariants.{Wrap}
use Rattle.raster.proofs.BorderMap.{modℤ-again, modℤ-whole, modℤ-add}
use Rattle.line.specs.Line.{sample, window, after}
use Rattle.line.specs.Exact.{value_after}
use Rattle.line.specs.ExactLine.{exact}
use Rattle.line.specs.Near.{Near}
use Rattle.line.proofs.IterationLaws.{after_rearranged}
use Rattle.line.proofs.LineLaws.{sample_inside, window_is}
use Rattle.line.proofs.LineWindow.{border_of_line, window_reads}
use Rattle.line.proofs.NearLine.{line_near}

-- a line of n, rotated by s places: its place i is place i + s
abbrev pub rotated : ℕ → ℕ → (ℕ → ℤ) → ℕ → ℤ
rotated n s f i = f ((i + s) % n)

module _ (n : ℕ) (some : 0 < n) where
  abbrev wrap : ℤ → BorderSample
  wrap = border_map Wrap n

  sampled : (f : ℕ → ℤ) (p : ℤ) → sample wrap f p ≡ f (modℤ p n)
  unfolding border_map
  sampled f p = sample_inside wrap f p refl

  pub wrap_again : (f : ℕ → ℤ) (p : ℤ) → sample wrap f (p +ℤ pos n) ≡ sample wrap f p
  wrap_again f p = sampled f (p +ℤ pos n) ∙ ap f (modℤ-again n some p) ∙ sym (sampled f p)

  -- whole turns on it is the same sample too
  sample-whole : (j : ℕ) (f : ℕ → ℤ) (p : ℤ) → sample wrap f p ≡ sample wrap f (p +ℤ pos (j * n))
  sample-whole j f p = sampled f p ∙ ap f (sym (modℤ-whole n some j p)) ∙ sym (sampled f (p +ℤ pos (j * n)))

  -- the sample of the rotated line is the one s places on
  sample-rotated : (s : ℕ) (f : ℕ → ℤ) (p : ℤ) → sample wrap (rotated n s f) p ≡ sample wrap f (p +ℤ pos s)
  sample-rotated s f p =
      sampled (rotated n s f) p ∙ ap f (sym (modℤ-add n some p s)) ∙ sym (sampled f (p +ℤ pos s))

  module _ (L : ℕ) where
    -- where g's samples are those of f d places on, so are its windows
    window_on : (f g : ℕ → ℤ) (d : ℕ) → ((z : ℤ) → sample wrap g z ≡ sample wrap f (z +ℤ pos d)) → (p : ℕ)
        → window wrap L g p ≡ window wrap L f (p + d)
    window_on f g d on p =
        let at : (ℕ → ℤ) → ℕ → ℤ = λ y u. sample wrap y (sub_ℕ u (L / 2)) in
        window_is wrap g L p
        ∙ total_same (at g) (λ u. at f (u + d)) p L
        (λ u _ _. on (sub_ℕ u (L / 2)) ∙ ap (sample wrap f) (sub_ℕ-add u (L / 2) d))
        ∙ total_shift (at f) p d L
        ∙ sym (window_is wrap f L (p + d))

    window-rotated : (s : ℕ) (f : ℕ → ℤ) (p : ℕ) → window wrap L (rotated n s f) p ≡ window wrap L f ((p + s) % n)
    window-rotated s f p =
        let turns = (p + s) / n in
        let e : p + s ≡ (p + s) % n + turns * n = omega (arith, div-add-mod' (p + s) n) in
        window_on f (rotated n s f) s (sample-rotated s f) p
        ∙ ap (window wrap L f) e
        ∙ sym (window_on f f (turns * n) (sample-whole turns f) ((p + s) % n))

    pub restored_rotated : (s : ℕ) (b : ℕ → ℤ) (q k i : ℕ)
        → after wrap (rotated n s b) q L k i ≡ rotated n s (after wrap b q L k) i
    restored_rotated s b q k i =
        after_rearranged L (window_reads (border_of_line Wrap n some) L) (λ j. (j + s) % n) (window-rotated s) b q k i

    pub wrap_near : (b : ℕ → ℤ) (q : ℕ) → 0 < L → q ≤ scale → (k p : ℕ) → 1 ≤ k
        → Near q k (after wrap b q L k p) (value_after L k (exact wrap b q L k p))
    wrap_near = line_near wrap L
