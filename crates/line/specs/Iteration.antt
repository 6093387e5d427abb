-- Van Cittert's iteration (document 01, "Mean along a line", "Restoration and line unsharp"), over any window.
-- P are the places: those of a line are numbers. Samples are a function y of the places, and W y p is the sum of the
-- samples in the window at place p, which has that many taps.
use Rattle.std.specs.Prelude.{ℕ, zero, suc, ℤ, pos, ◌+ℤ◌, ◌-ℤ◌, ◌*ℤ◌}
use Rattle.std.specs.Int.Signed.{shr_z, quot_z}
use Rattle.floats.specs.Factor.{scale}

abbrev pub Window : Type 0 → Type 0
Window P = (P → ℤ) → P → ℤ

-- "divided by L and floored"
unfoldable pub mean : {P : Type 0} → Window P → ℕ → (P → ℤ) → P → ℤ
mean W taps y p = shr_z (W y p) taps

-- one step from y, with the observed b and the mean m: y + (b − m) × q / 65,536, the quotient cut toward zero
abbrev pub step_from : ℕ → ℤ → ℤ → ℤ → ℤ
step_from q b m y = y +ℤ quot_z ((b -ℤ m) *ℤ pos q) (pos scale)

-- "Y(k+1) = Yk + (B − mean of Yk) × q / 65,536, the quotient cut toward zero"
unfoldable pub stepped : {P : Type 0} → Window P → ℕ → (P → ℤ) → ℕ → (P → ℤ) → P → ℤ
stepped W taps b q y p = step_from q (b p) (mean W taps y p) (y p)

-- the estimate after k iterations, Y0 = B
unfoldable pub after : {P : Type 0} → Window P → ℕ → (P → ℤ) → ℕ → ℕ → P → ℤ
after W taps b q zero = b
after W taps b q (suc k) = stepped W taps b q (after W taps b q k)
