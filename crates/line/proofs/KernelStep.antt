-- One step of the estimate: in the machine, for q = 65,536 (`whole_`) and for any q (`cut_`), over plain numbers; and
-- along a line in the scratch, sample after sample (`stepped_`).
use mathlib.Core.Path.{◌≡◌, refl, sym, ap, ap₂, ◌∙◌}
use mathlib.Core.List.{List}
use Prim.Native.Nat.{ℕ, ◌+◌, ◌≤◌, ◌<◌}
use native.Mathlib.Nat.{zero-lt-suc, zero-add, add-sub_cancel_left, mul-le-mul}
use native.Mathlib.Omega.{arith}
use lib.IntN.{ℤ, pos, nat_abs, ◌+ℤ◌, ◌-ℤ◌, ◌*ℤ◌, *ℤ_comm}
use lib.ListN.{get_or, set}
use lib.Signed.{quot_z}
use mir.Syntax.{w32, w64}
use mir.Val.{SFits, to_z, of_z}
use mir.Facts.{to_z-of_z, to_z_pos}
use Rattle.numbers.proofs.Int.Divide.{quot_exact}
use Rattle.numbers.proofs.Int.Machine.{fits_as, held, sfits_sub, sfits_quot}
use Rattle.numbers.proofs.Int.Order.{pos-≤ℤ}
use Rattle.numbers.proofs.Int.Size.{nat_abs_sub, nat_abs_mul, sfits_size}
use Rattle.numbers.proofs.Places.{part_before, part_after, part_none, part_next}
use Rattle.numbers.proofs.Written.{written_none, written_set, written_kept}
use Rattle.floats.specs.Factor.{scale}
use Rattle.line.specs.Iteration.{step_from}
use Rattle.line.specs.Kernel.{line_at, SampleStepAsked, StepAsked, LineStepped}

-- ---- relaxation 1, in 32 bits

step_whole : (b m y : ℤ) → step_from scale b m y ≡ y +ℤ (b -ℤ m)
step_whole b m y =
    ap (λ (z : ℤ). y +ℤ quot_z z (pos scale)) (*ℤ_comm (b -ℤ m) (pos scale))
    ∙ ap (y +ℤ◌) (quot_exact (zero-lt-suc 65535) (b -ℤ m))

-- the sum as it stands in the machine
abbrev whole_in : ℤ → ℤ → ℤ → ℤ
whole_in b m y = to_z w32 (of_z w32 y) +ℤ to_z w32 (of_z w32 (to_z w32 (of_z w32 b) -ℤ to_z w32 (of_z w32 m)))

module _ {y b m : ℤ} {q : ℕ} (fy : SFits w32 y) (fb : SFits w32 b) (fm : SFits w32 m) (S : SampleStepAsked y b m q)
    (one : q ≡ scale) where
  whole-residual : to_z w32 (of_z w32 b) -ℤ to_z w32 (of_z w32 m) ≡ b -ℤ m
  whole-residual = ap₂ ◌-ℤ◌ (to_z-of_z fb) (to_z-of_z fm)

  whole-size : SFits w32 (b -ℤ m)
  whole-size = sfits_sub b m (omega (arith, S.byte, S.small))

  whole_sum : whole_in b m y ≡ step_from q b m y
  whole_sum =
      ap₂ ◌+ℤ◌ (to_z-of_z fy) (held whole-residual whole-size)
      ∙ sym (step_whole b m y)
      ∙ ap (λ (k : ℕ). step_from k b m y) (sym one)

  pub whole_is : to_z w32 (of_z w32 (whole_in b m y)) ≡ step_from q b m y
  whole_is = held {w = w32} whole_sum (sfits_size S.fits)

-- ---- any q, in 64 bits; xb, xm and xy as they stand in the machine

-- the quotient there
abbrev quotient_in : ℕ → ℤ → ℤ → ℤ
quotient_in q xb xm = quot_z (to_z w64 (of_z w64 (to_z w64 (of_z w64 (xb -ℤ xm)) *ℤ to_z w64 q))) (pos scale)

module _ {xb xm xy b m y : ℤ} {q : ℕ} (S : SampleStepAsked y b m q) (eb : xb ≡ b) (em : xm ≡ m) (ey : xy ≡ y) where
  residual : xb -ℤ xm ≡ b -ℤ m
  residual = ap₂ ◌-ℤ◌ eb em

  residual-size : nat_abs (b -ℤ m) ≤ 1069547520
  residual-size = omega (arith, nat_abs_sub b m, S.byte, S.small)

  residual-fits : SFits w64 (b -ℤ m)
  residual-fits = sfits_size (omega (arith, residual-size))

  product : to_z w64 (of_z w64 (xb -ℤ xm)) *ℤ to_z w64 q ≡ (b -ℤ m) *ℤ pos q
  product = ap₂ ◌*ℤ◌ (held residual residual-fits) (to_z_pos w64 (omega (arith, S.gain)))

  product_fits : SFits w64 ((b -ℤ m) *ℤ pos q)
  product_fits = sfits_size (rw (nat_abs_mul (b -ℤ m) (pos q)) (omega (arith, mul-le-mul residual-size S.gain)))

  pub cut_muls : SFits w64 (to_z w64 (of_z w64 (xb -ℤ xm)) *ℤ to_z w64 q)
  cut_muls = fits_as product product_fits

  quotient : quotient_in q xb xm ≡ quot_z ((b -ℤ m) *ℤ pos q) (pos scale)
  quotient = ap (λ (z : ℤ). quot_z z (pos scale)) (held product product_fits)

  quotient_fits : SFits w64 (quot_z ((b -ℤ m) *ℤ pos q) (pos scale))
  quotient_fits = sfits_quot (pos-≤ℤ (omega arith)) product_fits

  sum : xy +ℤ to_z w64 (of_z w64 (quotient_in q xb xm)) ≡ step_from q b m y
  sum = ap₂ ◌+ℤ◌ ey (held quotient quotient_fits)

  sum_fits : SFits w64 (step_from q b m y)
  sum_fits = sfits_size (omega (arith, S.fits))

  pub cut_adds : SFits w64 (xy +ℤ to_z w64 (of_z w64 (quotient_in q xb xm)))
  cut_adds = fits_as sum sum_fits

  pub cut_is : to_z w64 (of_z w64 (xy +ℤ to_z w64 (of_z w64 (quotient_in q xb xm)))) ≡ step_from q b m y
  cut_is = held sum sum_fits

  pub cut_narrows : SFits w32 (to_z w64 (of_z w64 (xy +ℤ to_z w64 (of_z w64 (quotient_in q xb xm)))))
  cut_narrows = fits_as {w = w32} cut_is (sfits_size S.fits)

  pub cut_narrow : to_z w32 (of_z w32 (to_z w64 (of_z w64 (xy +ℤ to_z w64 (of_z w64 (quotient_in q xb xm))))))
      ≡ step_from q b m y
  cut_narrow = held {w = w32} cut_is (sfits_size S.fits)

-- ---- along a line

module _ {n q : ℕ} {old : List ℤ} (A : StepAsked n q old) where
  pub stepped_none : LineStepped n 0 q old old
  stepped_none = record { written = written_none λ j _. part_none n j }

  module _ {k : ℕ} {new : List ℤ} (L : LineStepped n k q old new) (h : k < n) where
    pub estimate_kept : line_at n new k ≡ line_at n old k
    estimate_kept = written_kept L.written (n + k) (part_after n k (n + k) (omega arith))

    pub observed_kept : get_or new k (pos 0) ≡ line_at 0 old k
    observed_kept =
        written_kept L.written k (part_before n k k h) ∙ ap (λ (i : ℕ). get_or old i (pos 0)) (sym (zero-add k))

    pub mean_kept : line_at (n + n) new k ≡ line_at (n + n) old k
    mean_kept = written_kept L.written (n + n + k) (part_after n k (n + n + k) (omega arith))

    -- what the step of sample k asks, of the values as they are read
    pub step_asked : {y b m : ℤ} → y ≡ line_at n new k → b ≡ get_or new k (pos 0) → m ≡ line_at (n + n) new k
        → SampleStepAsked y b m q
    step_asked d e f = rw (d ∙ estimate_kept, e ∙ observed_kept, f ∙ mean_kept) (A.each k h)

    pub stepped_next : (v : ℤ) {y b m : ℤ} → y ≡ line_at n new k → b ≡ get_or new k (pos 0) → m ≡ line_at (n + n) new k
        → v ≡ step_from q b m y → LineStepped n (k + 1) q old (set new (n + k) v)
    stepped_next v d e f g =
        record {
          written =
              written_set (n + k) v L.written
              (rw L.written.same_length (omega (arith, A.room)))
              (g ∙ rw (d ∙ estimate_kept, e ∙ observed_kept, f ∙ mean_kept, add-sub_cancel_left n k) refl)
              (part_next n k);
        }
