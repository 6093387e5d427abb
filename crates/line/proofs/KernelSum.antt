-- A window's sum in the machine: one place on (`slide_`), and divided by the length by a multiplication (`raised_`,
-- `quotient_`). Over plain numbers.
use mathlib.Core.Path.{◌≡◌, refl, sym, ap, ap₂, ◌∙◌}
use Prim.Native.Nat.{ℕ, zero, suc, ◌+◌, ◌*◌, ◌/◌, ◌≤◌, ◌<◌}
use native.Mathlib.Nat.{mul_comm, mul-le-mul_right, mul-le-mul, mul-div-le, div-le_of_le-mul, zero-add}
use native.Mathlib.Numerals.{add-one}
use native.Mathlib.Omega.{arith}
use lib.IntN.{ℤ, pos, negsuc, nat_abs, ◌+ℤ◌, ◌-ℤ◌, ◌*ℤ◌, +ℤ_idr}
use lib.Signed.{◌≤ℤ◌, shr_z}
use mir.Syntax.{Width, w32, w64}
use mir.Val.{Fits, SFits, to_z, of_z}
use mir.Facts.{to_z-of_z, to_z_pos}
use Rattle.std.specs.Int.{int_div_euclid}
use Rattle.numbers.specs.Sum.{total}
use Rattle.numbers.proofs.Sum.{total_next}
use Rattle.line.specs.Kernel.{longest_blur, largest}
use Rattle.numbers.proofs.Nat.{div_by_mul}
use Rattle.numbers.proofs.Int.Divide.{shr_by_mul}
use Rattle.numbers.proofs.Int.Linear.{linear, up_add, nat_abs_up_dn}
use Rattle.numbers.proofs.Int.Machine.{fits_as, held}
use Rattle.numbers.proofs.Int.Size.{nat_abs_add, nat_abs_shr, nat_abs_pos, sfits_size}

-- what a call gives, read back
pub told : {w : Width} {x z : ℤ} → SFits w x → x ≡ z → to_z w (of_z w x) ≡ z
told f e = to_z-of_z f ∙ e

-- a sum by steps of `slide`
pub total_on : (g : ℕ → ℤ) (i : ℕ) {sum x : ℤ} → sum ≡ total g 0 i → x ≡ g i → sum +ℤ x -ℤ pos 0 ≡ total g 0 (i + 1)
total_on g i {sum} {x} d e =
    +ℤ_idr (sum +ℤ x)
    ∙ ap₂ ◌+ℤ◌ d (e ∙ ap g (sym (zero-add i)))
    ∙ sym (total_next g 0 i)
    ∙ ap (total g 0) (sym (add-one i))

-- ---- divided by a multiplication

-- the raised sum as it stands in the machine
abbrev raised_in : ℤ → ℕ → ℤ
raised_in z L = to_z w64 (of_z w64 (to_z w64 (of_z w64 z) +ℤ to_z w64 (of_z w64 (to_z w64 L *ℤ pos 262144))))

-- z a sum of L numbers up to 2^18
pub record Dividing (z : ℤ) (L r : ℕ) : Type 0 where
  pub sum_fits : SFits w64 z
  pub long : 1 ≤ L
  pub bounded : L ≤ longest_blur
  pub units : r ≡ 4398046511104 / L + 1
  pub small : nat_abs z ≤ L * 262144

module _ {z : ℤ} {L r : ℕ} (d : Dividing z L r) where
  scaled : to_z w64 L *ℤ pos 262144 ≡ pos (L * 262144)
  scaled = ap (◌*ℤ pos 262144) (to_z_pos w64 (omega (arith, d.bounded)))

  scaled-size : SFits w64 (pos (L * 262144))
  scaled-size = sfits_size (omega (arith, d.bounded))

  raised : to_z w64 (of_z w64 z) +ℤ to_z w64 (of_z w64 (to_z w64 L *ℤ pos 262144)) ≡ z +ℤ pos (L * 262144)
  raised = ap₂ ◌+ℤ◌ (to_z-of_z d.sum_fits) (held scaled scaled-size)

  raised-size : nat_abs (z +ℤ pos (L * 262144)) ≤ L * 524288
  raised-size = omega (arith, d.small, nat_abs_add z (pos (L * 262144)))

  raised-≥ : pos 0 ≤ℤ (z +ℤ pos (L * 262144))
  raised-≥ = omega (arith, linear, d.small, up_add z (pos (L * 262144)), nat_abs_up_dn z)

  raised-fits : SFits w64 (z +ℤ pos (L * 262144))
  raised-fits = sfits_size (omega (arith, d.bounded, raised-size))

  raised_is : raised_in z L ≡ z +ℤ pos (L * 262144)
  raised_is = held raised raised-fits

  size : nat_abs (raised_in z L) ≤ L * 524288
  size = rw raised_is raised-size

  -- L² × 2^19 < 2^42
  square : nat_abs (raised_in z L) * L < 4398046511104
  square =
      let most = mul-le-mul {n₁ = L} {m₁ = L} {n₂ = longest_blur} {m₂ = longest_blur} d.bounded d.bounded in
      omega (arith, mul-le-mul_right L size, most)

  pub quotient_fits : Fits w64 (nat_abs (raised_in z L) * r)
  quotient_fits =
      let e : L * 524288 * r ≡ 524288 * (L * (4398046511104 / L)) + 524288 * L = rw d.units (omega arith) in
      omega (arith, d.bounded, mul-le-mul_right r size, mul-div-le 4398046511104 L)

  quotient_is : nat_abs (raised_in z L) / L ≡ nat_abs (raised_in z L) * r / 4398046511104
  quotient_is = rw d.units (div_by_mul (nat_abs (raised_in z L)) L d.long square)

  quotient-size : nat_abs (raised_in z L) * r / 4398046511104 ≤ 524288
  quotient-size = rw (← quotient_is) (div-le_of_le-mul L (omega (arith, size)))

  pub quotient_narrows : SFits w32 (pos (nat_abs (raised_in z L) * r / 4398046511104))
  quotient_narrows = sfits_size (omega (arith, quotient-size))

  floored : to_z w32 (nat_abs (raised_in z L) * r / 4398046511104) -ℤ pos 262144 ≡ shr_z z L
  floored =
      let sum : pos (nat_abs (raised_in z L)) ≡ z +ℤ pos (262144 * L) =
      ap (λ (y : ℤ). pos (nat_abs y)) raised_is
      ∙ nat_abs_pos (z +ℤ pos (L * 262144)) raised-≥
      ∙ ap (λ (k : ℕ). z +ℤ pos k) (mul_comm L 262144)
      in
      ap (◌-ℤ pos 262144)
      (to_z_pos w32 (omega (arith, quotient-size))
      ∙ ap (λ (k : ℕ). pos (nat_abs (raised_in z L) * k / 4398046511104)) d.units)
      ∙ sym (shr_by_mul z L 262144 (nat_abs (raised_in z L)) d.long square sum)

  floored-fits : SFits w32 (shr_z z L)
  floored-fits = sfits_size (omega (arith, nat_abs_shr z L 262144 d.long (omega (arith, d.small))))

  pub quotient_lowers : SFits w32 (to_z w32 (nat_abs (raised_in z L) * r / 4398046511104) -ℤ pos 262144)
  quotient_lowers = fits_as floored floored-fits

  pub quotient_floors : to_z w32 (of_z w32 (to_z w32 (nat_abs (raised_in z L) * r / 4398046511104) -ℤ pos 262144))
      ≡ shr_z z L
  quotient_floors = held floored floored-fits

-- ---- divided by a division

euclid_is : (z : ℤ) (L : ℕ) → int_div_euclid z (pos L) ≡ shr_z z L
euclid_is (pos n) L = refl
euclid_is (negsuc n) L = refl

module _ {z : ℤ} {L : ℕ} (f : SFits w64 z) (long : 1 ≤ L) (bounded : L ≤ longest_blur)
    (small : nat_abs z ≤ L * 1069547265) where
  euclid_size : nat_abs (shr_z z L) ≤ 1069547265
  euclid_size = nat_abs_shr z L 1069547265 long (omega (arith, small))

  pub euclid_floors : {x : ℤ} → x ≡ int_div_euclid (to_z w64 (of_z w64 z)) (to_z w64 L)
      → to_z w32 (of_z w32 (to_z w64 (of_z w64 x))) ≡ shr_z z L
  euclid_floors {x} e =
      let length_is : to_z w64 L ≡ pos L = to_z_pos w64 (omega (arith, bounded)) in
      let same : x ≡ shr_z z L = rw (to_z-of_z f, length_is) at e ∙ euclid_is z L in
      let inner : to_z w64 (of_z w64 x) ≡ shr_z z L = held {w = w64} same (sfits_size (omega (arith, euclid_size))) in
      held {w = w32} inner (sfits_size (omega (arith, euclid_size)))

-- ---- how large an estimate may be

pub largest_most : (r : ℕ) → largest r ≤ 1069547265
largest_most zero = omega arith
largest_most (suc r) = omega arith

pub largest_byte : (r : ℕ) → 255 ≤ largest r
largest_byte zero = omega arith
largest_byte (suc r) = omega arith
