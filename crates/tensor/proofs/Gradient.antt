-- Gradients and their sums as the code holds them: a gradient read back from its bits, products of gradients, and
-- a sum so far with its size.
use mathlib.Core.Path.{◌≡◌, refl, sym, ◌∙◌, ap, ap₂, subst}
use Prim.Native.Nat.{ℕ, ◌+◌, ◌*◌, ◌≤◌, ◌<◌}
use native.Mathlib.Nat.{mul-le-mul}
use native.Mathlib.Numerals.{add-one}
use native.Mathlib.Omega.{arith}
use lib.IntN.{ℤ, pos, nat_abs, ◌+ℤ◌, ◌*ℤ◌}
use mir.Syntax.{Width, w32, w64}
use mir.Val.{SFits, to_z, of_z}
use mir.Facts.{to_z-of_z}
use Rattle.numbers.specs.Sum.{total}
use Rattle.numbers.proofs.Int.Machine.{fits_as, held, sfits_add}
use Rattle.numbers.proofs.Int.Size.{nat_abs_add, nat_abs_mul, size_sfits, sfits_size}
use Rattle.numbers.proofs.Sum.{total_zero, total_next}
use Rattle.image.specs.Refusal.{max_side}
use Rattle.tensor.specs.Tensor.{Gradient, TensorSums}

pub gradient_held : {w : Width} {z r : ℤ} → SFits w r → Gradient z r → Gradient z (to_z w (of_z w r))
gradient_held {z = z} f g = subst (Gradient z) (sym (to_z-of_z f)) g

-- 1,020 × 1,020
pub product_small : {y z q r : ℤ} → Gradient y q → Gradient z r → nat_abs q * nat_abs r ≤ 1040400
product_small g h = mul-le-mul g.small h.small

-- ---- z is the sum of the first n terms, each of size b at most

pub record Sofar (g : ℕ → ℤ) (b n : ℕ) (z : ℤ) : Type 0 where
  pub sum : z ≡ total g 0 n
  pub small : nat_abs z ≤ n * b

pub sofar_none : (g : ℕ → ℤ) (b : ℕ) → Sofar g b 0 (pos 0)
sofar_none g b = record { sum = sym (total_zero g 0); small = omega arith }

pub sofar_next : {g : ℕ → ℤ} {b n : ℕ} {z t r : ℤ} → Sofar g b n z → t ≡ g n → nat_abs t ≤ b
    → r ≡ z +ℤ t → Sofar g b (n + 1) r
sofar_next {g} {b} {n} {z} {t} {r} s e h q =
    record {
      sum = q ∙ ap₂ ◌+ℤ◌ s.sum (e ∙ ap g {x = n} {y = 0 + n} (omega arith)) ∙ sym (total_next g 0 n)
          ∙ ap (total g 0) (sym (add-one n));
      small = rw q (omega (arith, s.small, nat_abs_add z t));
    }

-- all of them
pub sofar_all : {g : ℕ → ℤ} {b n m : ℕ} {z : ℤ} → Sofar g b n z → n ≡ m → z ≡ total g 0 m
sofar_all {g} s e = s.sum ∙ ap (total g 0) e

-- .. and all three of the products' sums
pub sums_all : {f g h : ℕ → ℤ} {b n : ℕ} {s : TensorSums} → Sofar f b n s.a × Sofar g b n s.c × Sofar h b n s.e
    → (m : ℕ) → n ≡ m → s ≡ record { a = total f 0 m; c = total g 0 m; e = total h 0 m }
sums_all so m e = rw (← sofar_all so.0 e, ← sofar_all so.1 e, ← sofar_all so.2 e) refl

-- ---- along a row: products of two gradients, of size 1,020 × 1,020 at most, so that their sums fit 32 bits

module _ {f : ℕ → ℤ} {x : ℕ} {s p q y z : ℤ} (so : Sofar f 1040400 x s) (b : x < max_side) (g : Gradient y p)
    (h : Gradient z q) where
  row-held : to_z w32 (of_z w32 s) ≡ s
  row-held = to_z-of_z {w = w32} (sfits_size (omega (arith, so.small)))

  pub product_next : {r : ℤ} → y *ℤ z ≡ f x → SFits w32 r → r ≡ to_z w32 (of_z w32 s) +ℤ p *ℤ q
      → Sofar f 1040400 (x + 1) (to_z w32 (of_z w32 r))
  product_next t k e =
      sofar_next so (ap₂ ◌*ℤ◌ g.is h.is ∙ t) (rw (nat_abs_mul p q) (product_small g h))
      (to_z-of_z k ∙ e ∙ ap (◌+ℤ p *ℤ q) row-held)

-- ---- over the rows: sums that fit 32 bits

module _ {f : ℕ → ℤ} {y : ℕ} {s v r : ℤ} (so : Sofar f 2147483648 y s) (b : y < max_side) (k : SFits w32 v)
    (is : r ≡ to_z w32 (of_z w32 v)) where
  sum-held : to_z w64 (of_z w64 s) +ℤ to_z w64 (of_z w64 r) ≡ s +ℤ v
  sum-held =
      let known : r ≡ v = is ∙ to_z-of_z k in
      ap₂ ◌+ℤ◌ (to_z-of_z {w = w64} (sfits_size (omega (arith, so.small))))
      (held {w = w64} known (sfits_size (omega (arith, size_sfits k))))

  row-fits : SFits w64 (s +ℤ v)
  row-fits = sfits_add s v (omega (arith, so.small, size_sfits k))

  pub row_fits : SFits w64 (to_z w64 (of_z w64 s) +ℤ to_z w64 (of_z w64 r))
  row_fits = fits_as sum-held row-fits

  pub row_next : v ≡ f y → Sofar f 2147483648 (y + 1)
      (to_z w64 (of_z w64 (to_z w64 (of_z w64 s) +ℤ to_z w64 (of_z w64 r))))
  row_next t = sofar_next so t (size_sfits k) (held sum-held row-fits)
