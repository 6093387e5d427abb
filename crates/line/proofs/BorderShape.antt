-- The shapes of the borders: Replicate and Constant are flat, Reflect comes again after 2n − 2 places, Wrap after n.
use mathlib.Core.Path.{◌≡◌, refl, sym, ap, ◌∙◌}
use mathlib.Core.Logic.{⊎_elim}
use Prim.Native.Nat.{ℕ, ◌-◌, ◌*◌, ◌≤◌, ◌<◌, max}
use native.Mathlib.Nat.{eq-or-lt_of_le}
use native.Mathlib.Omega.{arith}
use lib.IntN.{pos, ◌+ℤ◌}
use Rattle.raster.specs.Border.{modℤ, folded, border_map}
use Rattle.raster.specs.declared.border.LineBorderMode.TheVariants.{Replicate, Reflect, Constant, Wrap}
use Rattle.raster.specs.declared.border.BorderSample.TheVariants.{Inside}
use Rattle.raster.proofs.BorderMap.{modℤ-again, nearer_behind, constant_behind, reflected_one, reflected_more}
use Rattle.line.specs.Kernel.{FlatBorder, PeriodicBorder}

pub replicate_flat : (n : ℕ) → FlatBorder n (border_map Replicate n)
unfolding border_map
replicate_flat n =
    record {
      before = λ k. refl;
      behind = λ k h. ap Inside (nearer_behind n k h ∙ sym (nearer_behind n n (omega arith)));
    }

pub constant_flat : (v n : ℕ) → FlatBorder n (border_map (Constant v) n)
unfolding border_map
constant_flat v n =
    record {
      before = λ k. refl;
      behind = λ k h. constant_behind v n k h ∙ sym (constant_behind v n n (omega arith));
    }

pub reflect_periodic : (n : ℕ) → 1 ≤ n → PeriodicBorder (max 1 (2 * n - 2)) (border_map Reflect n)
unfolding border_map
reflect_periodic n some =
    record {
      some = omega arith;
      again = λ p.
          let on = p +ℤ pos (max 1 (2 * n - 2)) in
          ap Inside
          (⊎_elim
          (λ (e : 1 ≡ n). reflected_one n on (sym e) ∙ sym (reflected_one n p (sym e)))
          (λ (l : 1 < n).
          let m : max 1 (2 * n - 2) ≡ 2 * n - 2 = omega arith in
          reflected_more n on l
          ∙ ap (folded n) (ap (λ (k : ℕ). modℤ (p +ℤ pos k) (2 * n - 2)) m ∙ modℤ-again (2 * n - 2) (omega arith) p)
          ∙ sym (reflected_more n p l))
          (eq-or-lt_of_le some));
    }

pub wrap_periodic : (n : ℕ) → 1 ≤ n → PeriodicBorder n (border_map Wrap n)
unfolding border_map
wrap_periodic n some = record { some = some; again = λ p. ap Inside (modℤ-again n some p) }
