-- What is squared fits, and the squares are the floor's.
use mir.Facts.{to_z-of_z}
use Rattle.std.proofs.Common.{◌≡◌, ◌∙◌, ap, arith, ℤ, nat_abs, ◌≤◌, ◌+ℤ◌, ◌-ℤ◌, to_z, of_z, w64}
use Rattle.numbers.proofs.Int.Machine.{add_held, sub_held}
use Rattle.numbers.proofs.Int.Size.{sfits_size}
use Rattle.tensor.specs.Tensor.{Small}
use Rattle.tensor.proofs.Floor.{at_least_squares, scaled_small}
use Rattle.tensor.proofs.TensorDirection.{pair_small}
use Rattle.tensor.proofs.confidence.reaches.Goals as goal

-- a sum as it is held
sum_held : (z : ℤ) → nat_abs z ≤ 2199023255552 → to_z w64 (of_z w64 z) ≡ z
sum_held z h = to_z-of_z {w = w64} (sfits_size (omega arith))

-- the sizes that are compared
module _ (A C E : ℤ) (s : Small A C E) where
  size_d : nat_abs (to_z w64 (of_z w64 (to_z w64 (of_z w64 A) -ℤ to_z w64 (of_z w64 E)))) ≡ nat_abs (A -ℤ E)
  size_d = ap nat_abs (sub_held w64 {a = A} {b = E} (sum_held A s.small_a) (sum_held E s.small_e) (pair_small s))

  size_c : nat_abs (to_z w64 (of_z w64 C)) ≡ nat_abs C
  size_c = ap nat_abs {y = C} (sum_held C s.small_c)

  size_t : nat_abs (to_z w64 (of_z w64 (to_z w64 (of_z w64 A) +ℤ to_z w64 (of_z w64 E)))) ≡ nat_abs (A +ℤ E)
  size_t = ap nat_abs (add_held w64 {a = A} {b = E} (sum_held A s.small_a) (sum_held E s.small_e) (pair_small s))

pub squares_reach-requires : goal.squares_reach-requires
squares_reach-requires c =
    let a = c.args in
    let t = a.sums in
    let small = c.requires.1 in
    let s = scaled_small a.floor t.a t.c t.e small c.requires.0 in
    rw (
      c.from-rest.ensures,
      c.unsigned_abs-2.ensures.value ∙ size_c t.a t.c t.e small,
      c.from.ensures,
      c.unsigned_abs-3.ensures.value ∙ size_t t.a t.c t.e small,
    )
    (omega (arith, s.y_most, s.z_most))

pub returns : goal.returns
returns c =
    let a = c.args in
    let t = a.sums in
    let small = c.requires.1 in
    let d = c.unsigned_abs.ensures.value ∙ size_d t.a t.c t.e small in
    let e = c.unsigned_abs-2.ensures.value ∙ size_c t.a t.c t.e small in
    let f = c.unsigned_abs-3.ensures.value ∙ size_t t.a t.c t.e small in
    let law = at_least_squares a.floor t.a t.c t.e in
    grind (arith, c.from-rest.ensures, d, e, c.from.ensures, f, c.squares_reach.ensures, law)
