-- Cutting to 0..255 brings no two values further apart: a byte is as near to the exact value cut as the estimate to the
-- exact value (`cut_near`).
use mathlib.Core.Path.{◌≡◌, refl}
use Prim.Native.Nat.{ℕ, ◌+◌, ◌*◌, ◌≤◌, ◌<◌, min}
use native.Mathlib.Nat.{mul-le-mul_left, min-eq_left, min-eq_right}
use native.Mathlib.Omega.{arith}
use borrow.Author.Tests.{leb-true, leb-false}
use lib.Dec.{leb}
use lib.IntN.{ℤ, pos, negsuc, nat_abs, ◌-ℤ◌, ◌*ℤ◌}
use Rattle.numbers.specs.Scalar.{clamp_byte}
use Rattle.numbers.proofs.Int.Linear.{up, dn, up_mul}
use Rattle.numbers.proofs.Test.{by_test}
use Rattle.line.specs.Exact.{Fraction}
use Rattle.line.specs.Near.{LessFrom, Near, bound, bound_at_one, cut_numerator, cut}
use Rattle.line.proofs.NearIteration.{apart_up, apart_by_up}

min_apart : (x z : ℤ) (c : ℕ) {b : ℕ} → nat_abs (x -ℤ z) < b → nat_abs (pos (min (up x) c) -ℤ pos (min (up z) c)) < b
min_apart x z c h = go x z (apart_up x z h)
  where
    go : (x z : ℤ) {b : ℕ} → (up x + dn z < up z + dn x + b) × (up z + dn x < up x + dn z + b)
        → nat_abs (pos (min (up x) c) -ℤ pos (min (up z) c)) < b
    go (pos x) (pos z) k = apart_by_up (pos (min x c)) (pos (min z c)) (omega arith) (omega arith)
    go (pos x) (negsuc z) k = apart_by_up (pos (min x c)) (pos (min 0 c)) (omega arith) (omega arith)
    go (negsuc x) (pos z) k = apart_by_up (pos (min 0 c)) (pos (min z c)) (omega arith) (omega arith)
    go (negsuc x) (negsuc z) k = apart_by_up (pos (min 0 c)) (pos (min 0 c)) (omega arith) (omega arith)

clamp_min : (d : ℕ) (y : ℤ) → d * clamp_byte y ≡ min (d * up y) (255 * d)
clamp_min d (pos n) =
    by_test (leb n 255)
    (λ e. let h : n ≤ 255 = leb-true n 255 e in rw (min-eq_left h) (omega (arith, mul-le-mul_left d h)))
    (λ e.
    let h : 255 ≤ n = omega (arith, leb-false n 255 e) in
    rw (min-eq_right h) (omega (arith, mul-le-mul_left d h)))
clamp_min d (negsuc n) = omega arith

cut_min : (d : ℕ) (n : ℤ) → cut_numerator n d ≡ min (up n) (255 * d)
cut_min d (pos n) = refl
cut_min d (negsuc n) = omega arith

cut_less : (bound : ℕ) (y : ℤ) (x : Fraction) → LessFrom bound y x → LessFrom bound (pos (clamp_byte y)) (cut x)
cut_less bound y x h =
    let d = x.denominator in
    rw (clamp_min d y, cut_min d x.numerator, ← up_mul d y) (min_apart (pos d *ℤ y) x.numerator (255 * d) h)

pub cut_near : {q k : ℕ} {y : ℤ} {x : Fraction} → Near q k y x → Near q k (pos (clamp_byte y)) (cut x)
cut_near {k = k} {y = y} {x = x} n =
    record {
      near = cut_less (bound k) y x n.near;
      near_at_one = λ one. cut_less (bound_at_one k) y x (n.near_at_one one);
    }
