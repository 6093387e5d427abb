-- Every swing of lines of bytes with at most 1,025 samples is at most 7,156 pixels wide (`picture_small`), and so
-- finite.
use Prim.Native.Nat.{ℕ, zero, suc, ◌+◌, ◌-◌, ◌≤◌}
use native.Mathlib.Nat.{le_trans, le_refl}
use native.Mathlib.Omega.{arith}
use mathlib.Core.Path.{◌≡◌, refl}
use mathlib.Core.Bool.{Bool, true, false, cond}
use lib.Dec.{ltb, lit≤}
use lib.IntN.{pos, ◌-ℤ◌}
use lib.Ieee.{Float, binary64, of_bits, of_int, sub, mul, div, lt, eq}
use lib.Ieee.Exact.{HasValue}
use Rattle.swings.specs.declared.Swing.{Swing}
use Rattle.std.specs.Prelude.{Option, Some, None}
use Rattle.raster.specs.declared.direction.RasterDirection4.{RasterDirection4}
use Rattle.swings.specs.Line.{Lines, step_pixels}
use Rattle.swings.specs.Rise.{double, swing_of, level_of, crossed_at, place_at, crossing_of, low_part, high_part}
use Rattle.swings.specs.Rise.{rise_between, rise_of}
use Rattle.swings.specs.Swings.{scaled_by, swings_from}
use Rattle.std.specs.List.{AllByRecursion as Each}
use Rattle.numbers.proofs.Test.{cond_both}
use Rattle.numbers.proofs.Int.Size.{nat_abs_sub_pos}
use Rattle.floats.proofs.Values.{of_int_value}
use Rattle.floats.proofs.Rounded.{Bounded, bounded_int, bounded_add, bounded_sub, bounded_mul, bounded_div}
use Rattle.floats.proofs.Rounded.{differ_by_one}
use Rattle.swings.proofs.EachSwing.{RiseIs, rise_map, picture_each}
use Rattle.swings.proofs.Above.{pixel_is}

-- ---- samples and levels
pub byte_value : (v : ℕ) → v ≤ 255 → HasValue (of_int binary64 (pos v)) false v 1
byte_value v h = of_int_value v (le_trans h (lit≤ tt))

byte_small : (v : ℕ) → v ≤ 255 → Bounded 255 (of_int binary64 (pos v))
byte_small v h = bounded_int (pos v) 255 h (lit≤ tt)

amplitude_small : (v w : ℕ) → v ≤ 255 → w ≤ 255 → Bounded 255 (of_int binary64 (pos v -ℤ pos w))
amplitude_small v w h k = bounded_int (pos v -ℤ pos w) 255 (nat_abs_sub_pos h k) (lit≤ tt)

level_small : (va vb : ℕ) (part : Float) → va ≤ 255 → vb ≤ 255 → Bounded 1 part → Bounded 510 (level_of va vb part)
unfolding level_of
level_small va vb part h k p =
    bounded_add (of_int binary64 (pos va)) (mul binary64 part (of_int binary64 (pos vb -ℤ pos va))) 255 255 (lit≤ tt)
    (byte_small va h)
    (bounded_mul part (of_int binary64 (pos vb -ℤ pos va)) 1 255 (lit≤ tt) p (amplitude_small vb va k h))

low_small : Bounded 1 low_part
unfolding of_bits
low_small = lit≤ tt

high_small : Bounded 1 high_part
unfolding of_bits
high_small = lit≤ tt

zero_small : Bounded 765 (of_bits binary64 0)
unfolding of_bits
zero_small = lit≤ tt

-- ---- crossings
place_small : (N i : ℕ) (level : Float) (v w : ℕ) → i ≤ N → N ≤ 1024 → v ≤ 255 → w ≤ 255 → Bounded 510 level
    → Bounded (N + 765) (place_at i level (of_int binary64 (pos v)) (of_int binary64 (pos w)))
unfolding place_at
place_small N i level v w i≤ N≤ h k l =
    bounded_add (of_int binary64 (pos i)) _ N 765 (omega arith) (bounded_int (pos i) N i≤ (omega arith))
    (go (eq (of_int binary64 (pos w)) (of_int binary64 (pos v))) refl)
  where
    go : (t : Bool) → eq (of_int binary64 (pos w)) (of_int binary64 (pos v)) ≡ t
        → Bounded 765 (cond t (of_bits binary64 0)
        (div binary64 (sub binary64 level (of_int binary64 (pos v)))
        (sub binary64 (of_int binary64 (pos w)) (of_int binary64 (pos v)))))
    go true e = zero_small
    go false e =
        bounded_div (sub binary64 level (of_int binary64 (pos v)))
        (sub binary64 (of_int binary64 (pos w)) (of_int binary64 (pos v))) 765 (lit≤ tt)
        (bounded_sub level (of_int binary64 (pos v)) 510 255 (lit≤ tt) l (byte_small v h))
        (differ_by_one (of_int binary64 (pos w)) (of_int binary64 (pos v)) w v (byte_value w k) (byte_value v h)
        (le_trans k (lit≤ tt)) (le_trans h (lit≤ tt)) e)

abbrev MarkBounded : ℕ → Option Float → Type 0
MarkBounded B None = Unit {0}
MarkBounded B (Some p) = Bounded B p

crossing_small : (x : ℕ → ℕ) → ((j : ℕ) → x j ≤ 255) → (rising : Bool) (level : Float) → Bounded 510 level
    → (N : ℕ) → N ≤ 1024 → (i k : ℕ) → i + k ≤ N → MarkBounded (N + 765) (crossing_of x rising level i k)
unfolding crossing_of
crossing_small x byte rising level l N N≤ i zero h = tt
crossing_small x byte rising level l N N≤ i (suc k) h =
    cond_both (MarkBounded (N + 765)) (crossed_at rising level (double x i) (double x (suc i)))
    (Some (place_at i level (double x i) (double x (suc i)))) (crossing_of x rising level (suc i) k)
    (place_small N i level (x i) (x (suc i)) (omega arith) N≤ (byte i) (byte (suc i)) l)
    (crossing_small x byte rising level l N N≤ (suc i) k (omega arith))

-- ---- rises
abbrev BoundedWidth : ℕ → Swing → Type 0
BoundedWidth B s = Bounded B s.width

between_small : (low high : Option Float) (size : ℕ) → MarkBounded 1789 low → MarkBounded 1789 high
    → RiseIs (BoundedWidth 3578) (rise_between low high size)
unfolding rise_between
between_small None high size h k = tt
between_small (Some p0) None size h k = tt
between_small (Some p0) (Some p1) size h k =
    cond_both (RiseIs (BoundedWidth 3578)) (lt p0 p1) (Some (record { width = sub binary64 p1 p0; swing = pos size }))
    None (bounded_sub p1 p0 1789 1789 (lit≤ tt) k h) tt

rise_small : (least : ℕ) (x : ℕ → ℕ) → ((j : ℕ) → x j ≤ 255) → (a b : ℕ) → a ≤ 1024 → b ≤ 1024
    → RiseIs (BoundedWidth 3578) (rise_of least x a b)
unfolding rise_of
rise_small least x byte a b h k =
    let reach : a + (b - a) ≤ 1024 = omega arith in
    let mark : (part : Float) → Bounded 1 part
    → MarkBounded 1789 (crossing_of x (ltb (x a) (x b)) (level_of (x a) (x b) part) a (b - a)) =
    λ part p. crossing_small x byte (ltb (x a) (x b)) (level_of (x a) (x b) part)
    (level_small (x a) (x b) part (byte a) (byte b) p) 1024 (le_refl 1024) a (b - a) reach in
    cond_both (RiseIs (BoundedWidth 3578)) (ltb (swing_of (x a) (x b)) least) None _ tt
    (between_small (crossing_of x (ltb (x a) (x b)) (level_of (x a) (x b) low_part) a (b - a))
    (crossing_of x (ltb (x a) (x b)) (level_of (x a) (x b) high_part) a (b - a)) (swing_of (x a) (x b))
    (mark low_part low_small) (mark high_part high_small))

-- ---- all swings
pub picture_small : (least : ℕ) (d : RasterDirection4) (lines : Lines) → ((k j : ℕ) → lines.line k j ≤ 255)
    → ((k : ℕ) → lines.len k ≤ 1025) → (k a j : ℕ)
    → Each (λ (s : Swing). Bounded 7156 s.width) (swings_from least (step_pixels d) lines k a j)
picture_small least d =
    picture_each least (step_pixels d) 1024 (BoundedWidth 7156) (λ (x : ℕ → ℕ). (j : ℕ) → x j ≤ 255)
    (λ x byte a b h k.
    rise_map (BoundedWidth 3578) (λ (s : Swing). BoundedWidth 7156 (scaled_by (step_pixels d) s))
    (λ s small. bounded_mul s.width (step_pixels d) 3578 2 (lit≤ tt) small (pixel_is d).small) (rise_of least x a b)
    (rise_small least x byte a b h k))
