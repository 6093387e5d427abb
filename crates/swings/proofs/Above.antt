-- Every swing, of whatever lines, has a width above zero (`picture_above`).
use Prim.Native.Nat.{ℕ, zero, suc, ◌-◌, ◌≤◌, max}
use native.Mathlib.Omega.{arith}
use mathlib.Core.Path.{◌≡◌, refl}
use mathlib.Core.Bool.{Bool, true, false, cond}
use mathlib.Core.List.{List}
use lib.Dec.{T, ltb, lit≤}
use lib.IntN.{pos}
use lib.Ieee.{Float, binary64, of_bits, of_int, sub, lt, fits}
use lib.Ieee.Fits.{add-fits, sub-fits, mul-fits}
use lib.Ieee.Positive.{positive}
use Rattle.raster.specs.declared.direction.RasterDirection4.{RasterDirection4}
use Rattle.raster.specs.declared.direction.RasterDirection4.TheVariants.{Horizontal, DownRight, Vertical, DownLeft}
use Rattle.raster.specs.Lines.{line_length}
use Rattle.swings.specs.declared.Swing.{Swing}
use Rattle.std.specs.Prelude.{Option, Some, None}
use Rattle.swings.specs.Line.{first_lines, step_pixels}
use Rattle.swings.specs.Rise.{double, swing_of, level_of, crossed_at, place_at, crossing_of, low_part, high_part}
use Rattle.swings.specs.Rise.{rise_between, rise_of}
use Rattle.swings.specs.Swings.{scaled_by, swings_from}
use Rattle.std.specs.List.{AllByRecursion as Each}
use Rattle.numbers.proofs.Test.{cond_both}
use Rattle.floats.proofs.Rounded.{Bounded, AtLeastOne}
use Rattle.floats.proofs.AboveZero.{AboveZero, above_sub, above_mul}
use Rattle.swings.proofs.EachSwing.{RiseIs, rise_map, picture_each}

-- ---- rises
abbrev MarkFits : Option Float → Type 0
MarkFits None = Unit {0}
MarkFits (Some p) = T (fits binary64 p)

place_fits : (i : ℕ) (level v0 v1 : Float) → T (fits binary64 (place_at i level v0 v1))
unfolding place_at
place_fits i level v0 v1 = add-fits binary64 (of_int binary64 (pos i)) _

crossing_fits : (x : ℕ → ℕ) (rising : Bool) (level : Float) (i k : ℕ) → MarkFits (crossing_of x rising level i k)
unfolding crossing_of
crossing_fits x rising level i zero = tt
crossing_fits x rising level i (suc k) =
    cond_both MarkFits (crossed_at rising level (double x i) (double x (suc i)))
    (Some (place_at i level (double x i) (double x (suc i)))) (crossing_of x rising level (suc i) k)
    (place_fits i level (double x i) (double x (suc i))) (crossing_fits x rising level (suc i) k)

abbrev Wide : Swing → Type 0
Wide s = AboveZero s.width

between_above : (low high : Option Float) (size : ℕ) → MarkFits low → MarkFits high → RiseIs Wide (rise_between low high size)
unfolding rise_between
between_above None high size h k = tt
between_above (Some p0) None size h k = tt
between_above (Some p0) (Some p1) size h k = go (lt p0 p1) refl
  where
    go : (t : Bool) → lt p0 p1 ≡ t
        → RiseIs Wide (cond t (Some (record { width = sub binary64 p1 p0; swing = pos size })) None)
    go true e = record { above = above_sub p1 p0 k h e; holds = sub-fits binary64 p1 p0 }
    go false e = tt

rise_above : (least : ℕ) (x : ℕ → ℕ) (a b : ℕ) → RiseIs Wide (rise_of least x a b)
unfolding rise_of
rise_above least x a b =
    cond_both (RiseIs Wide) (ltb (swing_of (x a) (x b)) least) None _ tt
    (between_above (crossing_of x (ltb (x a) (x b)) (level_of (x a) (x b) low_part) a (b - a))
    (crossing_of x (ltb (x a) (x b)) (level_of (x a) (x b) high_part) a (b - a)) (swing_of (x a) (x b))
    (crossing_fits x (ltb (x a) (x b)) (level_of (x a) (x b) low_part) a (b - a))
    (crossing_fits x (ltb (x a) (x b)) (level_of (x a) (x b) high_part) a (b - a)))

-- ---- the length of a direction's steps
pub record Pixel (p : Float) : Type 0 where
  pub above : T (positive p)
  pub big : AtLeastOne p
  pub small : Bounded 2 p

pixel_one : Pixel (of_bits binary64 0x3FF0_0000_0000_0000)
unfolding of_bits
pixel_one = record { above = tt; big = lit≤ tt; small = lit≤ tt }

pixel_diagonal : Pixel (of_bits binary64 0x3FF6_A09E_667F_3BCD)
unfolding of_bits
pixel_diagonal = record { above = tt; big = lit≤ tt; small = lit≤ tt }

pub pixel_is : (d : RasterDirection4) → Pixel (step_pixels d)
pixel_is Horizontal = pixel_one
pixel_is DownRight = pixel_diagonal
pixel_is Vertical = pixel_one
pixel_is DownLeft = pixel_diagonal

-- ---- all swings of lines
pub line_short : (d : RasterDirection4) (w h k : ℕ) → line_length d w h k ≤ max w h
line_short Horizontal w h k = omega arith
line_short DownRight w h k = omega arith
line_short Vertical w h k = omega arith
line_short DownLeft w h k = omega arith

pub picture_above : (least count : ℕ) (bytes : List ℕ) (d : RasterDirection4) (w h stride k a j : ℕ)
    → Each (λ (s : Swing). AboveZero s.width)
    (swings_from least (step_pixels d) (first_lines count bytes d w h stride) k a j)
picture_above least count bytes d w h stride =
    picture_each least (step_pixels d) (max w h) Wide (λ (x : ℕ → ℕ). Unit {0})
    (λ x is a b _ _.
    rise_map Wide (λ (s : Swing). Wide (scaled_by (step_pixels d) s))
    (λ s e. record {
      above = above_mul s.width (step_pixels d) e (pixel_is d).above (pixel_is d).big;
      holds =
          mul-fits binary64 s.width (step_pixels d);
    })
    (rise_of least x a b) (rise_above least x a b))
    (first_lines count bytes d w h stride) (λ k. tt) (λ k. omega (arith, line_short d w h k))
