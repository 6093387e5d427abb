-- A length that is found, of whatever bytes, is above zero, since every width is.
use Prim.Native.Nat.{ℕ, ◌<◌}
use native.Mathlib.Nat.{pos_of_ne-zero}
use mathlib.Core.Path.{◌≡◌, refl, subst}
use mathlib.Core.Bool.{Bool, true, false, cond, ◌||◌}
use mathlib.Core.List.{List}
use lib.Dec.{T, eqb, ltb, lit≤}
use lib.ListN.{length}
use lib.Ieee.{Float, binary64, of_bits, div}
use lib.Ieee.Fits.{div-fits}
use lib.Ieee.Positive.{positive}
use borrow.Author.Tests.{eqb-false}
use Rattle.numbers.proofs.Test.{or_false_left}
use Rattle.std.specs.Prelude.{Some, None}
use Rattle.image.specs.Call.{Gray8}
use Rattle.raster.specs.declared.direction.RasterDirection4.{RasterDirection4}
use Rattle.std.specs.List.{AllByRecursion as Each}
use Rattle.swings.specs.declared.Swing.{Swing}
use Rattle.swings.specs.Line.{lines_of, step_pixels}
use Rattle.swings.specs.Swings.{swings, strongest}
use Rattle.floats.proofs.Rounded.{Bounded}
use Rattle.floats.proofs.AboveZero.{AboveZero, above_div}
use Rattle.swings.proofs.Above.{picture_above}
use Rattle.blur.specs.declared.length.LineLengthConfig.{LineLengthConfig}
use Rattle.blur.specs.Median.{kept, median, six_tenths, length_from, length_of}
use Rattle.blur.specs.Length.{too_little, length_along}
use Rattle.blur.proofs.Sorting.{median_each}
use Rattle.blur.proofs.Passes.{kept_each}

six_tenths_lem : T (positive six_tenths) × Bounded 1 six_tenths
unfolding of_bits
six_tenths_lem = (tt, lit≤ tt)

from_above : (ws : List Float) (m : ℕ) (x : Float) → Each AboveZero ws → length_from ws m ≡ Some x → AboveZero x
from_above ws m x e = go (eqb (length ws) 0 || ltb (length ws) m) refl
  where
    go : (t : Bool) → (eqb (length ws) 0 || ltb (length ws) m) ≡ t
        → cond t None (Some (div binary64 (median ws) six_tenths)) ≡ Some x → AboveZero x
    go true q f = cc
    go false q f =
        let some : 0 < length ws =
        pos_of_ne-zero (eqb-false (length ws) 0 (or_false_left (eqb (length ws) 0) (ltb (length ws) m) q)) in
        let same : div binary64 (median ws) six_tenths ≡ x = cc in
        subst AboveZero same
        (record {
          above = above_div (median ws) six_tenths (median_each AboveZero ws e some) six_tenths_lem.0 six_tenths_lem.1;
          holds = div-fits binary64 (median ws) six_tenths;
        })

pub length_above : (src : Gray8) (d : RasterDirection4) (config : LineLengthConfig) (x : Float)
    → length_along src d config ≡ Some x → AboveZero x
length_above src d config x = go (too_little src.width src.height config)
  where
    l : List Swing
    l = swings config.minimum_amplitude (step_pixels d) (lines_of src.bytes d src.width src.height src.stride)

    go : (t : Bool) → cond t None (length_of l config.minimum_transitions) ≡ Some x → AboveZero x
    go true f = cc
    go false f =
        from_above (kept (strongest l) l) config.minimum_transitions x
        (kept_each AboveZero (strongest l) l
        (picture_above config.minimum_amplitude _ src.bytes d src.width src.height src.stride 0 0 _))
        f
