-- Laws of a record's numbers: a border and its number and value determine each other, a direction and its number too.
use mathlib.Core.Path.{◌≡◌, refl}
use mathlib.Core.Bool.{true, false, and-eq-true_iff}
use mathlib.Core.List.{[], ◌∷◌, map}
use Prim.Native.Nat.{ℕ, zero, suc, ◌≤◌}
use native.Mathlib.Omega.{arith}
use borrow.Author.Tests.{eqb-true, eq-eqb}
use lib.Dec.{eqb}
use Rattle.raster.specs.Border.{border_code, border_value, border_from, is_border}
use Rattle.raster.specs.Direction.{direction_index, direction_from}
use Rattle.raster.specs.declared.border.LineBorderMode.{LineBorderMode}
use Rattle.raster.specs.declared.border.LineBorderMode.TheVariants.{Replicate, Reflect, Constant, Wrap}
use Rattle.raster.specs.declared.direction.RasterDirection4.{RasterDirection4}
use Rattle.raster.specs.declared.direction.RasterDirection4.TheVariants.{Horizontal, DownRight}
use Rattle.raster.specs.declared.direction.RasterDirection4.TheVariants.{Vertical, DownLeft}

-- ---- borders

pub from_border : (b : LineBorderMode) → border_from (border_code b) (border_value b) ≡ b
from_border Replicate = refl
from_border Reflect = refl
from_border (Constant v) = refl
from_border Wrap = refl

pub border_from_lem : (code value : ℕ) → is_border code value ≡ true
    → (border_code (border_from code value) ≡ code) × (border_value (border_from code value) ≡ value)
unfolding is_border
border_from_lem code value h =
    let p = (and-eq-true_iff (eqb (border_code (border_from code value)) code) _).0 h in
    (eqb-true _ code p.0, eqb-true _ value p.1)

-- every border has its number and its value
pub is_border_lem : (b : LineBorderMode) → is_border (border_code b) (border_value b) ≡ true
unfolding is_border
is_border_lem b =
    rw (from_border b, eq-eqb (border_code b) (border_code b) refl, eq-eqb (border_value b) (border_value b) refl)

-- worked: the value of Replicate, Reflect and Wrap is 0, of Constant any; 4 is no border's number
values : map (is_border 0) (0 ∷ 7 ∷ []) ≡ true ∷ false ∷ []
unfolding is_border
values = refl

constants : map (is_border 2) (0 ∷ 7 ∷ []) ≡ true ∷ true ∷ []
unfolding is_border
constants = refl

wraps : map (is_border 3) (0 ∷ 7 ∷ []) ≡ true ∷ false ∷ []
unfolding is_border
wraps = refl

no_border : map (is_border 4) (0 ∷ 7 ∷ []) ≡ false ∷ false ∷ []
unfolding is_border
no_border = refl

-- ---- directions

pub from_index : (d : RasterDirection4) → direction_from (direction_index d) ≡ d
from_index Horizontal = refl
from_index DownRight = refl
from_index Vertical = refl
from_index DownLeft = refl

pub index_from : (d : ℕ) → d ≤ 3 → direction_index (direction_from d) ≡ d
index_from zero h = refl
index_from (suc zero) h = refl
index_from (suc (suc zero)) h = refl
index_from (suc (suc (suc zero))) h = refl
index_from (suc (suc (suc (suc d)))) h = absurd (omega (arith, h))

pub index_most : (d : RasterDirection4) → direction_index d ≤ 3
index_most Horizontal = omega arith
index_most DownRight = omega arith
index_most Vertical = omega arith
index_most DownLeft = omega arith
