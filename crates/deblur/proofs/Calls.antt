-- The calls along lines where their settings are refused: what they decide (`settings_refused`), and their contract
-- (`refused_told`).
use mathlib.Core.Path.{◌≡◌, refl, sym, ap}
use mathlib.Core.Bool.{true, false≢true}
use Prim.Native.Nat.{ℕ, zero, suc}
use Rattle.std.specs.Prelude.{Option, Some, None, Result, Err, is_some}
use Rattle.image.specs.Call.{Decision, refuses, told, map_found, number_of_refusal, Outcome}
use Rattle.image.specs.Refusal.{first_refusal}
use Rattle.image.specs.declared.refusal.Refusal.{Refusal}
use Rattle.image.proofs.Call.{outcome_refused, accepts_not_refuses}
use Rattle.raster.specs.declared.direction.RasterDirection4.{RasterDirection4}
use Rattle.deblur.specs.Calls.{decided_along, plan_of}
use Rattle.deblur.specs.Settings.{LineFilter}

module _ {A : Type 0} (g : RasterDirection4 → A) where
  along_refused : (n number next : ℕ) (d : Option RasterDirection4) → (number ≡ 0 → is_some d ≡ true)
      → refuses n ≡ map_found g (decided_along number d) → decided_along (first_refusal number next) d ≡ refuses n
  along_refused n zero next (Some d) h e = absurd (accepts_not_refuses (sym e))
  along_refused n zero next None h e = absurd (false≢true (h refl))
  along_refused n (suc number) next (Some d) h e = let z : n ≡ suc number = cc in ap refuses (sym z)
  along_refused n (suc number) next None h e = let z : n ≡ suc number = cc in ap refuses (sym z)

-- of accepted pictures
pub settings_refused : (f : LineFilter) (w h n pictures next : ℕ) → (f.refusal w h ≡ 0 → is_some f.direction ≡ true)
    → pictures ≡ 0 → refuses n ≡ plan_of f w h
    → decided_along (first_refusal pictures (first_refusal (f.refusal w h) next)) f.direction ≡ refuses n
settings_refused f w h n pictures next directed e d =
    rw e (along_refused _ n (f.refusal w h) next f.direction directed d)

module _ {R A D S : Type 0} {decision : Decision R} (f : R → A) (writes : R → D → D → Type 0) (old : D) (scratch : S)
  where
    pub refused_told : (r : Refusal) → decision ≡ refuses (number_of_refusal r) → {answer : Result A Refusal}
        → answer ≡ Err r → Outcome decision (map_found f) writes old old scratch scratch (told answer)
    refused_told r e same = outcome_refused (map_found f) writes old scratch (number_of_refusal r) e (ap told same)
