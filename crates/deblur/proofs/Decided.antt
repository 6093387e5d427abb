-- What a call along lines decides, by its refusal's number and the direction that its angle snaps to.
use Prim.Native.Nat.{ℕ, zero, suc}
use native.Mathlib.Omega.{arith}
use mathlib.Core.Bool.{true, false≢true}
use mathlib.Core.Path.{◌≡◌, refl, sym, ap}
use Rattle.std.specs.Prelude.{Option, Some, None, is_some}
use Rattle.image.specs.Call.{Decision, accepts, refuses, number_of, map_found}
use Rattle.image.proofs.Call.{number_decided, decided_accepts, accepts_not_refuses}
use Rattle.raster.specs.declared.direction.RasterDirection4.{RasterDirection4}
use Rattle.deblur.specs.Calls.{decided_along, metadata_of}
use Rattle.deblur.specs.declared.RestorationMetadata.{RestorationMetadata}

pub number_along : (n : ℕ) (s : Option RasterDirection4) → number_of (decided_along n s) ≡ n
number_along n (Some d) = number_decided n d
number_along n None = refl

-- where it is accepted, nothing is refused, and there is a direction
pub along_accepts : (n : ℕ) (s : Option RasterDirection4) (d : RasterDirection4) → decided_along n s ≡ accepts d
    → (n ≡ 0) × (s ≡ Some d)
along_accepts n (Some d') d e = let a = decided_accepts n d' d e in (a.0, ap Some a.1)
along_accepts n None d e = absurd (accepts_not_refuses (sym e))

-- a call whose number is 0 only with a direction is not refused with 0
pub never_0 : (n : ℕ) (s : Option RasterDirection4) → (n ≡ 0 → is_some s ≡ true) → decided_along n s ≡ refuses 0 → ⊥
never_0 zero (Some d) h e = accepts_not_refuses e
never_0 (suc n) (Some d) h e = let z : suc n ≡ 0 = cc in omega arith
never_0 n None h e = let z : n ≡ 0 = cc in false≢true (h z)

-- an answer tells the decision
pub answer_done : (x : Decision RasterDirection4) (m : RestorationMetadata) → map_found metadata_of x ≡ accepts m
    → x ≡ accepts m.raster_direction
answer_done (accepts d) m e = cc
answer_done (refuses n) m e = absurd (accepts_not_refuses (sym e))

pub answer_refused : (x : Decision RasterDirection4) (n : ℕ) → map_found metadata_of x ≡ refuses n → x ≡ refuses n
answer_refused (accepts d) n e = absurd (accepts_not_refuses e)
answer_refused (refuses n') n e = cc
