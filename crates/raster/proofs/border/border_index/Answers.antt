-- `raster::border::border_index` meets its contract.
use Rattle.std.proofs.Common.{◌≡◌, ℕ, eqb, ◌⊎◌, inl, inr, ap, ◌∙◌, refl}
use lib.IntN.{ℤ, sub_ℕ}
use Rattle.raster.specs.Border.{border_code, border_map}
use Rattle.raster.specs.declared.border.LineBorderMode.{LineBorderMode}
use Rattle.raster.specs.declared.border.LineBorderMode.TheVariants.{Reflect, Wrap}
use Rattle.raster.specs.declared.border.BorderSample.TheVariants.{Inside}
use Rattle.raster.proofs.BorderMap.{periodic}
use Rattle.raster.proofs.border.border_index.Goals as goal

pub returns-in-Replicate : goal.returns-in-Replicate
unfolding border_map
returns-in-Replicate c = rw c.in-Replicate.is (ap Inside c.nearer_end.ensures)

pub returns-in-Constant : goal.returns-in-Constant
unfolding border_map
returns-in-Constant c = rw c.in-Constant.is c.constant_sample.ensures

periodic-map : (b : LineBorderMode) (n : ℕ) (p : ℤ) → (b ≡ Reflect) ⊎ (b ≡ Wrap)
    → Inside (periodic n (eqb (border_code b) 3) p) ≡ border_map b n p
unfolding border_map
periodic-map b n p (inl e) = rw e refl
periodic-map b n p (inr e) = rw e refl

pub returns-in-Reflect : goal.returns-in-Reflect
returns-in-Reflect c =
    let a = c.args in
    let p = sub_ℕ a.u a.half in
    ap Inside (c.periodic_place.ensures ∙ ap (λ (k : ℕ). periodic a.length (eqb k 3) p) c.code.ensures)
    ∙ periodic-map a.border a.length p c.in-Reflect.is
