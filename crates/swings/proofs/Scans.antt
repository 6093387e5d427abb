-- The answers of a scan, from what `next_swing` says.
use mathlib.Core.Path.{◌≡◌, refl, sym, ◌∙◌, ap}
use mathlib.Core.List.{List, [], ◌∷◌}
use Prim.Native.Nat.{ℕ, ◌+◌, ◌-◌, ◌≤◌}
use native.Mathlib.Nat.{le_refl}
use lib.IntN.{ℤ}
use Rattle.image.specs.Call.{Gray8}
use Rattle.swings.specs.declared.Swing.{Swing}
use Rattle.swings.specs.declared.scan.ScanPlan.{ScanPlan}
use Rattle.swings.specs.declared.scan.Place.{Place}
use Rattle.swings.specs.declared.scan.Scan.{Scan}
use Rattle.swings.specs.declared.scan.Span.{Span}
use Rattle.swings.specs.Line.{lines_on}
use Rattle.swings.specs.Scan.{Open, swings_at, half_of, raised_to, thinned, rest, widened_by, Goes}
use Rattle.swings.specs.Swings.{larger}
use Rattle.swings.proofs.Thinned.{at_least, raised_swings, half_larger, thinned_again, thinned_first}

-- the swings that `next_swing` goes over are those of at least half the strongest so far
module _ (src : Gray8) (c : ScanPlan) (s : Scan) where
  abbrev from : ℕ → Place → List Swing
  from least p = swings_at least c.pixel (lines_on src c) p

  abbrev least : ℕ
  least = raised_to c.minimum_amplitude s.strongest

  raised-from : (p : Place) → from least p ≡ at_least (half_of s.strongest) (from c.minimum_amplitude p)
  raised-from p = raised_swings c.minimum_amplitude (half_of s.strongest) c.pixel (lines_on src c)
      (p.line - 1) p.at (c.count - (p.line - 1))

  raised-rest : (p : Place) (top : ℤ) → half_of s.strongest ≤ half_of top
      → thinned top (from least p) ≡ thinned top (from c.minimum_amplitude p)
  raised-rest p top h = ap (thinned top) (raised-from p)
      ∙ thinned_again (half_of s.strongest) top h (from c.minimum_amplitude p)

  pub scan_stops : from least s.place ≡ [] → rest src c s ≡ []
  unfolding thinned
  scan_stops e = sym (raised-rest s.place s.strongest (le_refl _)) ∙ ap (thinned s.strongest) e

  pub scan_goes : {swing : Swing} {place : Place} → from least s.place ≡ swing ∷ from least place → Open src c place
      → {top : ℤ} → top ≡ larger s.strongest swing.swing → {span : Span} → span ≡ widened_by s.span swing.width
      → Goes src c s swing (record { place = place; strongest = top; count = s.count + 1; span = span })
  scan_goes {swing} {place} says o {top} e f =
      record { list = next; count = refl; top = e; span = f; opened = o }
    where
      next : rest src c s ≡ swing ∷ thinned top (from c.minimum_amplitude place)
      next =
          sym (raised-rest s.place s.strongest (le_refl _))
          ∙ ap (thinned s.strongest) says
          ∙ thinned_first s.strongest (from c.minimum_amplitude s.place) (from least place) swing
          (sym (raised-from s.place) ∙ says)
          ∙ ap (λ (l : List Swing). swing ∷ l)
          (raised-rest place (larger s.strongest swing.swing) (half_larger s.strongest swing.swing)
          ∙ ap (λ (z : ℤ). thinned z (from c.minimum_amplitude place)) (sym e))
