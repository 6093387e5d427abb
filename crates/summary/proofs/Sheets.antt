-- What a sheet says of the records that it is over: total, mean and remainder (`mean_total`, `remainder_below`), the
-- largest (`largest_most`, `largest_reached`), and that every record is counted once (`counts_total`).
use mathlib.Core.Bool.{Bool, true, false, ◌&&◌, not, cond}
use mathlib.Core.List.{List, [], ◌∷◌}
use mathlib.Core.Path.{◌≡◌, refl, sym, ◌∙◌}
use Prim.Native.Nat.{ℕ, zero, suc, ◌+◌, ◌*◌, ◌/◌, ◌≤◌, ◌<◌, max}
use native.Mathlib.Nat.{mul_comm, mod-lt, le-max_left, le-max_right}
use native.Mathlib.Omega.{arith, div_fact, max_cases}
use borrow.Author.Tests.{ne_eqb}
use lib.Dec.{leb, eqb}
use lib.ListN.{length, get_or}
use Rattle.raster.specs.Direction.{direction_index}
use Rattle.raster.specs.declared.direction.RasterDirection4.{RasterDirection4}
use Rattle.raster.specs.declared.direction.RasterDirection4.TheVariants.{Horizontal, DownRight, Vertical, DownLeft}
use Rattle.record.specs.Record.{filter_code}
use Rattle.record.specs.declared.Record.{Record}
use Rattle.record.specs.declared.RecordFilter.{RecordFilter}
use Rattle.record.specs.declared.RecordFilter.TheVariants.{WholeJob, Restoration, Unsharp, Binomial}
use Rattle.summary.specs.Sheet.{is_line, lengths_along, total_of, largest_of, lengths_of, with_mean, binomials_in}
use Rattle.summary.specs.Sheet.{tally_of, sheet_of, along}

-- ---- a direction's lengths

some_count : (ns : List ℕ) → eqb (suc (length ns)) 0 ≡ false
some_count ns = ne_eqb (suc (length ns)) 0 (λ e. omega (arith, e))

pub mean_total : (ns : List ℕ) → let s = with_mean (lengths_of ns) in s.total ≡ s.mean * s.count + s.remainder
mean_total [] = refl
mean_total (n ∷ ns) =
    let k = suc (length ns) in
    rw (some_count ns, mul_comm ((n + total_of ns) / k) k) (sym (div_fact (n + total_of ns) (length ns)))

pub remainder_below : (ns : List ℕ) → 0 < length ns → let s = with_mean (lengths_of ns) in s.remainder < s.count
remainder_below [] some = absurd (omega (arith, some))
remainder_below (n ∷ ns) some = rw (some_count ns) (mod-lt (n + total_of ns) some)

pub largest_most : (ns : List ℕ) (i : ℕ) → i < length ns → get_or ns i 0 ≤ largest_of ns
largest_most [] i h = absurd (omega (arith, h))
largest_most (n ∷ ns) zero h = le-max_left n (largest_of ns)
largest_most (n ∷ ns) (suc i) h =
    let most = largest_most ns i (omega (arith, h)) in
    let more = le-max_right n (largest_of ns) in
    omega (arith, most, more)

pub largest_reached : (ns : List ℕ) → 0 < length ns → (i : ℕ) × (i < length ns) × (get_or ns i 0 ≡ largest_of ns)
largest_reached [] some = absurd (omega (arith, some))
largest_reached (n ∷ []) some = (0, omega arith, omega arith)
largest_reached (n ∷ m ∷ ns) some =
    let rest = largest_reached (m ∷ ns) (omega arith) in
    max_cases n (largest_of (m ∷ ns))
    ((i : ℕ) × (i < suc (suc (length ns))) × (get_or (n ∷ m ∷ ns) i 0 ≡ max n (largest_of (m ∷ ns))))
    (λ _ e. (suc rest.0, omega (arith, rest.1), rest.2 ∙ sym e)) (λ _ e. (0, omega arith, sym e))

-- ---- every record counts once

counted_once : (line : Bool) (e : RasterDirection4) (n : ℕ) (h r v l : List ℕ) (k m : ℕ)
    → length h + length r + length v + length l + k ≡ m
    → length (cond (line && eqb (direction_index e) 0) (n ∷ h) h)
    + length (cond (line && eqb (direction_index e) 1) (n ∷ r) r)
    + length (cond (line && eqb (direction_index e) 2) (n ∷ v) v)
    + length (cond (line && eqb (direction_index e) 3) (n ∷ l) l)
    + cond (not line) (suc k) k
    ≡ suc m
counted_once true Horizontal n h r v l k m e = omega (arith, e)
counted_once true DownRight n h r v l k m e = omega (arith, e)
counted_once true Vertical n h r v l k m e = omega (arith, e)
counted_once true DownLeft n h r v l k m e = omega (arith, e)
counted_once false d n h r v l k m e = omega (arith, e)

line_or_binomial : (k : RecordFilter) → eqb (filter_code k) 3 ≡ not (leb (filter_code k) 2)
line_or_binomial (WholeJob x) = refl
line_or_binomial (Restoration x) = refl
line_or_binomial (Unsharp x) = refl
line_or_binomial Binomial = refl

pub counts_total : (rs : List Record)
    → length (lengths_along Horizontal rs)
    + length (lengths_along DownRight rs)
    + length (lengths_along Vertical rs)
    + length (lengths_along DownLeft rs)
    + binomials_in rs
    ≡ length rs
counts_total [] = refl
counts_total (r ∷ rs) =
    rw (line_or_binomial r.filter)
    (counted_once (is_line r) r.direction r.blur_length (lengths_along Horizontal rs) (lengths_along DownRight rs)
    (lengths_along Vertical rs) (lengths_along DownLeft rs) (binomials_in rs) (length rs) (counts_total rs))

-- ---- a sheet, whatever the direction

pub sheet_along : (rs : List Record) (d : RasterDirection4)
    → along (sheet_of (tally_of rs)) d ≡ with_mean (lengths_of (lengths_along d rs))
sheet_along rs Horizontal = refl
sheet_along rs DownRight = refl
sheet_along rs Vertical = refl
sheet_along rs DownLeft = refl
