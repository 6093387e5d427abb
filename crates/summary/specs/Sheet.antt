-- Document 02, K1, "Round sheet of smears": what a sheet says of records.
use Rattle.std.specs.Prelude.{Bool, ◌&&◌, cond, List, [], ◌∷◌, ℕ, suc, ◌+◌, ◌/◌, ◌%◌, max, leb, eqb, length, get_or, map}
use Rattle.raster.specs.Direction.{direction_index}
use Rattle.raster.specs.declared.direction.RasterDirection4.{RasterDirection4}
use Rattle.raster.specs.declared.direction.RasterDirection4.TheVariants.{Horizontal, DownRight, Vertical, DownLeft}
use Rattle.record.specs.Record.{filter_code}
use Rattle.record.specs.declared.Record.{Record}
use Rattle.summary.specs.declared.DirectionSummary.{DirectionSummary}
use Rattle.summary.specs.declared.RecordSummary.{RecordSummary}
use Rattle.summary.specs.declared.kernel.Lengths.{Lengths}
use Rattle.summary.specs.declared.kernel.Tally.{Tally}

-- ---- "for each of the four directions the number of restorations and line unsharps"

-- filters 1 and 2
abbrev pub is_line : Record → Bool
is_line r = leb (filter_code r.filter) 2

-- a binomial has direction 0 and lies along none
abbrev pub is_along : RasterDirection4 → Record → Bool
is_along d r = is_line r && eqb (direction_index r.direction) (direction_index d)

-- the blur lengths along a direction, in the records' order
abbrev pub lengths_along : RasterDirection4 → List Record → List ℕ
lengths_along d [] = []
lengths_along d (r ∷ rs) = cond (is_along d r) (r.blur_length ∷ lengths_along d rs) (lengths_along d rs)

-- ---- "the total and the largest blur length, and the mean as whole part and remainder over the count (all of these 0
-- for an empty direction)"

abbrev pub total_of : List ℕ → ℕ
total_of [] = 0
total_of (n ∷ ns) = n + total_of ns

abbrev pub largest_of : List ℕ → ℕ
largest_of [] = 0
largest_of (n ∷ ns) = max n (largest_of ns)

abbrev pub lengths_of : List ℕ → Lengths
lengths_of ns = record { count = length ns; total = total_of ns; largest = largest_of ns }

abbrev pub with_mean : Lengths → DirectionSummary
with_mean l = record {
  count = l.count;
  total = l.total;
  largest = l.largest;
  mean = cond (eqb l.count 0) 0 (l.total / l.count);
  remainder = cond (eqb l.count 0) 0 (l.total % l.count);
}

-- ---- "Binomial records are counted separately."

-- filter 3
abbrev pub is_binomial : Record → Bool
is_binomial r = eqb (filter_code r.filter) 3

abbrev pub binomials_in : List Record → ℕ
binomials_in [] = 0
binomials_in (r ∷ rs) = cond (is_binomial r) (suc (binomials_in rs)) (binomials_in rs)

-- ---- the sheet: what is counted, with the means

-- in the order of their numbers
abbrev pub directions : List RasterDirection4
directions = Horizontal ∷ DownRight ∷ Vertical ∷ DownLeft ∷ []

abbrev pub tally_of : List Record → Tally
tally_of rs = record {
  records = length rs;
  lengths = map (λ d. lengths_of (lengths_along d rs)) directions;
  binomials = binomials_in rs;
}

-- the lengths along the direction of a number
abbrev pub lengths_at : List Lengths → ℕ → Lengths
lengths_at ls d = get_or ls d (lengths_of [])

abbrev pub sheet_of : Tally → RecordSummary
sheet_of t = record {
  horizontal = with_mean (lengths_at t.lengths 0);
  down_right = with_mean (lengths_at t.lengths 1);
  vertical = with_mean (lengths_at t.lengths 2);
  down_left = with_mean (lengths_at t.lengths 3);
  binomials = t.binomials;
}

-- a direction's part of a sheet
abbrev pub along : RecordSummary → RasterDirection4 → DirectionSummary
along s Horizontal = s.horizontal
along s DownRight = s.down_right
along s Vertical = s.vertical
along s DownLeft = s.down_left
