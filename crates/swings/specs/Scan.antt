-- What the answers of the scan's functions say, in terms of the runs and swings that are left. Only contracts inside
-- the crate and `blur` cite these.
use Rattle.std.specs.Prelude.{ℕ, ◌+◌, ◌-◌, ◌*◌, ◌/◌, ◌≤◌, ◌<◌, max, ◌≡◌, cond, List, [], ◌∷◌, ltb, ℤ, pos, length, get_or, take, Float}
use Rattle.std.specs.Prelude.{Option, Some, None, MatchOption}
use Rattle.std.specs.Int.Signed.{le_z}
use Rattle.std.specs.Float.{binary64}
use Rattle.std.specs.Float.Ieee.{of_bits, lt}
use Rattle.image.specs.Call.{Gray8}
use Rattle.numbers.specs.Scalar.{clamp_byte}
use Rattle.raster.specs.declared.lines.ScanLine.{ScanLine}
use Rattle.raster.specs.Lines.{scan_line_at}
use Rattle.swings.specs.declared.Swing.{Swing}
use Rattle.swings.specs.declared.scan.ScanPlan.{ScanPlan}
use Rattle.swings.specs.declared.scan.Place.{Place}
use Rattle.swings.specs.declared.scan.Span.{Span}
use Rattle.swings.specs.declared.scan.Scan.{Scan}
use Rattle.swings.specs.Line.{Lines, lines_on}
use Rattle.swings.specs.Swings.{line_swings, swings_from, larger, strongest}

-- the swings of a line from a sample on: the next one and those after it, or none
abbrev pub remaining_on_line : ℕ → Float → (ℕ → ℕ) → ℕ → Option (Swing × ℕ) → List Swing
remaining_on_line least pixel x n (Some r) = r.0 ∷ line_swings least pixel x n r.1
remaining_on_line least pixel x n None = []

-- ---- the scan

-- line k of the plan, or, after the last one, none
abbrev pub line_on : Gray8 → ScanPlan → ℕ → ScanLine
line_on src c k =
    cond (ltb k c.count) (scan_line_at c.direction src.width src.height k) (record { col = 0; row = 0; len = 0 })

-- the line before the one to be opened next is open, from where its first sample stands on
pub record Open (src : Gray8) (c : ScanPlan) (p : Place) : Type 0 where
  pub within : p.line ≤ c.count
  pub shut : p.line ≡ 0 → (p.at ≡ 0) × (p.start ≡ 0) × (p.len ≡ 0)
  pub start_is :
      0 < p.line → p.start ≡ (line_on src c (p.line - 1)).row * src.stride + (line_on src c (p.line - 1)).col
  pub len_is : 0 < p.line → p.len ≡ (line_on src c (p.line - 1)).len

-- line k, opened at its first sample; none after the last one
abbrev pub Opens : Gray8 → ScanPlan → ℕ → Option Place → Type 0
Opens src c k r = MatchOption r (c.count ≤ k) (λ (p : Place). Open src c p × (p.line ≡ k + 1) × (p.at ≡ 0))

-- the swings from a place on
abbrev pub swings_at : ℕ → Float → Lines → Place → List Swing
swings_at least pixel lines p = swings_from least pixel lines (p.line - 1) p.at (lines.count - (p.line - 1))

-- the next one and those from the next place on, or none
abbrev pub remaining_swings : ℕ → Float → Lines → Option (Swing × Place) → List Swing
remaining_swings least pixel lines (Some r) = r.0 ∷ swings_at least pixel lines r.1
remaining_swings least pixel lines None = []

-- .. of at least this swing
pub record FindsNext (src : Gray8) (c : ScanPlan) (least : ℕ) (from : Place) (r : Option (Swing × Place)) : Type 0 where
  pub list : swings_at least c.pixel (lines_on src c) from ≡ remaining_swings least c.pixel (lines_on src c) r
  pub opened : MatchOption r (Unit {0}) (λ (n : Swing × Place). Open src c n.1)

-- half of the strongest swing so far, rounded up
unfoldable pub half_of : ℤ → ℕ
half_of top = clamp_byte top - clamp_byte top / 2

-- the least swing that is worth a record: the caller's, or half of the strongest so far
abbrev pub raised_to : ℕ → ℤ → ℕ
raised_to least top = max least (half_of top)

-- without the swings below half of the strongest before them: none of these stays
unfoldable pub thinned : ℤ → List Swing → List Swing
thinned top [] = []
thinned top (s ∷ l) = cond (le_z (pos (half_of top)) s.swing) (s ∷ thinned (larger top s.swing) l) (thinned top l)

-- the swings that are left to be stored
abbrev pub rest : Gray8 → ScanPlan → Scan → List Swing
rest src c s = thinned s.strongest (swings_at c.minimum_amplitude c.pixel (lines_on src c) s.place)

-- ---- what the widths lie between

abbrev pub lesser : Float → Float → Float
lesser a b = cond (lt b a) b a

abbrev pub greater : Float → Float → Float
greater a b = cond (lt a b) b a

-- one width more
abbrev pub widened_by : Span → Float → Span
widened_by span w = record { least = lesser span.least w; greatest = greater span.greatest w }

-- those of a list
abbrev pub span_from : Span → List Swing → Span
span_from span [] = span
span_from span (s ∷ l) = span_from (widened_by span s.width) l

-- .. from the ends 2048.0 and 0.5, which stand for no width at all
abbrev pub span_of : List Swing → Span
span_of l =
    span_from (record {
      least = of_bits binary64 0x40A0_0000_0000_0000;
      greatest =
          of_bits binary64 0x3FE0_0000_0000_0000;
    }) l

-- ---- the answers

-- the state before the first line
abbrev pub begun : Scan
begun = record {
  place = record { start = 0; len = 0; at = 0; line = 0 };
  strongest = pos 0;
  count = 0;
  span = span_of [];
}

-- the answer is the next swing, and the state after it
pub record Goes (src : Gray8) (c : ScanPlan) (s : Scan) (swing : Swing) (next : Scan) : Type 0 where
  pub list : rest src c s ≡ swing ∷ rest src c next
  pub count : next.count ≡ s.count + 1
  pub top : next.strongest ≡ larger s.strongest swing.swing
  pub span : next.span ≡ widened_by s.span swing.width
  pub opened : Open src c next.place

-- .. or it is that there is none
abbrev pub Scans : Gray8 → ScanPlan → Scan → Option (Swing × Scan) → Type 0
Scans src c s (Some r) = Goes src c s r.0 r.1
Scans src c s None = rest src c s ≡ []

abbrev pub Bytes : List ℕ → Type 0
Bytes bytes = (i : ℕ) → get_or bytes i 0 ≤ 255

-- The swings ss stand in order at the front of the records, and their number, the strongest of them and their span are
-- known.
pub record Filled (bytes : List ℕ) (ss after : List Swing) (s : Scan) : Type 0 where
  pub counted : s.count ≡ length ss
  pub listed : take (length ss) after ≡ ss
  pub top : s.strongest ≡ strongest ss
  pub span : s.span ≡ span_of ss
  pub are : Bytes bytes
