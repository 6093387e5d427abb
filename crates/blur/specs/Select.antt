-- What the selection of the median does, pass by pass. The keys are the widths' bit patterns, read as digits of 13
-- bits.
use Rattle.std.specs.Prelude.{◌≡◌, refl, Bool, cond, not, ◌&&◌, ◌||◌, List, [], ◌∷◌, ℕ, suc, ◌+◌, ◌-◌, ◌*◌, ◌/◌, ◌%◌, ◌^◌, ◌<◌, T, ltb, eqb, ℤ, pos, length, get_or, set, take, replicate, Float, Option, None, Some}
use Rattle.std.specs.Float.{Format, binary64}
use Rattle.std.specs.Float.Ieee.{fits, is_nan, to_bits, of_bits, lt, div}
use Rattle.std.specs.Float.Ieee.Positive.{positive}
use Rattle.swings.specs.declared.Swing.{Swing}
use Rattle.blur.specs.declared.select.Pass.{Pass}
use Rattle.blur.specs.declared.select.Chosen.{Chosen}
use Rattle.swings.specs.declared.scan.Span.{Span}
use Rattle.std.specs.List.{AllByRecursion as Each}
use Rattle.swings.specs.Scan.{span_of}
use Rattle.swings.specs.Swings.{strongest}
use Rattle.blur.specs.Median.{stays, six_tenths}

-- ---- one record's step in a pass

-- the digits of the record's key down to the pass's digit
abbrev pub high : Swing → Pass → ℕ
high s a = to_bits binary64 s.width / 2 ^ a.shift

-- whether a pass counts a record: it stays, and the digits above the pass's digit are those found so far
abbrev pub counted : Swing → Pass → Bool
counted s a = stays a.strongest s && eqb (high s a / 8192) a.prefix

abbrev pub passed : Swing → Pass → Pass
passed s a =
    cond (counted s a)
    (record {
      left = a.left;
      total = a.total;
      reach = a.reach;
      low = a.low;
      high = a.high;
      strongest = a.strongest;
      prefix = a.prefix;
      shift = a.shift;
      place = a.place;
      kept = a.kept;
      count = a.count + 1;
    })
    a

abbrev pub tallied : Swing → Pass → List ℕ → List ℕ
tallied s a counts =
    let digit = high s a % 8192 in
    cond (counted s a) (set counts digit (get_or counts digit 0 + 1)) counts

-- ---- a pass over a list: the step of each record, in order
abbrev pub pass_all : List Swing → Pass → Pass
pass_all [] a = a
pass_all (s ∷ l) a = pass_all l (passed s a)

abbrev pub tally_all : List Swing → Pass → List ℕ → List ℕ
tally_all [] a counts = counts
tally_all (s ∷ l) a counts = tally_all l (passed s a) (tallied s a counts)

-- ---- after a pass

-- the digit at which the running sum of the counts goes past the place, and the place among the keys with that digit; 0
-- and 0 if no digit does
abbrev pub pick_from : List ℕ → ℕ → ℕ → Chosen
pick_from [] digit place = record { digit = 0; place = 0 }
pick_from (c ∷ cs) digit place =
    cond (ltb place c) (record { digit = digit; place = place }) (pick_from cs (suc digit) (place - c))

-- the first pass counts all that stay, and the wanted place is half of that
abbrev pub is_first : Pass → Bool
is_first a = eqb a.kept 0

abbrev pub wanted : Pass → ℕ
wanted a = cond (is_first a) (a.count / 2) a.place

abbrev pub kept_of : Pass → ℕ
kept_of a = cond (is_first a) a.count a.kept

-- the digits found: with the one that was chosen, or those of the least key where the pass went over no record
abbrev pub prefix_of : Pass → ℕ → ℕ
prefix_of a digit = cond (eqb a.reach 0) (a.low / 2 ^ a.shift) (a.prefix * 8192 + digit)

-- a pass goes over no record where the least and the greatest key have the same digits down to its digit, as long as a
-- later pass counts what stays
abbrev pub reach_of : ℕ → ℕ → ℕ → ℕ → ℕ → ℕ
reach_of kept shift low high total =
    cond (eqb kept 0 && not (eqb shift 0) && eqb (low / 2 ^ shift) (high / 2 ^ shift)) 0 total

abbrev pub narrowed : Pass → List ℕ → Pass
narrowed a counts =
    let o = pick_from counts 0 (wanted a) in
    record {
      left = a.left - 1;
      total = a.total;
      reach = reach_of (kept_of a) (a.shift - 13) a.low a.high a.total;
      low = a.low;
      high = a.high;
      strongest = a.strongest;
      prefix = prefix_of a o.digit;
      shift = a.shift - 13;
      place = o.place;
      kept = kept_of a;
      count = 0;
    }

-- before the first pass: five digits, of which the first has 12 bits
abbrev pub started : ℤ → Span → ℕ → Pass
started top span total =
    let low = to_bits binary64 span.least in
    let high = to_bits binary64 span.greatest in
    record {
      left = 5;
      total = total;
      reach = reach_of 0 52 low high total;
      low = low;
      high = high;
      strongest = top;
      prefix = 0;
      shift = 52;
      place = 0;
      kept = 0;
      count = 0;
    }

-- the counts that a pass starts from: 8,192 digits, none seen
unfoldable pub zeros : List ℕ
zeros = replicate 8192 0

-- one pass over the list, and the choice of its digit
abbrev pub round : List Swing → Pass → Pass
round l a = narrowed (pass_all (take a.reach l) a) (tally_all (take a.reach l) a zeros)

-- ---- after the last pass the prefix is the median's bit pattern
abbrev pub answered : Pass → ℕ → Option Float
answered a minimum =
    cond (eqb a.kept 0 || ltb a.kept minimum) None
    (Some (div binary64 (of_bits binary64 a.prefix) six_tenths))

-- ---- what the steps ask for

-- a width as the selection takes it: finite, above zero, and a value of the format
pub record Positive (f : Format) (x : Float) : Type 0 where
  pub above : T (positive x)
  pub holds : T (fits f x)

abbrev pub Widths : List Swing → Type 0
Widths l = Each (λ (s : Swing). Positive binary64 s.width) l

pub record TallyAsked (s : Swing) (a : Pass) (counts : List ℕ) : Type 0 where
  pub number : T (not (is_nan s.width))
  pub below : a.shift < 64
  pub digits : length counts ≡ 8192
  pub room : get_or counts (high s a % 8192) 0 + 1 < 2 ^ 32
  pub few : a.count + 1 < 2 ^ 32

pub record NarrowAsked (a : Pass) (counts : List ℕ) : Type 0 where
  pub digits : length counts ≡ 8192
  pub room : a.prefix < 2 ^ 51
  pub below : a.shift < 64
  pub some : 0 < a.left

-- each record's step has what it asks for
abbrev pub PassAsked : List Swing → Pass → List ℕ → Type 0
PassAsked [] a counts = Unit {0}
PassAsked (s ∷ l) a counts = TallyAsked s a counts × PassAsked l (passed s a) (tallied s a counts)

-- a selection from its start
pub record SelectAsked (l : List Swing) (first : Pass) : Type 0 where
  pub starts : first ≡ started (strongest l) (span_of l) (length l)
  pub widths : Widths l
  pub few : length l < 2 ^ 32

-- ---- what the steps leave

pub record Tallied (s : Swing) (a : Pass) (before after : List ℕ) (r : Pass) : Type 0 where
  pub state : r ≡ passed s a
  pub counts : after ≡ tallied s a before

pub record Passes (l : List Swing) (a : Pass) (before after : List ℕ) (r : Pass) : Type 0 where
  pub state : r ≡ pass_all l a
  pub counts : after ≡ tally_all l a before

pub record Narrows (a : Pass) (before after : List ℕ) (r : Pass) : Type 0 where
  pub state : r ≡ narrowed a before
  pub counts : after ≡ zeros

-- ---- a worked example

-- of the widths 3.0, 2.5 and 2.0 of swings 100, 50 and 200 the first and the last stay, and place 1 is 3.0
two : List Swing
two =
    record { width = of_bits binary64 0x4008000000000000; swing = pos 100 }
    ∷ (record { width = of_bits binary64 0x4004000000000000; swing = pos 50 }
    ∷ (record { width = of_bits binary64 0x4000000000000000; swing = pos 200 } ∷ []))

-- the first pass goes over no record, since all widths have the same exponent
example_passes : (round two (round two (round two (round two (round two (started (pos 200) (span_of two) 3)))))).prefix
    ≡ 0x4008000000000000
unfolding two zeros of_bits to_bits lt
example_passes = refl
