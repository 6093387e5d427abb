-- What the widths of a list lie between, by the order of their keys.
use mathlib.Core.Path.{◌≡◌, refl}
use mathlib.Core.Bool.{Bool, true, false, not, cond}
use mathlib.Core.List.{List, [], ◌∷◌}
use Prim.Native.Nat.{ℕ, ◌*◌, ◌≤◌}
use native.Mathlib.Nat.{le_refl, le_trans}
use lib.Dec.{T}
use lib.Ieee.{Float, nan, inf, fin, binary64, fits, of_bits, is_nan, to_bits, lt, le}
use lib.Ieee.Positive.{num, den, positive, cross→le}
use borrow.Author.Tests.{ltb-false}
use Rattle.swings.specs.declared.Swing.{Swing}
use Rattle.swings.specs.declared.scan.Span.{Span}
use Rattle.swings.specs.Scan.{lesser, greater, widened_by, span_from, span_of}
use Rattle.std.specs.List.{AllByRecursion as Each}
use Rattle.blur.specs.Select.{Positive, Widths}
use Rattle.numbers.proofs.Each.{each_map}
use Rattle.blur.proofs.Keys.{bits_mono}

abbrev key : Float → ℕ
key x = to_bits binary64 x

pub positive_number : (x : Float) → T (positive x) → T (not (is_nan x))
unfolding is_nan
positive_number nan p = absurd p
positive_number (inf s) p = absurd p
positive_number (fin s m e) p = tt

-- ---- the test, as one of keys
less_le : (x y : Float) → lt x y ≡ true → T (le x y)
unfolding le
less_le x y e = rw e tt

not_less_cross : (x y : Float) → T (positive x) → T (positive y) → lt x y ≡ false → num y * den x ≤ num x * den y
unfolding lt
not_less_cross nan y p q e = absurd p
not_less_cross (inf s) y p q e = absurd p
not_less_cross (fin true m e) y p q h = absurd p
not_less_cross (fin false m e) nan p q h = absurd q
not_less_cross (fin false m e) (inf t) p q h = absurd q
not_less_cross (fin false m e) (fin true n d) p q h = absurd q
not_less_cross (fin false m e) (fin false n d) p q h = ltb-false _ _ h

-- a value that lies between two others, by the keys, and is one of them
record Least (a b c : Float) : Type 0 where
  own : Positive binary64 c
  first : key c ≤ key a
  second : key c ≤ key b

record Greatest (a b c : Float) : Type 0 where
  own : Positive binary64 c
  first : key a ≤ key c
  second : key b ≤ key c

module _ (a b : Float) (p : Positive binary64 a) (q : Positive binary64 b) where
  lesser-least : Least a b (lesser a b)
  lesser-least = go (lt b a) refl
    where
      go : (t : Bool) → lt b a ≡ t → Least a b (cond t b a)
      go true e = record {
        own = q;
        first = bits_mono binary64 b a q.above p.above (less_le b a e);
        second =
            le_refl _;
      }
      go false e = record {
        own = p;
        first = le_refl _;
        second =
            bits_mono binary64 a b p.above q.above
            (cross→le a b p.above q.above (not_less_cross b a q.above p.above e));
      }

  greater-greatest : Greatest a b (greater a b)
  greater-greatest = go (lt a b) refl
    where
      go : (t : Bool) → lt a b ≡ t → Greatest a b (cond t b a)
      go true e = record {
        own = q;
        first = bits_mono binary64 a b p.above q.above (less_le a b e);
        second =
            le_refl _;
      }
      go false e = record {
        own = p;
        first = le_refl _;
        second =
            bits_mono binary64 b a q.above p.above
            (cross→le b a q.above p.above (not_less_cross a b p.above q.above e));
      }

-- ---- the span of a list
record Ends (span : Span) : Type 0 where
  low : Positive binary64 span.least
  high : Positive binary64 span.greatest

record Between (span : Span) (low high : Float) : Type 0 where
  from : key span.least ≤ key low
  to : key high ≤ key span.greatest

record Spans (from : Span) (l : List Swing) (span : Span) : Type 0 where
  ends : Ends span
  over : Between span from.least from.greatest
  each : Each (λ (s : Swing). Between span s.width s.width) l

spans : (from : Span) (l : List Swing) → Ends from → Widths l → Spans from l (span_from from l)
spans from [] e ws = record { ends = e; over = record { from = le_refl _; to = le_refl _ }; each = tt }
spans from (s ∷ l) e ws =
    let a = lesser-least from.least s.width e.low ws.0 in
    let b = greater-greatest from.greatest s.width e.high ws.0 in
    let r = spans (widened_by from s.width) l (record { low = a.own; high = b.own }) ws.1 in
    record {
      ends = r.ends;
      over = record { from = le_trans r.over.from a.first; to = le_trans b.first r.over.to };
      each = (record { from = le_trans r.over.from a.second; to = le_trans b.second r.over.to }, r.each);
    }

module _ (l : List Swing) (ws : Widths l) where
  whole : Spans (span_of []) l (span_of l)
  unfolding of_bits fits
  whole = spans (span_of []) l
      (record { low = record { above = tt; holds = tt }; high = record { above = tt; holds = tt } }) ws

  pub span_numbers : T (not (is_nan (span_of l).least)) × T (not (is_nan (span_of l).greatest))
  span_numbers = (positive_number _ whole.ends.low.above, positive_number _ whole.ends.high.above)

  pub span_fits : T (fits binary64 (span_of l).least)
  span_fits = whole.ends.low.holds

  pub span_within : Each
      (λ (s : Swing). (key (span_of l).least ≤ key s.width) × (key s.width ≤ key (span_of l).greatest)) l
  span_within = each_map (λ (s : Swing). Between (span_of l) s.width s.width)
      (λ (s : Swing). (key (span_of l).least ≤ key s.width) × (key s.width ≤ key (span_of l).greatest))
      (λ s b. (b.from, b.to)) l whole.each
