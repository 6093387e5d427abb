-- What the passes of a selection ask for, record by record, and the median that they find.
-- The list is any whose widths are finite, above zero and doubles.
use mathlib.Core.Path.{◌≡◌, refl, ap, ◌∙◌}
use mathlib.Core.Bool.{Bool, true, false, not}
use mathlib.Core.List.{List, [], ◌∷◌}
use Prim.Native.Nat.{ℕ, suc, ◌+◌, ◌*◌, ◌/◌, ◌%◌, ◌^◌, ◌≤◌, ◌<◌}
use native.Mathlib.Nat.{mod-lt}
use native.Mathlib.Omega.{arith}
use lib.Dec.{T, leb, eqb, lit<}
use lib.IntN.{ℤ}
use lib.ListN.{length, get_or, take, length-take}
use lib.Ieee.{Float, nan, binary64, nan_bits, to_bits, of_bits}
use lib.Ieee.Bits.{of_bits-to_bits, nan_bits_is}
use borrow.Author.Tests.{eqb-false}
use Rattle.swings.specs.declared.Swing.{Swing}
use Rattle.blur.specs.declared.select.Pass.{Pass}
use Rattle.blur.specs.Median.{kept, sort, median, length_from, length_of}
use Rattle.std.specs.List.{AllByRecursion as Each}
use Rattle.blur.specs.Select.{high, passed, tallied, pass_all, tally_all, zeros, answered, TallyAsked, PassAsked}
use Rattle.blur.specs.Select.{Positive, Widths}
use Rattle.numbers.proofs.Each.{each_take, each_at}
use Rattle.blur.proofs.Sorting.{median_each}
use Rattle.blur.proofs.Place.{count_le, at_sorted}
use Rattle.blur.proofs.Keys.{bits_at}
use Rattle.blur.proofs.Spans.{positive_number}
use Rattle.blur.proofs.Radix.{narrowed_at}
use Rattle.blur.proofs.Passes.{keys, kept_each, length_keys, length_kept, pass_all_is, pass_all_count}
use Rattle.blur.proofs.Rounds.{cells, length_cells, State, Known, pos_of}

-- ---- what a pass asks for, record by record
countable : (j : ℕ) (l : List Swing) (d : Swing) (a : Pass) → a.shift ≤ 52 → a.count ≡ 0 → Widths l
    → length l < 2 ^ 32 → j < length l
    → TallyAsked (get_or l j d) (pass_all (take j l) a) (tally_all (take j l) a zeros)
countable j l d a low none e n h =
    let s = get_or l j d in
    let m = take j l in
    let b = pass_all m a in
    let few : length (keys a.strongest m) ≤ j =
    omega (arith, length_keys a.strongest m, length_kept a.strongest m, length-take j l) in
    let place : high s b % 8192 < 8192 = mod-lt (high s b) (lit< tt) in
    record {
      number = positive_number s.width (each_at (λ (t : Swing). Positive binary64 t.width) l j d e h).above;
      below = omega (arith, ap (λ (c : Pass). c.shift) (pass_all_is m a), low);
      digits = length_cells m a;
      room = omega (
        arith,
        cells m a (high s b % 8192) place,
        count_le
            (λ y. eqb (y / 2 ^ a.shift) (a.prefix * 8192 + high s b % 8192)) (keys a.strongest m),
      );
      few = omega (
        arith,
        pass_all_count m a,
        none,
        count_le (λ y. eqb (y / 2 ^ a.shift / 8192) a.prefix)
            (keys a.strongest m),
      );
    }

pointwise : (l : List Swing) (d : Swing) (a : Pass) (cs : List ℕ)
    → ((j : ℕ) → j < length l → TallyAsked (get_or l j d) (pass_all (take j l) a) (tally_all (take j l) a cs))
    → PassAsked l a cs
pointwise [] d a cs h = tt
pointwise (s ∷ l) d a cs h =
    (h 0 (omega arith), pointwise l d (passed s a) (tallied s a cs) (λ j k. h (suc j) (omega arith)))

pub countables : (m : ℕ) (l : List Swing) (d : Swing) (a : Pass) → Known l a → Widths l → length l < 2 ^ 32
    → PassAsked (take m l) a zeros
countables m l d a k e n =
    pointwise (take m l) d a zeros
    (λ j h. countable j (take m l) d a (omega (arith, k.step, k.most)) k.none
    (each_take (λ (s : Swing). Positive binary64 s.width) m l e) (omega (arith, length-take m l)) h)

-- ---- the median
module _ (l : List Swing) (a : Pass) (s : State l 1 a) (e : Widths l) where
  abbrev ws : List Float
  ws = kept a.strongest l

  widths : Each (Positive binary64) ws
  widths = kept_each (Positive binary64) a.strongest l e

  found-key : 0 < length ws → a.prefix ≡ to_bits binary64 (median ws)
  found-key h =
      let ks = keys a.strongest l in
      let n : length ks ≡ length ws = length_keys a.strongest l in
      at_sorted ks (length ks / 2) (to_bits binary64 nan) a.prefix (omega arith)
      (narrowed_at (length ks / 2) a.prefix a.place ks (s.found (omega arith)))
      ∙ ap (λ (k : ℕ). get_or (sort leb ks) (k / 2) (to_bits binary64 nan)) n
      ∙ bits_at binary64 ws (length ws / 2) nan widths

  median-positive : 0 < length ws → Positive binary64 (median ws)
  median-positive = median_each (Positive binary64) ws widths

  found-median : 0 < length ws → of_bits binary64 a.prefix ≡ median ws
  found-median h = ap (of_bits binary64) (found-key h) ∙ of_bits-to_bits binary64 (median ws) (median-positive h).holds

  found_number : 0 < length ws → T (not (nan_bits binary64 a.prefix))
  unfolding nan_bits
  found_number h = rw (nan_bits_is binary64 a.prefix, found-median h)
      (positive_number (median ws) (median-positive h).above)

  kept-is : a.kept ≡ length ws
  kept-is = s.all ∙ length_keys a.strongest l

  found-length : (m : ℕ) → answered a m ≡ length_from ws m
  found-length m = go (eqb (length ws) 0) refl
    where
      go : (b : Bool) → eqb (length ws) 0 ≡ b → answered a m ≡ length_from ws m
      go true q = rw (kept-is, q) refl
      go false q = rw (kept-is, found-median (pos_of (length ws) (eqb-false (length ws) 0 q))) refl

-- ---- the whole
pub passes_number : (l : List Swing) (a : Pass) → Known l a → Widths l → a.left ≡ 0 → 0 < a.kept
    → T (not (nan_bits binary64 a.prefix))
passes_number l a k e off h = found_number l a (k.done off) e (omega (arith, kept-is l a (k.done off) e))

pub passes_length : (l : List Swing) (a : Pass) (m : ℕ) → Known l a → Widths l → a.left ≡ 0
    → answered a m ≡ length_of l m
passes_length l a m k e off = found-length l a (k.done off) e m ∙ ap (λ (t : ℤ). length_from (kept t l) m) k.top
