-- What the limits say of fields (`sound`, `length_most`), and which filter fields name (`Named`).
use mathlib.Core.Path.{◌≡◌, ap}
use mathlib.Core.Bool.{Bool, true, false, ◌&&◌, and-eq-true_iff}
use mathlib.Core.Logic.{inl, ⊎_elim}
use Prim.Native.Nat.{ℕ, ◌+◌, ◌*◌, ◌%◌, ◌≤◌, max}
use native.Mathlib.Omega.{arith}
use borrow.Author.Tests.{leb-true, eqb-true, eqb-false, ne_eqb}
use lib.Dec.{leb, eqb}
use lib.Ieee.{binary64, of_bits}
use lib.Ieee.Scale.{finite}
use Rattle.numbers.proofs.Test.{by_test, or_cases}
use Rattle.floats.specs.Factor.{scale, max_relaxation, max_gain, factor_of}
use Rattle.raster.specs.Border.{is_border}
use Rattle.raster.specs.Direction.{snaps}
use Rattle.raster.specs.declared.border.LineBorderMode.TheVariants.{Replicate}
use Rattle.raster.specs.declared.direction.RasterDirection4.TheVariants.{Horizontal}
use Rattle.raster.proofs.Codes.{is_border_lem}
use Rattle.raster.proofs.Snapped.{found_finite, nothing_iff}
use Rattle.image.specs.Refusal.{max_side}
use Rattle.record.specs.Fields.{side_legal, head_legal, length_legal, angle_legal, estimate_legal}
use Rattle.record.specs.Fields.{line_legal, iterated_legal, unmeasured, filter_legal, legal}
use Rattle.record.specs.Record.{filter_from}
use Rattle.record.specs.declared.fields.Fields.{Fields}
use Rattle.record.specs.declared.RecordFilter.{RecordFilter}
use Rattle.record.specs.declared.RecordFilter.TheVariants.{WholeJob, Restoration, Unsharp, Binomial}
use Rattle.std.specs.Prelude.{Some, is_some}
use Rattle.std.proofs.lemmas.Option.{none-some}

-- ---- the bits 0 are a finite double's, and an angle's that has a direction

pub zero_finite : (b : ℕ) → b ≡ 0 → finite (of_bits binary64 b) ≡ true
unfolding of_bits
zero_finite b e = rw e

zero_angle : (b : ℕ) → b ≡ 0 → angle_legal b ≡ true
zero_angle b e = rw e (ap is_some (snaps Horizontal))

-- ---- angles and estimates are finite

pub angle_finite : (b : ℕ) → angle_legal b ≡ true → finite (of_bits binary64 b) ≡ true
angle_finite b = found_finite (of_bits binary64 b)

pub angle_refused : (b : ℕ) → finite (of_bits binary64 b) ≡ false → angle_legal b ≡ false
angle_refused b h = ap is_some ((nothing_iff (of_bits binary64 b)).1 (inl h))

pub estimate_finite : (b : ℕ) → estimate_legal b ≡ true → finite (of_bits binary64 b) ≡ true
estimate_finite b h =
    ⊎_elim (λ z. zero_finite b (eqb-true b 0 z)) (λ p. ((and-eq-true_iff (finite (of_bits binary64 b)) _).0 p).0)
    (or_cases (eqb b 0) _ h)

-- ---- legal fields

-- what each filter's limits say of length and q, and the binomial's of the doubles
abbrev pub FilterSound : RecordFilter → Fields → Type 0
FilterSound (WholeJob x) f = (f.blur_length ≡ 0) × (f.q ≤ max_relaxation * scale)
FilterSound (Restoration x) f = (3 ≤ f.blur_length) × (f.q ≤ max_relaxation * scale)
FilterSound (Unsharp x) f = f.q ≤ max_gain * scale
FilterSound Binomial f = (f.q ≡ 0) × (f.angle ≡ 0) × (f.estimate ≡ 0)

pub record Sound (k : RecordFilter) (f : Fields) : Type 0 where
  pub direction : f.direction ≤ 3
  pub border : is_border f.border f.value ≡ true
  pub filter : FilterSound k f
  pub angle : angle_legal f.angle ≡ true
  pub estimate : finite (of_bits binary64 f.estimate) ≡ true

record Unmeasured (f : Fields) : Type 0 where
  direction : f.direction ≡ 0
  blur_length : f.blur_length ≡ 0
  angle : f.angle ≡ 0
  estimate : f.estimate ≡ 0

pub both : (a b : Bool) → (a && b) ≡ true → (a ≡ true) × (b ≡ true)
both a b h = (and-eq-true_iff a b).0 h

length_least : (width height L : ℕ) → length_legal width height L ≡ true → 3 ≤ L
length_least width height L h =
    let p = both (eqb (L % 2) 1 && leb 3 L) (leb L (2 * max width height + 1)) h in
    leb-true 3 L (both (eqb (L % 2) 1) (leb 3 L) p.0).1

side_most : (n : ℕ) → side_legal n ≡ true → n ≤ max_side
side_most n h = leb-true n max_side (both (leb 1 n) (leb n max_side) h).1

module _ (f : Fields) where
  line-sound : {k : RecordFilter} → FilterSound k f → line_legal f ≡ true → Sound k f
  unfolding line_legal
  line-sound s h =
      let e = both _ _ h in
      let a = both _ _ e.0 in
      let b = both _ _ a.0 in
      record {
        direction = leb-true _ _ b.0;
        border = b.1;
        filter = s;
        angle = a.1;
        estimate = estimate_finite f.estimate e.1;
      }

  iterated : iterated_legal f ≡ true → (line_legal f ≡ true) × (f.q ≤ max_relaxation * scale)
  unfolding iterated_legal
  iterated h = let q = both _ _ h in ((both _ _ (both _ _ q.0).0).0, leb-true _ _ q.1)

  no-measure : unmeasured f ≡ true → Unmeasured f
  no-measure h =
      let e = both _ _ h in
      let a = both _ _ e.0 in
      let l = both _ _ a.0 in
      record {
        direction = eqb-true _ _ l.0;
        blur_length = eqb-true _ _ l.1;
        angle = eqb-true _ _ a.1;
        estimate = eqb-true _ _ e.1;
      }

  filter-sound : (k : RecordFilter) → filter_legal k f ≡ true → Sound k f
  unfolding filter_legal
  filter-sound (WholeJob x) h =
      let w = both (iterated_legal f) (unmeasured f) h in
      let i = iterated w.0 in
      line-sound ((no-measure w.1).blur_length, i.1) i.0
  filter-sound (Restoration x) h =
      let l = both _ _ h in
      let i = iterated l.0 in
      line-sound (length_least f.head.width f.head.height f.blur_length l.1, i.1) i.0
  filter-sound (Unsharp x) h =
      let q = both _ _ h in
      line-sound (leb-true _ _ q.1) (both _ _ (both _ _ q.0).0).0
  filter-sound Binomial h =
      let q = both _ _ h in
      let v = both _ _ (both _ _ q.0).0 in
      let b = both _ _ v.0 in
      let m = no-measure b.0 in
      record {
        direction = let d = m.direction in omega arith;
        border = rw (eqb-true f.border 0 b.1, eqb-true f.value 0 v.1) (is_border_lem Replicate);
        filter = (eqb-true _ _ q.1, m.angle, m.estimate);
        angle = zero_angle f.angle m.angle;
        estimate = zero_finite f.estimate m.estimate;
      }

  pub sound : (k : RecordFilter) → legal k f ≡ true → Sound k f
  unfolding legal
  sound k h = filter-sound k (both (head_legal f.head) (filter_legal k f) h).1

  -- no length is above that of the largest side
  size-most : length_legal f.head.width f.head.height f.blur_length ≡ true → head_legal f.head ≡ true
      → f.blur_length ≤ 2 * max_side + 1
  size-most h head =
      let L = f.blur_length in
      let most = 2 * max f.head.width f.head.height + 1 in
      let n = leb-true L most (both (eqb (L % 2) 1 && leb 3 L) (leb L most) h).1 in
      let sides = both (side_legal f.head.width) (side_legal f.head.height) head in
      let width = side_most f.head.width sides.0 in
      let height = side_most f.head.height sides.1 in
      omega (arith, n, width, height)

  filter-length : (k : RecordFilter) → head_legal f.head ≡ true → filter_legal k f ≡ true
      → f.blur_length ≤ 2 * max_side + 1
  unfolding filter_legal
  filter-length (WholeJob x) head h =
      let none = (no-measure (both (iterated_legal f) (unmeasured f) h).1).blur_length in
      omega (arith, none)
  filter-length (Restoration x) head h =
      size-most (both (iterated_legal f) (length_legal f.head.width f.head.height f.blur_length) h).1 head
  filter-length (Unsharp x) head h =
      let size = length_legal f.head.width f.head.height f.blur_length in
      let q = both (line_legal f && size && eqb f.iterations 0) (leb f.q (max_gain * scale)) h in
      let n = both (line_legal f && size) (eqb f.iterations 0) q.0 in
      size-most (both (line_legal f) size n.0).1 head
  filter-length Binomial head h =
      let zero = unmeasured f && eqb f.border 0 && eqb f.value 0 in
      let q = both (zero && eqb f.iterations 0) (eqb f.q 0) h in
      let n = both zero (eqb f.iterations 0) q.0 in
      let v = both (unmeasured f && eqb f.border 0) (eqb f.value 0) n.0 in
      let none = (no-measure (both (unmeasured f) (eqb f.border 0) v.0).0).blur_length in
      omega (arith, none)

  pub length_most : (k : RecordFilter) → legal k f ≡ true → f.blur_length ≤ 2 * max_side + 1
  unfolding legal
  length_most k h = let p = both (head_legal f.head) (filter_legal k f) h in filter-length k p.0 p.1

-- ---- the filter that fields name

pub data Named (f : Fields) (k : RecordFilter) : Type 0 where
  whole_job : k ≡ WholeJob (factor_of f.q) → f.head.filter ≡ 1 → f.blur_length ≡ 0 → Named f k
  restoration : k ≡ Restoration (factor_of f.q) → f.head.filter ≡ 1 → (f.blur_length ≡ 0 → ⊥) → Named f k
  unsharp : k ≡ Unsharp (factor_of f.q) → f.head.filter ≡ 2 → Named f k
  binomial : k ≡ Binomial → f.head.filter ≡ 3 → Named f k

pub filter_named : (f : Fields) (k : RecordFilter) → Named f k → filter_from f ≡ Some k
unfolding filter_from
filter_named f k (whole_job e n z) = rw (e, n, z)
filter_named f k (restoration e n z) = rw (e, n, ne_eqb f.blur_length 0 z)
filter_named f k (unsharp e n) = rw (e, n)
filter_named f k (binomial e n) = rw (e, n)

same_filter : {k l : RecordFilter} → Some k ≡ Some l → l ≡ k
same_filter e = cc

pub named : (f : Fields) (k : RecordFilter) → filter_from f ≡ Some k → Named f k
unfolding filter_from
named f k e =
    by_test (eqb f.head.filter 1)
    (λ a.
    by_test (eqb f.blur_length 0)
    (λ z. whole_job (same_filter (rw (a, z) at e)) (eqb-true _ _ a) (eqb-true _ _ z))
    (λ z. restoration (same_filter (rw (a, z) at e)) (eqb-true _ _ a) (eqb-false _ _ z)))
    (λ a.
    by_test (eqb f.head.filter 2) (λ b. unsharp (same_filter (rw (a, b) at e)) (eqb-true _ _ b))
    (λ b.
    by_test (eqb f.head.filter 3) (λ c. binomial (same_filter (rw (a, b, c) at e)) (eqb-true _ _ c))
    (λ c. absurd (none-some k (rw (a, b, c) at e)))))
