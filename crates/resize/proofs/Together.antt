-- Document 02, K8: "Halving m times and then n times equals m + n times, for m + n of at most 10": of the calls, their
-- refusals and every byte (`then_is_together`, `together_is_then`), and 18 alone (`eighteen_together`,
-- `first_eighteen`). A count of 1 is the single call (`one_is_box`, `one_number`), and a count of 0 copies
-- (`none_starts`, `none_copies`).
use Prim.Native.Nat.{ℕ, zero, suc, ◌+◌, ◌*◌, ◌≤◌, ◌<◌}
use native.Mathlib.Nat.{le_trans, mul-le-mul}
use native.Mathlib.Omega.{arith}
use mathlib.Core.Bool.{Bool, true, false, cond, ◌||◌}
use mathlib.Core.List.{List}
use mathlib.Core.Logic.{◌⊎◌, inl, inr, ⊎_elim, ◌↔◌}
use mathlib.Core.Path.{◌≡◌, refl, sym, ap, ◌∙◌}
use borrow.Author.Tests.{le-ltb}
use lib.Dec.{ltb}
use lib.ListN.{length}
use Rattle.numbers.specs.Written.{Painted}
use Rattle.numbers.proofs.Written.{painted_get, painted_same}
use Rattle.std.specs.Prelude.{Result, Ok}
use Rattle.image.specs.Call.{Gray8, gray8, accepts, number_of}
use Rattle.image.specs.declared.refusal as refusal
use Rattle.image.specs.Conditions.{Refusal, Matches}
use Rattle.image.specs.Picture.{pixel}
use Rattle.image.specs.Refusal.{first_refusal}
use Rattle.image.specs.Same.{SamePicture}
use Rattle.image.proofs.Call.{decided_accepts, number_decided}
use Rattle.image.proofs.Pair.{at_laid}
use Rattle.image.proofs.Accepted.{accepted, place_within}
use Rattle.resize.specs.Call.{max_halvings, count_refusal, halving_refusal, halve_scratch, halve_refusal}
use Rattle.resize.specs.Call.{box_decision, BoxHalved}
use Rattle.resize.specs.Call.{halve_decision, HalveWrites, Halved}
use Rattle.resize.specs.Conditions.{SomeBelow2, halve_conditions, HalveAccepted}
use Rattle.resize.specs.Halving.{halved_times, side_after, starts_below2}
use Rattle.resize.proofs.Conditions.{halve_iff, halve_exactly}
use Rattle.resize.proofs.Halvings.{Agree, times_together, times_same}
use Rattle.resize.proofs.Refusals.{halving_one}
use Rattle.resize.proofs.Sides.{side_most, side_together, starts_together}

-- ---- 18

module _ (m n w h : ℕ) (few : m + n ≤ max_halvings) where
  -- that of the first halvings, then that of the others on their result
  pub count_together : count_refusal (m + n) w h
      ≡ first_refusal (count_refusal m w h) (count_refusal n (side_after m w) (side_after m h))
  unfolding count_refusal
  count_together =
      simp (
        le-ltb max_halvings (m + n) few,
        le-ltb max_halvings m (omega arith),
        le-ltb max_halvings n (omega arith),
        starts_together m n w h,
      )
      (either (starts_below2 m w h) (starts_below2 n (side_after m w) (side_after m h)))
    where
      either : (s t : Bool) → cond (s || t) 18 0 ≡ first_refusal (cond s 18 0) (cond t 18 0)
      either true t = refl
      either false t = refl

  -- 18 for m + n exactly where 18 for m, or for n on the result
  pub eighteen_together : (count_refusal (m + n) w h ≡ 18)
      ↔ ((count_refusal m w h ≡ 18) ⊎ (count_refusal n (side_after m w) (side_after m h) ≡ 18))
  unfolding count_refusal
  eighteen_together =
      rw count_together
      (first_either (ltb max_halvings m || starts_below2 m w h) (count_refusal n (side_after m w) (side_after m h)))
    where
      first_either : (t : Bool) (k : ℕ)
          → (first_refusal (cond t 18 0) k ≡ 18) ↔ (◌≡◌ {A = ℕ} (cond t 18 0) 18 ⊎ (k ≡ 18))
      first_either true k = (λ e. inl refl, λ e. refl)
      first_either false k = (inr, ⊎_elim (λ e. let z : ◌≡◌ {A = ℕ} 0 18 = e in absurd (omega arith)) (λ e. e))

-- ---- the calls

-- the result of a call, as a source
abbrev pub result_of : Gray8 → List ℕ → Gray8
result_of dst new = gray8 new dst.width dst.height dst.stride

-- what an accepted call has
module _ (count : ℕ) (src dst : Gray8) {new scratch scratch₁ : List ℕ}
    (call : Halved count src dst new scratch scratch₁ (Ok tt)) where
  decides : halve_decision count src dst (length scratch) ≡ accepts tt
  decides = sym call.answered

  taken : HalveAccepted (length src.bytes) src.width src.height src.stride (length dst.bytes)
      dst.width dst.height dst.stride count (length scratch)
  taken = (halve_iff _ _ _ _ _ _ _ _ _ _).0 (decided_accepts _ _ tt decides).0

  painted : Painted 0 (halved_times count (pixel src.bytes src.stride)) (side_after count src.width)
      (side_after count src.height) dst.stride dst.bytes new
  painted = call.written tt decides

  -- a pixel of the result
  result-at : (c r : ℕ) → c < side_after count src.width → r < side_after count src.height
      → pixel new dst.stride c r ≡ halved_times count (pixel src.bytes src.stride) c r
  result-at c r hc hr =
      let l = at_laid taken.pictures.target in
      painted_get (halved_times count (pixel src.bytes src.stride)) (side_after count src.width)
      (side_after count src.height) dst.stride painted c r hc hr l.stride_least (place_within l c r hc hr)

module _ (m n : ℕ) (few : m + n ≤ max_halvings) (src mid dst : Gray8) {mid' scratch scratch₁ : List ℕ}
    (first : Halved m src mid mid' scratch scratch₁ (Ok tt)) where
  -- they decide the same, with as much scratch
  pub decision_together : halve_decision n (result_of mid mid') dst (length scratch)
      ≡ halve_decision (m + n) src dst (length scratch)
  unfolding halve_refusal halving_refusal
  decision_together =
      let t = taken m src mid first in
      let least : side_after m src.width * side_after m src.height ≤ length scratch =
      le_trans (mul-le-mul (side_most m src.width) (side_most m src.height)) t.scratch_least in
      rw (
        (painted m src mid first).same_length,
        accepted t.pictures.target.destination,
        accepted t.pictures.source,
        t.pictures.target.same_width,
        t.pictures.target.same_height,
        count_together m n src.width src.height few,
        t.pictures.starts,
        side_together m n src.width,
        side_together m n src.height,
        le-ltb (length scratch) (src.width * src.height) t.scratch_least,
        le-ltb (length scratch) (side_after m src.width * side_after m src.height) least,
      )

  -- they write the same
  module _ (old new : List ℕ) where
    abbrev result : ℕ → ℕ → ℕ
    result = halved_times n (pixel mid' mid.stride)

    abbrev both : ℕ → ℕ → ℕ
    both = halved_times n (halved_times m (pixel src.bytes src.stride))

    abbrev w : ℕ
    w = side_after n (side_after m src.width)

    abbrev h : ℕ
    h = side_after n (side_after m src.height)

    agree : Agree result both w h
    agree =
        times_same n (pixel mid' mid.stride) (halved_times m (pixel src.bytes src.stride))
        (side_after m src.width) (side_after m src.height) (result-at m src mid first)

    writes-together : HalveWrites n (result_of mid mid') dst.stride tt old new
        ↔ HalveWrites (m + n) src dst.stride tt old new
    writes-together =
        rw (
          (taken m src mid first).pictures.target.same_width,
          (taken m src mid first).pictures.target.same_height,
          side_together m n src.width,
          side_together m n src.height,
          times_together m n (pixel src.bytes src.stride),
        ) (
          λ P. painted_same result w h dst.stride P both agree,
          λ P. painted_same both w h dst.stride P result (λ c r hc hr. sym (agree c r hc hr)),
        )

  module _ (other : List ℕ) (lent : length other ≡ length scratch) where
    same : halve_decision n (result_of mid mid') dst (length other) ≡ halve_decision (m + n) src dst (length other)
    same = rw lent decision_together

    -- what the second call may leave is what one call of both may leave, and the other way round
    pub then_is_together : {new other₁ : List ℕ} (answer : Result (Unit {0}) refusal.Refusal.Refusal)
        → Halved n (result_of mid mid') dst new other other₁ answer
        → Halved (m + n) src dst new other other₁ answer
    then_is_together answer o =
        record {
          answered = o.answered ∙ same;
          written = λ found is. (writes-together _ _).0 (o.written found (same ∙ is));
          dst_kept = λ k is. o.dst_kept k (same ∙ is);
          scratch_kept = λ k is. o.scratch_kept k (same ∙ is);
        }

    pub together_is_then : {new other₁ : List ℕ} (answer : Result (Unit {0}) refusal.Refusal.Refusal)
        → Halved (m + n) src dst new other other₁ answer
        → Halved n (result_of mid mid') dst new other other₁ answer
    together_is_then answer o =
        record {
          answered = o.answered ∙ (sym same);
          written = λ found is. (writes-together _ _).1 (o.written found (sym same ∙ is));
          dst_kept = λ k is. o.dst_kept k (sym same ∙ is);
          scratch_kept = λ k is. o.scratch_kept k (sym same ∙ is);
        }

-- where the first call gives 18, so does one call of both, whatever the destinations and the scratch
module _ (m n : ℕ) (src mid dst : Gray8) (k k' : ℕ) where
  abbrev conditions : ℕ → Gray8 → ℕ → List Refusal
  conditions count to lent =
      halve_conditions (length src.bytes) src.width src.height src.stride (length to.bytes) to.width
      to.height to.stride count lent

  abbrev Eighteen : ℕ → Type 0
  Eighteen count = (max_halvings < count) ⊎ SomeBelow2 count src.width src.height

  more : Eighteen m → Eighteen (m + n)
  more (inl l) = inl (omega arith)
  more (inr s) = inr (record { done = s.done; is_one = omega (arith, s.is_one); below = s.below })

  other : (i : ℕ) → i < 18 → 18 ≡ i → ⊥
  other i l e = omega arith

  still : Matches (conditions m mid k) 18 → Matches (conditions (m + n) dst k') 18
  still (inl a) = absurd (other 1 (omega arith) a.1)
  still (inr (n1, inl a)) = absurd (other 2 (omega arith) a.1)
  still (inr (n1, inr (n2, inl a))) = absurd (other 3 (omega arith) a.1)
  still (inr (n1, inr (n2, inr (n3, inl a)))) = absurd (other 4 (omega arith) a.1)
  still (inr (n1, inr (n2, inr (n3, inr (n4, inl a))))) =
      inr (n1, inr (n2, inr (n3, inr (n4, inl (more a.0, refl)))))
  still (inr (n1, inr (n2, inr (n3, inr (n4, inr (n18, inl a)))))) = absurd (other 5 (omega arith) a.1)
  still (inr (n1, inr (n2, inr (n3, inr (n4, inr (n18, inr (n5, inl a))))))) = absurd (other 6 (omega arith) a.1)
  still (inr (n1, inr (n2, inr (n3, inr (n4, inr (n18, inr (n5, inr (n6, inl a)))))))) =
      absurd (other 10 (omega arith) a.1)
  still (inr (n1, inr (n2, inr (n3, inr (n4, inr (n18, inr (n5, inr (n6, inr (n10, e))))))))) =
      absurd (other 0 (omega arith) e)

  pub first_eighteen : number_of (halve_decision m src mid k) ≡ 18 → number_of (halve_decision (m + n) src dst k') ≡ 18
  first_eighteen e =
      (halve_exactly (m + n) src dst k' 18).1 (record { matches = still ((halve_exactly m src mid k 18).0 e).matches })

-- ---- a count of 1

first_none : (a : ℕ) → first_refusal a 0 ≡ a
first_none zero = refl
first_none (suc a) = refl

module _ (src dst : Gray8) where
  -- the number of the single call, and 10 behind it
  pub one_number : (k : ℕ) → number_of (halve_decision 1 src dst k)
      ≡ first_refusal (number_of (box_decision src dst)) (cond (ltb k (halve_scratch src.width src.height)) 10 0)
  unfolding halve_refusal
  one_number k =
      number_decided _ tt
      ∙ ap (λ (r : ℕ). first_refusal r (cond (ltb k (halve_scratch src.width src.height)) 10 0))
      (halving_one _ _ _ _ _ _ _ _ ∙ sym (number_decided _ tt))

  one-decision : (k : ℕ) → halve_scratch src.width src.height ≤ k → halve_decision 1 src dst k ≡ box_decision src dst
  unfolding halve_refusal
  one-decision k enough =
      rw (
        le-ltb k (src.width * src.height) enough,
        halving_one (length src.bytes) src.width src.height src.stride (length dst.bytes) dst.width
            dst.height dst.stride,
        first_none,
      )

  -- with its scratch, the call is the single one
  pub one_is_box : {new scratch scratch₁ : List ℕ} (answer : Result (Unit {0}) refusal.Refusal.Refusal)
      → halve_scratch src.width src.height ≤ length scratch → Halved 1 src dst new scratch scratch₁ answer
      → BoxHalved src dst new answer
  unfolding halved_times side_after
  one_is_box {scratch = scratch} answer enough o =
      record {
        answered = o.answered ∙ decides-one;
        written = λ found is. o.written found (decides-one ∙ is);
        dst_kept = λ k is. o.dst_kept k (decides-one ∙ is);
        scratch_kept = λ _ _ _. refl;
      }
    where
      decides-one : halve_decision 1 src dst (length scratch) ≡ box_decision src dst
      decides-one = one-decision (length scratch) enough

-- ---- a count of 0

pub none_starts : (w h : ℕ) → count_refusal 0 w h ≡ 0
unfolding count_refusal starts_below2
none_starts w h = refl

-- the destination shows the source's picture
pub none_copies : (src dst : Gray8) {new scratch scratch₁ : List ℕ} → Halved 0 src dst new scratch scratch₁ (Ok tt)
    → SamePicture src (result_of dst new)
unfolding halved_times side_after
none_copies src dst call =
    let t = (taken 0 src dst call).pictures in
    record {
      laid = t.source;
      laid' = rw (painted 0 src dst call).same_length t.target.destination;
      same_width = sym t.target.same_width;
      same_height = sym t.target.same_height;
      same_pixels = λ c r hc hr. sym (result-at 0 src dst call c r hc hr);
    }
