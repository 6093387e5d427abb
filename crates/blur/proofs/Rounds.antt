-- The passes of a selection: what is known between them, before the first and after the last.
-- The list is any whose widths are finite, above zero and doubles.
use mathlib.Core.Path.{◌≡◌, refl, sym, ap, ap₂, ◌∙◌, subst}
use mathlib.Core.Bool.{Bool, true, false, not, cond, ◌&&◌}
use mathlib.Core.Logic.{◌⊎◌, inl, inr}
use mathlib.Core.List.{List, [], ◌∷◌, map}
use Prim.Native.Nat.{ℕ, suc, ◌+◌, ◌-◌, ◌*◌, ◌/◌, ◌^◌, ◌≤◌, ◌<◌}
use native.Mathlib.Nat.{le_refl, zero-add, mul_comm, mul-le-mul_left, div-mul-le_self, div-div-eq-div-mul}
use native.Mathlib.Omega.{arith}
use lib.Dec.{eqb}
use lib.Pow.{pow-add, pow_pos, shr_mono}
use lib.Seq.{take-length}
use lib.IntN.{ℤ}
use lib.ListN.{length, get_or, take, length-replicate, get_or-replicate}
use lib.Ieee.{binary64, to_bits}
use lib.Ieee.Bits.{to_bits-lt}
use borrow.Author.Tests.{eq-eqb, le-ltb, eqb-true, eqb-false, not-true}
use Rattle.swings.specs.declared.Swing.{Swing}
use Rattle.blur.specs.declared.select.Pass.{Pass}
use Rattle.swings.specs.Swings.{strongest}
use Rattle.blur.specs.Median.{stays, kept}
use Rattle.std.specs.List.{AllByRecursion as Each}
use Rattle.blur.specs.Select.{pass_all, tally_all, pick_from, wanted, reach_of, narrowed, zeros, round, NarrowAsked}
use Rattle.blur.specs.Select.{Widths, SelectAsked}
use Rattle.swings.specs.Scan.{span_of}
use Rattle.numbers.proofs.Each.{each_map}
use Rattle.blur.proofs.Place.{count, count_le}
use Rattle.blur.proofs.Spans.{span_fits, span_within}
use Rattle.blur.proofs.Radix.{having, Narrowed, narrow_step, narrowed_start, narrowed_small}
use Rattle.blur.proofs.Passes.{keys, keys_lt, length_keys, length_kept, with_count, pass_all_is, pass_all_count}
use Rattle.blur.proofs.Passes.{length_tally_all, tally_all_is}

-- ---- a round
pub length_zeros : length zeros ≡ 8192
unfolding zeros
length_zeros = length-replicate {A = ℕ} 8192 0

get_or_zeros : (e : ℕ) → e < 8192 → get_or zeros e 0 ≡ 0
unfolding zeros
get_or_zeros e h = get_or-replicate 8192 e 0 0 h

pub cells : (l : List Swing) (a : Pass) (e : ℕ) → e < 8192
    → get_or (tally_all l a zeros) e 0 ≡ having (a.prefix * 8192 + e) (2 ^ a.shift) (keys a.strongest l)
cells l a e h =
    tally_all_is l a zeros e length_zeros h
    ∙ ap (◌+ having (a.prefix * 8192 + e) (2 ^ a.shift) (keys a.strongest l)) (get_or_zeros e h)
    ∙ zero-add _

pub length_cells : (l : List Swing) (a : Pass) → length (tally_all l a zeros) ≡ 8192
length_cells l a = length_tally_all l a zeros ∙ length_zeros

pick_none : (cs : List ℕ) (d p : ℕ) → ((i : ℕ) → i < length cs → get_or cs i 0 ≡ 0) → (pick_from cs d p).digit ≡ 0
pick_none [] d p e = refl
pick_none (c ∷ cs) d p e =
    rw (le-ltb p c (omega (arith, e 0 (omega arith)))) (pick_none cs (suc d) (p - c) (λ i h. e (suc i) (omega arith)))

-- once a pass has counted the keys: their number, and the digits above the unit u
pub record State (l : List Swing) (u : ℕ) (a : Pass) : Type 0 where
  pub all : a.kept ≡ length (keys a.strongest l)
  pub found : 0 < length (keys a.strongest l)
      → Narrowed (length (keys a.strongest l) / 2) u a.prefix a.place (keys a.strongest l)

-- what is known between two passes, before the first and after the last
pub record Known (l : List Swing) (a : Pass) : Type 0 where
  pub top : a.strongest ≡ strongest l
  pub most : a.left ≤ 5
  pub step : a.shift ≡ 13 * a.left - 13
  pub none : a.count ≡ 0
  pub total : a.total ≡ length l
  pub reach : a.reach ≡ reach_of a.kept a.shift a.low a.high a.total
  pub small : a.low < 2 ^ 64
  pub within : Each (λ y. (a.low ≤ y) × (y ≤ a.high)) (keys a.strongest l)
  pub room : 0 < a.left → a.prefix * 2 ^ a.shift < 2 ^ 51
  pub fresh : 0 < a.left → a.kept ≡ 0 → Each (λ y. y / 2 ^ a.shift / 8192 ≡ a.prefix) (keys a.strongest l)
  pub later : 0 < a.left → 0 < a.kept → State l (8192 * 2 ^ a.shift) a
  pub done : a.left ≡ 0 → State l 1 a

pub pos_of : (n : ℕ) → (n ≡ 0 → ⊥) → 0 < n
pos_of n k = omega arith

-- ---- the first pass
each_keys : (top : ℤ) (P : ℕ → Type 0) (l : List Swing) → Each (λ (s : Swing). P (to_bits binary64 s.width)) l
    → Each P (keys top l)
each_keys top P [] e = tt
each_keys top P (s ∷ l) e = go (stays top s) (each_keys top P l e.1)
  where
    go : (b : Bool) → Each P (keys top l) → Each P (map (to_bits binary64) (cond b (s.width ∷ kept top l) (kept top l)))
    go true r = (e.0, r)
    go false r = r

pub known_first : (l : List Swing) (a : Pass) → SelectAsked l a → Known l a
known_first l a s = subst (Known l) (sym s.starts) (record {
  top = refl;
  most = le_refl _;
  step = refl;
  none = refl;
  total = refl;
  reach = refl;
  small = to_bits-lt binary64 (span_of l).least (span_fits l s.widths);
  within = each_keys (strongest l)
      (λ y. (to_bits binary64 (span_of l).least ≤ y) × (y ≤ to_bits binary64 (span_of l).greatest)) l
      (span_within l s.widths);
  room = λ _. omega arith;
  fresh = λ _ _. each_map (◌< 2 ^ 64) (λ y. y / 2 ^ 52 / 8192 ≡ 0) (λ y h. omega arith) (keys (strongest l) l)
      (keys_lt (strongest l) l s.widths);
  later = λ _ h. absurd (omega arith);
  done = λ e. absurd (omega (arith, e));
})

count_all : (u p : ℕ) (l : List ℕ) → Each (λ y. y / u / 8192 ≡ p) l → count (λ y. eqb (y / u / 8192) p) l ≡ length l
count_all u p [] e = refl
count_all u p (y ∷ l) e = rw (eq-eqb (y / u / 8192) p e.0) (omega (arith, count_all u p l e.1))

each_none : (P : ℕ → Type 0) (l : List ℕ) → length l ≡ 0 → Each P l
each_none P [] e = tt
each_none P (y ∷ l) e = absurd (omega arith)

-- ---- a pass
module _ (l : List Swing) (a : Pass) (k : Known l a) (some : 0 < a.left) where
  abbrev ks : List ℕ
  ks = keys a.strongest l

  -- the state after a pass that counted n records
  abbrev next : ℕ → List ℕ → Pass
  next n cs = narrowed (with_count a n) cs

  round_is : (m : List Swing)
      → narrowed (pass_all m a) (tally_all m a zeros) ≡ next (pass_all m a).count (tally_all m a zeros)
  round_is m =
      let e = pass_all_is m a in
      ap (λ (b : Pass). narrowed b (tally_all m a zeros)) (e ∙ ap (with_count a) (sym (ap (λ (b : Pass). b.count) e)))

  -- where a digit is left, it lies 13 bits lower
  unit : 0 < a.left - 1 → 2 ^ a.shift ≡ 8192 * 2 ^ (a.shift - 13)
  unit more = ap (2 ^◌) lower ∙ pow-add 2 13 (a.shift - 13)
    where
      lower : a.shift ≡ 13 + (a.shift - 13)
      lower = omega (arith, k.step)

  onward : (n : ℕ) (cs : List ℕ) → (0 < a.left - 1 → (next n cs).prefix * 2 ^ (a.shift - 13) < 2 ^ 51)
      → (0 < a.left - 1 → (next n cs).kept ≡ 0 → Each (λ y. y / 2 ^ (a.shift - 13) / 8192 ≡ (next n cs).prefix) ks)
      → (0 < a.left - 1 → 0 < (next n cs).kept → State l (8192 * 2 ^ (a.shift - 13)) (next n cs))
      → (a.left - 1 ≡ 0 → State l 1 (next n cs)) → Known l (next n cs)
  onward n cs room fresh later done =
      record {
        top = k.top;
        most = omega (arith, k.most);
        step = omega (arith, k.step);
        none = refl;
        total = k.total;
        reach = refl;
        small = k.small;
        within = k.within;
        room = room;
        fresh = fresh;
        later = later;
        done = done;
      }

  -- ---- over all records
  module _ (over : eqb a.reach 0 ≡ false) where
    abbrev cs : List ℕ
    cs = tally_all l a zeros

    abbrev n : ℕ
    n = (pass_all l a).count

    -- all are counted in the first pass, and how many there are is kept
    all-counted : cond (eqb a.kept 0) n a.kept ≡ length ks
    all-counted = go (eqb a.kept 0) refl
      where
        go : (b : Bool) → eqb a.kept 0 ≡ b → cond b n a.kept ≡ length ks
        go true q = pass_all_count l a
            ∙ ap₂ ◌+◌ k.none (count_all (2 ^ a.shift) a.prefix ks (k.fresh some (eqb-true a.kept 0 q)))
            ∙ zero-add _
        go false q = (k.later some (pos_of a.kept (eqb-false a.kept 0 q))).all

    place-wanted : 0 < length ks
        → Narrowed (length ks / 2) (8192 * 2 ^ a.shift) a.prefix (wanted (with_count a n)) ks
    place-wanted h = go (eqb a.kept 0) refl all-counted
      where
        go : (b : Bool) → eqb a.kept 0 ≡ b → cond b n a.kept ≡ length ks
            → Narrowed (length ks / 2) (8192 * 2 ^ a.shift) a.prefix (cond b (n / 2) a.place) ks
        go true q e = rw e (narrowed_start (length ks / 2) (2 ^ a.shift) a.prefix ks (pow_pos a.shift)
            (k.fresh some (eqb-true a.kept 0 q)) (omega arith))
        go false q e = (k.later some (pos_of a.kept (eqb-false a.kept 0 q))).found h

    abbrev digit : ℕ
    digit = (pick_from cs 0 (wanted (with_count a n))).digit

    prefix-is : (next n cs).prefix ≡ a.prefix * 8192 + digit
    prefix-is = ap (λ (b : Bool). cond b (a.low / 2 ^ a.shift) (a.prefix * 8192 + digit)) over

    no_digit : length ks ≡ 0 → digit ≡ 0
    no_digit h = pick_none cs 0 (wanted (with_count a n)) nothing
      where
        nothing : (i : ℕ) → i < length cs → get_or cs i 0 ≡ 0
        nothing i j =
            let e : i < 8192 = omega (arith, length_cells l a) in
            omega (arith, cells l a i e, count_le (λ y. eqb (y / 2 ^ a.shift) (a.prefix * 8192 + i)) ks)

    state-after : State l (2 ^ a.shift) (next n cs)
    state-after =
        record {
          all = all-counted;
          found = λ h. rw prefix-is
              (narrow_step (length ks / 2) (2 ^ a.shift) a.prefix (wanted (with_count a n)) ks cs
              (pow_pos a.shift) (length_cells l a) (cells l a) (place-wanted h));
        }

    room_after : Widths l → 0 < a.left - 1 → (next n cs).prefix * 2 ^ (a.shift - 13) < 2 ^ 51
    room_after e more = go (eqb (length ks) 0) refl
      where
        go : (b : Bool) → eqb (length ks) 0 ≡ b → (next n cs).prefix * 2 ^ (a.shift - 13) < 2 ^ 51
        go true q =
            let z : (next n cs).prefix ≡ a.prefix * 8192 =
            omega (arith, prefix-is, no_digit (eqb-true (length ks) 0 q)) in
            rw z (omega (arith, k.room some, ap (a.prefix *◌) (unit more)))
        go false q =
            omega (
              arith,
              ap ((next n cs).prefix *◌) (unit more),
              narrowed_small (length ks / 2) (2 ^ a.shift)
                  (next n cs).prefix (next n cs).place (2 ^ 64) ks (keys_lt a.strongest l e)
                  (state-after.found (pos_of (length ks) (eqb-false (length ks) 0 q))),
            )

    known_over : Widths l → Known l (next n cs)
    known_over e =
        onward n cs (room_after e) (λ _ z. each_none _ ks (sym all-counted ∙ z))
        (λ more _. subst (λ (u : ℕ). State l u (next n cs)) (unit more) state-after)
        (λ z. let low : a.shift ≡ 0 = omega (arith, k.step) in
        subst (λ (u : ℕ). State l u (next n cs)) (ap (2 ^◌) low) state-after)

  -- ---- over none: the keys share the digit, or there are no records
  record Shared : Type 0 where
    none : a.reach ≡ 0
    fresh : a.kept ≡ 0
    digit : a.shift ≡ 0 → ⊥
    same : a.low / 2 ^ a.shift ≡ a.high / 2 ^ a.shift

  reached : (a.reach ≡ length l) ⊎ Shared
  reached = go (eqb a.kept 0) (not (eqb a.shift 0)) (eqb (a.low / 2 ^ a.shift) (a.high / 2 ^ a.shift)) refl
      refl refl k.reach
    where
      go : (t u v : Bool) → eqb a.kept 0 ≡ t → not (eqb a.shift 0) ≡ u
          → eqb (a.low / 2 ^ a.shift) (a.high / 2 ^ a.shift) ≡ v → a.reach ≡ cond (t && u && v) 0 a.total
          → (a.reach ≡ length l) ⊎ Shared
      go true true true p q s e =
          inr (record {
            none = e;
            fresh = eqb-true a.kept 0 p;
            digit =
                eqb-false a.shift 0 (not-true (eqb a.shift 0) q);
            same =
                eqb-true (a.low / 2 ^ a.shift) (a.high / 2 ^ a.shift) s;
          })
      go true true false p q s e = inl (e ∙ k.total)
      go true false v p q s e = inl (e ∙ k.total)
      go false u v p q s e = inl (e ∙ k.total)

  module _ (none : a.reach ≡ 0) where
    few-keys : length ks ≤ length l
    few-keys = omega (arith, length_keys a.strongest l, length_kept a.strongest l)

    no_keys : a.reach ≡ length l → length ks ≡ 0
    no_keys e = omega (arith, few-keys, none)

    no-kept : a.kept ≡ 0
    no-kept = go (eqb a.kept 0) refl reached
      where
        go : (b : Bool) → eqb a.kept 0 ≡ b → (a.reach ≡ length l) ⊎ Shared → a.kept ≡ 0
        go true q s = eqb-true a.kept 0 q
        go false q (inl e) = (k.later some (pos_of a.kept (eqb-false a.kept 0 q))).all ∙ no_keys e
        go false q (inr s) = s.fresh

    abbrev bare : Pass
    bare = next a.count zeros

    prefix-shared : bare.prefix ≡ a.low / 2 ^ a.shift
    prefix-shared = ap (λ (b : Bool). cond b (a.low / 2 ^ a.shift)
        (a.prefix * 8192 + (pick_from zeros 0 (wanted a)).digit)) (eq-eqb a.reach 0 none)

    kept-none : bare.kept ≡ 0
    kept-none = ap (λ (b : Bool). cond b a.count a.kept) (eq-eqb a.kept 0 no-kept) ∙ k.none

    fresh-after : 0 < a.left - 1 → Each (λ y. y / 2 ^ (a.shift - 13) / 8192 ≡ bare.prefix) ks
    fresh-after more = go reached
      where
        down : (y : ℕ) → y / 2 ^ (a.shift - 13) / 8192 ≡ y / 2 ^ a.shift
        down y = div-div-eq-div-mul y (2 ^ (a.shift - 13)) 8192
            ∙ ap (y /◌) (mul_comm (2 ^ (a.shift - 13)) 8192 ∙ sym (unit more))

        go : (a.reach ≡ length l) ⊎ Shared → Each (λ y. y / 2 ^ (a.shift - 13) / 8192 ≡ bare.prefix) ks
        go (inl e) = each_none _ ks (no_keys e)
        go (inr s) =
            each_map (λ y. (a.low ≤ y) × (y ≤ a.high)) (λ y. y / 2 ^ (a.shift - 13) / 8192 ≡ bare.prefix)
            (λ y b. omega (
              arith,
              down y,
              prefix-shared,
              s.same,
              shr_mono a.shift b.0,
              shr_mono a.shift
                  b.1,
            )) ks k.within

    room-shared : 0 < a.left - 1 → bare.prefix * 2 ^ (a.shift - 13) < 2 ^ 51
    room-shared more = rw prefix-shared
        (omega (arith, k.small, ap (a.low / 2 ^ a.shift *◌) (unit more), div-mul-le_self a.low (2 ^ a.shift)))

    done_none : a.left - 1 ≡ 0 → State l 1 bare
    done_none z = go reached
      where
        go : (a.reach ≡ length l) ⊎ Shared → State l 1 bare
        go (inl e) = record { all = kept-none ∙ sym (no_keys e); found = λ h. absurd (omega (arith, no_keys e)) }
        go (inr s) = absurd (s.digit (omega (arith, k.step)))

    known-none : Known l bare
    known-none = onward a.count zeros room-shared (λ more _. fresh-after more)
        (λ _ h. absurd (omega (arith, kept-none))) done_none

  -- ---- either way
  pub known_next : Widths l → Known l (round l a)
  known_next e = go (eqb a.reach 0) refl reached
    where
      go : (b : Bool) → eqb a.reach 0 ≡ b → (a.reach ≡ length l) ⊎ Shared → Known l (round l a)
      go true q s = let z = eqb-true a.reach 0 q in
          subst (λ (m : ℕ). Known l (narrowed (pass_all (take m l) a) (tally_all (take m l) a zeros))) (sym z)
          (known-none z)
      go false q (inl z) =
          subst (λ (m : List Swing). Known l (narrowed (pass_all m a) (tally_all m a zeros)))
          (sym (ap (λ (m : ℕ). take m l) z ∙ take-length l)) (subst (Known l) (sym (round_is l)) (known_over q e))
      go false q (inr s) = absurd (eqb-false a.reach 0 q s.none)

  pub less : (round l a).left < a.left
  less = omega (arith, ap (λ (b : Pass). b.left) (pass_all_is (take a.reach l) a))

  pub narrowable : (m : List Swing) → NarrowAsked (pass_all m a) (tally_all m a zeros)
  narrowable m =
      let e = pass_all_is m a in
      record {
        digits = length_cells m a;
        room = omega (
          arith,
          ap (λ (b : Pass). b.prefix) e,
          k.room some,
          mul-le-mul_left a.prefix
              (pow_pos a.shift),
        );
        below = omega (arith, ap (λ (b : Pass). b.shift) e, k.step, k.most);
        some = omega (arith, ap (λ (b : Pass). b.left) e);
      }
