-- A refusal is given in its condition and otherwise never: what a chain of tests gives is the first match of the list
-- of its conditions (`match_test`, `match_unless`, `match_then`), which no other number is (`exactly`), least of all
-- one that no condition has (`not_given`); so is the number of a call's decision (`decided_exactly`). The lists of 1 to
-- 6 (`layout_matches`, `pair_matches`), and what is accepted (`layout_iff`, `pair_iff`).
use Prim.Native.Nat.{ℕ, zero, suc, ◌+◌, ◌*◌, ◌-◌}
use native.Mathlib.Omega.{arith}
use mathlib.Core.Bool.{Bool, true, false, not, cond}
use mathlib.Core.List.{List, [], ◌∷◌, ◌++◌}
use mathlib.Core.Logic.Iff
use mathlib.Core.Logic.{inl, inr, ◌↔◌}
use mathlib.Core.Path.{◌≡◌, refl, sym, subst, ◌∙◌}
use lib.Dec.{T, eqb, ltb}
use borrow.Author.Tests.{eq-eqb}
use Rattle.numbers.proofs.Test.{false_not_true, eqb_iff, ltb_iff, or_iff, false_iff, and_false_iff}
use Rattle.image.specs.Conditions.{
  Refusal,
  given,
  Matches,
  FirstMatch,
  Exactly,
  layout_conditions,
  sized_conditions,
  pair_conditions,
}
use Rattle.image.specs.Refusal.{max_side, first_refusal, sides_refusal, rows_refusal, layout_refusal}
use Rattle.image.specs.Refusal.{destination_refusal, sizes_refusal, sized_refusal, pair_refusal, Laid, LaidPair}
use Rattle.image.specs.Call.{Decision, unless, decided, number_of}
use Rattle.image.proofs.Call.{number_decided, number_unless}
use Rattle.image.proofs.Chain.{first_own}
use Rattle.image.proofs.Pair.{laid_pair, accepted_pair}
use Rattle.image.proofs.Accepted.{laid, accepted}

-- ---- no two numbers match

one : (rs : List Refusal) (m n : ℕ) → Matches rs m → Matches rs n → m ≡ n
one [] m n e f = e ∙ sym f
one (r ∷ rs) m n (inl a) (inl b) = a.1 ∙ sym b.1
one (r ∷ rs) m n (inl a) (inr b) = absurd (b.0 a.0)
one (r ∷ rs) m n (inr a) (inl b) = absurd (a.0 b.0)
one (r ∷ rs) m n (inr a) (inr b) = one rs m n a.1 b.1

pub exactly : {rs : List Refusal} {refusal : ℕ} → FirstMatch rs refusal → Exactly rs refusal
exactly {rs} {refusal} m n =
    (λ e. subst (FirstMatch rs) e m, λ k. one rs refusal n m.matches k.matches)

-- ---- chains of tests

pub match_none : FirstMatch [] 0
match_none = record { matches = refl }

module _ {rs : List Refusal} {C : Type 0} (number : ℕ) {n : ℕ} (rest : FirstMatch rs n) where
  pub match_test : {t : Bool} → (t ≡ true) ↔ C → FirstMatch (given number C ∷ rs) (cond t number n)
  match_test {t = true} iff = record { matches = inl (iff.0 refl, refl) }
  match_test {t = false} iff = record { matches = inr (λ c. false_not_true refl (iff.1 c), rest.matches) }

  -- by a test that must hold
  pub match_unless : {t : Bool} → (t ≡ false) ↔ C → FirstMatch (given number C ∷ rs) (cond t n number)
  match_unless {t = true} iff = record { matches = inr (λ c. false_not_true (iff.1 c) refl, rest.matches) }
  match_unless {t = false} iff = record { matches = inl (iff.0 refl, refl) }

-- none of the numbers is 0
abbrev pub Numbered : List Refusal → Type 0
Numbered [] = Unit {0}
Numbered (r ∷ rs) = T (ltb 0 r.number) × Numbered rs

some : (n : ℕ) → T (ltb 0 n) → n ≡ 0 → ⊥
some zero ok e = ok
some (suc n) ok e = omega arith

-- ---- a number that no condition has

abbrev pub Without : ℕ → List Refusal → Type 0
Without n [] = T (ltb 0 n)
Without n (r ∷ rs) = T (not (eqb n r.number)) × Without n rs

pub not_given : {rs : List Refusal} {refusal : ℕ} → FirstMatch rs refusal → (n : ℕ) → Without n rs → refusal ≡ n → ⊥
not_given {rs} m n other e = go rs other (subst (FirstMatch rs) e m).matches
  where
    go : (rs : List Refusal) → Without n rs → Matches rs n → ⊥
    go [] other e = some n other e
    go (r ∷ rs) other (inl a) = let z : T (not (eqb n r.number)) = other.0 in rw (eq-eqb n r.number a.1) at z
    go (r ∷ rs) other (inr a) = go rs other.1 a.1

-- one list after the other
then : (rs ss : List Refusal) (a b : ℕ) → Numbered rs → Matches rs a → Matches ss b
    → Matches (rs ++ ss) (first_refusal a b)
then [] ss a b ok e f = rw e f
then (r ∷ rs) ss a b ok (inl m) f =
    inl (m.0, first_own a b (λ e. some r.number ok.0 (sym m.1 ∙ e)) ∙ m.1)
then (r ∷ rs) ss a b ok (inr m) f = inr (m.0, then rs ss a b ok.1 m.1 f)

pub match_then : {rs ss : List Refusal} {a b : ℕ} → FirstMatch rs a → Numbered rs → FirstMatch ss b
    → FirstMatch (rs ++ ss) (first_refusal a b)
match_then {rs} {ss} {a} {b} m ok k = record { matches = then rs ss a b ok m.matches k.matches }

-- ---- a call's decision: its number

module _ {R : Type 0} {rs : List Refusal} {refusal : ℕ} (m : FirstMatch rs refusal) where
  pub decided_exactly : (found : R) → Exactly rs (number_of (decided refusal found))
  decided_exactly found = exactly (subst (FirstMatch rs) (sym (number_decided refusal found)) m)

  -- .. and what else is decided
  pub match_unless_decided : {ss : List Refusal} → Numbered rs → (next : Decision R) → FirstMatch ss (number_of next)
      → FirstMatch (rs ++ ss) (number_of (unless refusal next))
  match_unless_decided {ss} ok next k =
      subst (FirstMatch (rs ++ ss)) (sym (number_unless refusal next)) (match_then m ok k)

-- ---- 1 to 6

module _ (len width height stride : ℕ) where
  pub layout_matches : FirstMatch (layout_conditions len width height stride) (layout_refusal len width height stride)
  unfolding layout_refusal sides_refusal rows_refusal
  layout_matches =
      match_then
      (match_test 1
      (match_test 2 match_none (or_iff _ _ (ltb_iff max_side width) (ltb_iff max_side height)))
      (or_iff _ _ (eqb_iff width 0) (eqb_iff height 0)))
      (tt, (tt, tt))
      (match_test 3 (match_test 4 match_none (ltb_iff len (stride * (height - 1) + width))) (ltb_iff stride width))

  pub layout_numbered : Numbered (layout_conditions len width height stride)
  layout_numbered = (tt, (tt, (tt, (tt, tt))))

  -- what is accepted, and the other way round
  pub layout_iff : (layout_refusal len width height stride ≡ 0) ↔ Laid len width height stride
  layout_iff = (laid, accepted)

pub sized_matches : (dst_len dst_width dst_height dst_stride w h : ℕ)
    → FirstMatch (sized_conditions dst_len dst_width dst_height dst_stride w h)
    (sized_refusal dst_len dst_width dst_height dst_stride w h)
unfolding sized_refusal destination_refusal sizes_refusal
sized_matches dst_len dst_width dst_height dst_stride w h =
    match_then
    (match_unless 5 match_none
    (false_iff _
    (Iff.trans (eqb_iff (layout_refusal dst_len dst_width dst_height dst_stride) 0)
    (layout_iff dst_len dst_width dst_height dst_stride))))
    (tt, tt)
    (match_unless 6 match_none (and_false_iff _ _ (eqb_iff dst_width w) (eqb_iff dst_height h)))

module _ (len width height stride dst_len dst_width dst_height dst_stride : ℕ) where
  pub pair_matches : FirstMatch (pair_conditions len width height stride dst_len dst_width dst_height dst_stride)
      (pair_refusal len width height stride dst_len dst_width dst_height dst_stride)
  unfolding pair_refusal
  pair_matches =
      match_then (layout_matches len width height stride) (layout_numbered len width height stride)
      (sized_matches dst_len dst_width dst_height dst_stride width height)

  pub pair_numbered : Numbered (pair_conditions len width height stride dst_len dst_width dst_height dst_stride)
  pair_numbered = (tt, (tt, (tt, (tt, (tt, (tt, tt))))))

  pub pair_iff : (pair_refusal len width height stride dst_len dst_width dst_height dst_stride ≡ 0)
      ↔ LaidPair len width height stride dst_len dst_width dst_height dst_stride
  pair_iff = (laid_pair, accepted_pair)
