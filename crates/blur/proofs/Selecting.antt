-- The state of the loop of `select`: a pass, and the choice of its digit. `At` is what a turn starts from.
use mathlib.Core.Path.{◌≡◌, refl, sym, ◌∙◌, ap, subst}
use Prim.Native.Nat.{ℕ, ◌<◌}
use mathlib.Core.List.{List}
use lib.IntN.{pos}
use lib.Ieee.{binary64, of_bits}
use lib.ListN.{take, replicate}
use Rattle.swings.specs.declared.Swing.{Swing}
use Rattle.blur.specs.Select.{pass_all, tally_all, narrowed, zeros, round, PassAsked, Passes, NarrowAsked, Narrows}
use Rattle.blur.specs.Select.{SelectAsked}
use Rattle.blur.specs.declared.select.Pass.{Pass}
use Rattle.blur.proofs.Rounds.{Known, known_first, known_next, less, narrowable}
use Rattle.blur.proofs.Selected.{countables}

-- a state and the counts, after a pass over l and after the choice of a digit
abbrev pub Both : Type 0
Both = Pass × List ℕ

abbrev pub counted : List Swing → Both → Both
counted l t = (pass_all l t.0, tally_all l t.0 t.1)

abbrev pub onward : Both → Both
onward t = (narrowed t.0 t.1, zeros)

passes_is : (l : List Swing) (t u : Both) → Passes l t.0 t.1 u.1 u.0 → u ≡ counted l t
passes_is l t u e = λ i. (e.state i, e.counts i)

narrows_is : (t u : Both) → Narrows t.0 t.1 u.1 u.0 → u ≡ onward t
narrows_is t u e = λ i. (e.state i, e.counts i)

-- the counts before the first pass
pub no_counts : replicate 8192 0 ≡ zeros
unfolding zeros
no_counts = refl

module _ (swings : List Swing) (p : Pass) where
  pub record At (c : Pass) (counts : List ℕ) : Type 0 where
    pub clear : counts ≡ zeros
    pub known : Known swings c

  pub starts : SelectAsked swings p → At p (replicate 8192 0)
  starts asks = record { clear = no_counts; known = known_first swings p asks }

  module _ (asks : SelectAsked swings p) {c : Pass} {counts : List ℕ} (t : At c counts) (more : 0 < c.left) where
    -- the records that a pass goes over
    abbrev shown : List Swing
    shown = take c.reach swings

    pub passable : PassAsked shown c counts
    passable = subst (PassAsked shown c) (sym t.clear)
        (countables c.reach swings (record { width = of_bits binary64 0; swing = pos 0 }) c t.known asks.widths
        asks.few)

    -- the pass has left u, and the choice of a digit v
    module _ (u : Both) (e : Passes shown c counts u.1 u.0) where
      pub narrowable_after : NarrowAsked u.0 u.1
      narrowable_after = subst (λ (v : Both). NarrowAsked v.0 v.1) (sym (passes_is shown (c, counts) u e)) (subst (λ
          (cs : List ℕ). NarrowAsked (pass_all shown c) (tally_all shown c cs)) (sym t.clear) (narrowable swings c t.known more shown))

      module _ (v : Both) (e' : Narrows u.0 u.1 v.1 v.0) where
        pub round_is : v.0 ≡ round swings c
        round_is =
            ap (λ (z : Both). z.0) (narrows_is u v e' ∙ ap onward (passes_is shown (c, counts) u e))
            ∙ ap (λ (cs : List ℕ). narrowed (pass_all shown c) (tally_all shown c cs)) t.clear

        pub after : At v.0 v.1
        after = record {
          clear = e'.counts;
          known = subst (Known swings) (sym round_is) (known_next swings c t.known more asks.widths);
        }

        pub less_after : v.0.left < c.left
        less_after = subst (λ (q : Pass). q.left < c.left) (sym round_is) (less swings c t.known more)
