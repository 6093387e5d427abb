-- The state of the loop of `pass`: `Turn` is what a turn starts from, what is left of the pass.
use Rattle.std.proofs.Common.{◌≡◌, sym, ◌∙◌, ap, subst, List, ◌∷◌, ℕ, ◌+◌, ◌<◌, drop, length, get_or, add-one}
use Rattle.std.proofs.Math.Seq.{drop-cons}
use Rattle.swings.specs.declared.Swing.{Swing}
use Rattle.blur.specs.declared.select.Pass.{Pass}
use Rattle.blur.specs.Select.{passed, tallied, pass_all, tally_all, PassAsked, TallyAsked, Tallied}

module _ (xs : List Swing) (first : Pass) (before : List ℕ) where
  -- it comes to what the whole pass comes to, and may still be done
  pub record Turn (i : ℕ) (a : Pass) (counts : List ℕ) : Type 0 where
    pub state : pass_all (drop i xs) a ≡ pass_all xs first
    pub tallies : tally_all (drop i xs) a counts ≡ tally_all xs first before
    pub allowed : PassAsked (drop i xs) a counts

  module _ {i : ℕ} {a : Pass} {counts : List ℕ} (k : Turn i a counts) where
    module _ (d : Swing) (below : i < length xs) where
      here : drop i xs ≡ get_or xs i d ∷ drop (i + 1) xs
      here = rw add-one (drop-cons xs i d below)

      allowed : TallyAsked (get_or xs i d) a counts
          × PassAsked (drop (i + 1) xs) (passed (get_or xs i d) a) (tallied (get_or xs i d) a counts)
      allowed = subst (λ (l : List Swing). PassAsked l a counts) here k.allowed

      pub asked : TallyAsked (get_or xs i d) a counts
      asked = allowed.0

      pub turned : {r : Pass} {after : List ℕ} → Tallied (get_or xs i d) a counts after r → Turn (i + 1) r after
      turned t = rw (t.state, t.counts) (record {
        state = ap (λ (l : List Swing). pass_all l a) (sym here) ∙ k.state;
        tallies = ap (λ (l : List Swing). tally_all l a counts) (sym here) ∙ k.tallies;
        allowed = allowed.1;
      })
