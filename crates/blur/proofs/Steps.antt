-- Over plain values: the digit chosen, and the state after a pass.
use mathlib.Core.Path.{◌≡◌, refl, ap, ◌∙◌}
use mathlib.Core.Bool.{Bool, true, false, cond}
use mathlib.Core.List.{List, [], ◌∷◌}
use Prim.Native.Nat.{ℕ, suc, ◌+◌, ◌-◌, ◌<◌}
use native.Mathlib.Omega.{arith}
use lib.Dec.{ltb}
use lib.IntN.{ℤ}
use lib.ListN.{length, replicate}
use Rattle.blur.specs.declared.select.Pass.{Pass}
use Rattle.blur.specs.declared.select.Chosen.{Chosen}
use Rattle.blur.specs.Select.{pick_from, wanted, kept_of, prefix_of, reach_of, zeros, Narrows}

-- ---- the digit chosen is one of the counts' places
pub pick_lt : (cs : List ℕ) (d p : ℕ) → 0 < d + length cs → (pick_from cs d p).digit < d + length cs
pick_lt [] d p h = h
pick_lt (c ∷ cs) d p h = go (ltb p c) (pick_lt cs (suc d) (p - c) (omega arith))
  where
    go : (b : Bool) → (pick_from cs (suc d) (p - c)).digit < suc d + length cs
        → (cond b (record { digit = d; place = p }) (pick_from cs (suc d) (p - c))).digit < d + suc (length cs)
    go true k = omega arith
    go false k = omega arith

-- ---- the state after a pass
pub narrows : (a : Pass) (cs after : List ℕ) (o : Chosen) (p prefix reach shift kept : ℕ) (top : ℤ)
    → top ≡ a.strongest → p ≡ wanted a
    → o ≡ pick_from cs 0 p → kept ≡ kept_of a → shift ≡ a.shift - 13
    → reach ≡ reach_of kept shift a.low a.high a.total → prefix ≡ prefix_of a o.digit
    → after ≡ replicate (length cs) 0 → length cs ≡ 8192
    → Narrows a cs after
    (record {
      left = a.left - 1;
      total = a.total;
      reach = reach;
      low = a.low;
      high = a.high;
      strongest = top;
      prefix = prefix;
      shift = shift;
      place = o.place;
      kept = kept;
      count = 0;
    })
unfolding zeros
narrows a cs after o p prefix reach shift kept top t e f g h i j k n =
    record { state = rw (t, i, j, f, e, h, g) refl; counts = k ∙ ap (λ (m : ℕ). replicate m 0) n }
