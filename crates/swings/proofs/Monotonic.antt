-- The runs of a line are monotonic: no step of a run goes against its slope, and its ends differ (`runs_monotonic`).
use Prim.Native.Nat.{ℕ, zero, suc, ◌+◌, ◌-◌, ◌≤◌, ◌<◌}
use mathlib.Core.Path.{◌≡◌, refl, sym, ap, subst}
use native.Mathlib.Omega.{arith}
use native.Mathlib.Decide.{dec_lt}
use mathlib.Core.Bool.{Bool, true, false, cond, true≢false}
use mathlib.Core.List.{List, [], ◌∷◌}
use lib.Dec.{ltb}
use borrow.Author.Tests.{ltb-true, ltb-false}
use Rattle.swings.specs.Runs.{Run, Slope, Level, Rising, Falling, slope_between, turns_at, onward_from, last_run}
use Rattle.swings.specs.Runs.{runs_from, runs_up_to, runs_after, slope_of}
use Rattle.std.specs.List.{AllByRecursion as Each}
use Rattle.swings.proofs.Slopes.{onward_level}

abbrev pub StepOn : Slope → ℕ → ℕ → Type 0
StepOn Level v w = v ≡ w
StepOn Rising v w = v ≤ w
StepOn Falling v w = w ≤ v

abbrev pub EndsOn : Slope → ℕ → ℕ → Type 0
EndsOn Level v w = v ≡ w
EndsOn Rising v w = v < w
EndsOn Falling v w = w < v

pub record Monotonic (x : ℕ → ℕ) (slope : Slope) (a b : ℕ) : Type 0 where
  pub steps : (j : ℕ) → a ≤ j → j < b → StepOn slope (x j) (x (suc j))
  pub ends : EndsOn slope (x a) (x b)

step_same : (slope : Slope) {v w : ℕ} → v ≡ w → StepOn slope v w
step_same Level e = e
step_same Rising e = omega arith
step_same Falling e = omega arith

step_trans : (slope : Slope) (u v w : ℕ) → StepOn slope u v → StepOn slope v w → StepOn slope u w
step_trans Level u v w h k = omega arith
step_trans Rising u v w h k = omega arith
step_trans Falling u v w h k = omega arith

-- from any sample of the run to a later one
pub along : (x : ℕ → ℕ) (slope : Slope) (a b : ℕ) → Monotonic x slope a b → (i j : ℕ) → a ≤ i → i ≤ j → j ≤ b
    → StepOn slope (x i) (x j)
along x slope a b m i j h k l =
    let there : i + (j - i) ≡ j = omega arith in
    subst (λ (z : ℕ). StepOn slope (x i) (x z)) there (go (j - i) (omega arith))
  where
    go : (d : ℕ) → i + d ≤ b → StepOn slope (x i) (x (i + d))
    go zero p = step_same slope (ap x (omega arith))
    go (suc d) p =
        let next : suc (i + d) ≡ i + suc d = omega arith in
        step_trans slope (x i) (x (i + d)) (x (i + suc d)) (go d (omega arith))
        (subst (λ (z : ℕ). StepOn slope (x (i + d)) (x z)) next (m.steps (i + d) (omega arith) (omega arith)))

abbrev pub RunMonotonic : (ℕ → ℕ) → Run → Type 0
RunMonotonic x r = (rising : Bool) × Monotonic x (slope_of rising) r.first r.last

step_ends : (v w : ℕ) → EndsOn (slope_between v w) v w
step_ends v w = go (ltb v w) (ltb w v) refl refl
  where
    go : (p q : Bool) → ltb v w ≡ p → ltb w v ≡ q → EndsOn (cond p Rising (cond q Falling Level)) v w
    go true q e f = ltb-true v w e
    go false true e f = ltb-true w v f
    go false false e f = omega (arith, ltb-false v w e, ltb-false w v f)

-- one more step, from v to w, that does not turn
onward_ends : (slope step : Slope) (u v w : ℕ) → turns_at slope step ≡ false → EndsOn slope u v → EndsOn step v w
    → EndsOn (onward_from slope step) u w
onward_ends Level Level u v w e h k = omega arith
onward_ends Level Rising u v w e h k = omega arith
onward_ends Level Falling u v w e h k = omega arith
onward_ends Rising Level u v w e h k = omega arith
onward_ends Rising Rising u v w e h k = omega arith
onward_ends Rising Falling u v w e h k = absurd (true≢false e)
onward_ends Falling Level u v w e h k = omega arith
onward_ends Falling Rising u v w e h k = absurd (true≢false e)
onward_ends Falling Falling u v w e h k = omega arith

onward_before : (slope step : Slope) (v w : ℕ) → turns_at slope step ≡ false → StepOn slope v w
    → StepOn (onward_from slope step) v w
onward_before slope Level v w e h = h
onward_before Level Rising v w e h = omega arith
onward_before Level Falling v w e h = omega arith
onward_before Rising Rising v w e h = h
onward_before Rising Falling v w e h = absurd (true≢false e)
onward_before Falling Rising v w e h = absurd (true≢false e)
onward_before Falling Falling v w e h = h

onward_here : (slope step : Slope) (v w : ℕ) → EndsOn step v w → StepOn (onward_from slope step) v w
onward_here Level Level v w h = h
onward_here Rising Level v w h = omega arith
onward_here Falling Level v w h = omega arith
onward_here slope Rising v w h = omega arith
onward_here slope Falling v w h = omega arith

module _ (x : ℕ → ℕ) where
  none_yet : (a : ℕ) → Monotonic x Level a a
  none_yet a = record { steps = λ j h l. omega arith; ends = refl }

  onward-monotonic : (a : ℕ) (slope : Slope) (i : ℕ) → turns_at slope (slope_between (x i) (x (suc i))) ≡ false
      → Monotonic x slope a i
      → Monotonic x (onward_from slope (slope_between (x i) (x (suc i)))) a (suc i)
  onward-monotonic a slope i e m = record {
    steps = λ j h l. go j h l (dec_lt j i);
    ends = onward_ends slope (slope_between (x i) (x (suc i))) (x a) (x i) (x (suc i)) e m.ends
        (step_ends (x i) (x (suc i)));
  }
    where
      go : (j : ℕ) → a ≤ j → j < suc i → Dec (j < i)
          → StepOn (onward_from slope (slope_between (x i) (x (suc i)))) (x j) (x (suc j))
      go j h l (yes p) = onward_before slope (slope_between (x i) (x (suc i))) (x j) (x (suc j)) e (m.steps j h p)
      go j h l (no p) =
          let same : i ≡ j = omega arith in
          subst (λ (z : ℕ). StepOn (onward_from slope (slope_between (x i) (x (suc i)))) (x z) (x (suc z))) same
          (onward_here slope (slope_between (x i) (x (suc i))) (x i) (x (suc i)) (step_ends (x i) (x (suc i))))

  turned-monotonic : (a : ℕ) (slope step : Slope) (i : ℕ) → turns_at slope step ≡ true → Monotonic x slope a i
      → RunMonotonic x (record { first = a; last = i })
  turned-monotonic a Level step i e m = absurd (true≢false (sym e))
  turned-monotonic a Rising step i e m = (true, m)
  turned-monotonic a Falling step i e m = (false, m)

  cond-monotonic : (a : ℕ) (slope step : Slope) (i : ℕ) (t : Bool) (next longer : List Run) → turns_at slope step ≡ t
      → Monotonic x slope a i
      → Each (RunMonotonic x) next → (turns_at slope step ≡ false → Each (RunMonotonic x) longer)
      → Each (RunMonotonic x) (cond t (record { first = a; last = i } ∷ next) longer)
  cond-monotonic a slope step i true next longer e m h k = (turned-monotonic a slope step i e m, h)
  cond-monotonic a slope step i false next longer e m h k = k e

  last-monotonic : (a : ℕ) (slope : Slope) (i : ℕ) → Monotonic x slope a i → Each (RunMonotonic x) (last_run a slope i)
  last-monotonic a Level i m = tt
  last-monotonic a Rising i m = ((true, m), tt)
  last-monotonic a Falling i m = ((false, m), tt)

  from-monotonic : (a : ℕ) (slope : Slope) (i k : ℕ) → Monotonic x slope a i
      → Each (RunMonotonic x) (runs_from x a slope i k)
  unfolding runs_from
  from-monotonic a slope i zero m = last-monotonic a slope i m
  from-monotonic a slope i (suc k) m =
      let step = slope_between (x i) (x (suc i)) in
      cond-monotonic a slope step i (turns_at slope step) (runs_from x i step (suc i) k)
      (runs_from x a (onward_from slope step) (suc i) k) refl m
      (from-monotonic i step (suc i) k
      (subst (λ (s : Slope). Monotonic x s i (suc i)) (onward_level step)
      (onward-monotonic i Level i refl (none_yet i))))
      (λ e. from-monotonic a (onward_from slope step) (suc i) k (onward-monotonic a slope i e m))

  pub runs_monotonic : (n a : ℕ) → Each (RunMonotonic x) (runs_after x n a)
  unfolding runs_after
  runs_monotonic n a = go (ltb n 3)
    where
      go : (t : Bool) → Each (RunMonotonic x) (cond t [] (runs_up_to x (n - 1) a))
      go true = tt
      go false = from-monotonic a Level a (n - 1 - a) (none_yet a)
