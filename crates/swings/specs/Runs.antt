-- The monotonic runs of a line (document 01, Length): a plateau extends the run before it, and the next run starts at
-- the plateau's last sample.
use Rattle.std.specs.Prelude.{◌≡◌, ℕ, zero, suc, ◌+◌, ◌-◌, ◌≤◌, ◌<◌, Bool, true, false, cond, List, [], ◌∷◌, ltb, Option, Some, None}
use Rattle.swings.specs.Rise.{swing_of}

-- a run from one sample to a later one
pub record Run : Type 0 where
  pub first : ℕ
  pub last : ℕ

-- which way a run goes, or a step from one sample to the next
pub data Slope : Type 0 where
  Level Rising Falling : Slope

abbrev pub slope_between : ℕ → ℕ → Slope
slope_between v w = cond (ltb v w) Rising (cond (ltb w v) Falling Level)

-- a run of the first slope ends before a step of the second
abbrev pub turns_at : Slope → Slope → Bool
turns_at Level step = false
turns_at Rising Level = false
turns_at Rising Rising = false
turns_at Rising Falling = true
turns_at Falling Level = false
turns_at Falling Rising = true
turns_at Falling Falling = false

-- the slope of a run after one more step
abbrev pub onward_from : Slope → Slope → Slope
onward_from slope Level = slope
onward_from slope Rising = Rising
onward_from slope Falling = Falling

-- a run that has a slope ends with the line
abbrev pub last_run : ℕ → Slope → ℕ → List Run
last_run a Level i = []
last_run a Rising i = record { first = a; last = i } ∷ []
last_run a Falling i = record { first = a; last = i } ∷ []

-- the runs that are left at sample i with k samples after it, where the present run began at sample a and has this
-- slope so far
unfoldable pub runs_from : (ℕ → ℕ) → ℕ → Slope → ℕ → ℕ → List Run
runs_from x a slope i zero = last_run a slope i
runs_from x a slope i (suc k) =
    let step = slope_between (x i) (x (suc i)) in
    let next = runs_from x i step (suc i) k in
    let longer = runs_from x a (onward_from slope step) (suc i) k in
    cond (turns_at slope step) (record { first = a; last = i } ∷ next) longer

-- the runs from the one that starts at sample a on, up to sample `last`
abbrev pub runs_up_to : (ℕ → ℕ) → ℕ → ℕ → List Run
runs_up_to x last a = runs_from x a Level a (last - a)

-- the same of a line of n samples, where one of fewer than 3 has none
unfoldable pub runs_after : (ℕ → ℕ) → ℕ → ℕ → List Run
unfolding runs_from
runs_after x n a = cond (ltb n 3) [] (runs_up_to x (n - 1) a)

-- the runs of a line of n samples
abbrev pub runs : (ℕ → ℕ) → ℕ → List Run
runs x n = runs_after x n 0

-- ---- what the functions that follow a run answer

-- the first samples of the run from sample a are level up to sample r, and the next one differs
pub record LevelTo (x : ℕ → ℕ) (last a r : ℕ) : Type 0 where
  pub from : a ≤ r
  pub within : r ≤ last
  pub runs : runs_up_to x last a ≡ runs_from x a Level r (last - r)
  pub differs : r < last → x r ≡ x (r + 1) → ⊥

abbrev pub slope_of : Bool → Slope
slope_of true = Rising
slope_of false = Falling

-- from sample i on, where it rises or falls, it goes on to sample r, and ends there
pub record SlopeEnd (x : ℕ → ℕ) (last i : ℕ) (rising : Bool) (r : ℕ) : Type 0 where
  pub from : i ≤ r
  pub within : r ≤ last
  pub same : (a : ℕ) → runs_from x a (slope_of rising) i (last - i) ≡ runs_from x a (slope_of rising) r (last - r)
  pub ends : (a : ℕ) → runs_from x a (slope_of rising) r (last - r) ≡ record { first = a; last = r } ∷ runs_up_to x last r

-- it ends at sample b, where the others start, or there is none
abbrev pub runs_by : (ℕ → ℕ) → ℕ → ℕ → Option ℕ → List Run
runs_by x last a (Some b) = record { first = a; last = b } ∷ runs_up_to x last b
runs_by x last a None = []

abbrev pub EndWithin : ℕ → ℕ → Option ℕ → Type 0
EndWithin a last (Some b) = (a < b) × (b ≤ last)
EndWithin a last None = Unit {0}

pub record RunTo (x : ℕ → ℕ) (last a : ℕ) (r : Option ℕ) : Type 0 where
  pub runs : runs_up_to x last a ≡ runs_by x last a r
  pub within : EndWithin a last r

-- the runs that change by at least `least`
unfoldable pub steep : ℕ → (ℕ → ℕ) → List Run → List Run
steep least x [] = []
steep least x (r ∷ rs) =
    cond (ltb (swing_of (x r.first) (x r.last)) least) (steep least x rs) (r ∷ steep least x rs)

-- those from sample b on are those from sample r on
pub record SteepFrom (x : ℕ → ℕ) (least last b r : ℕ) : Type 0 where
  pub from : b ≤ r
  pub runs : steep least x (runs_up_to x last b) ≡ steep least x (runs_up_to x last r)
