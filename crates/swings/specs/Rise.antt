-- The rise of a monotonic run of a line (document 01, Length; 001's `rise_of`), in lib.Ieee's operations on doubles:
-- each rounds once.
use Rattle.std.specs.Prelude.{ℕ, zero, suc, ◌-◌, Bool, cond, ◌&&◌, ltb, pos, ◌-ℤ◌, Float, Option, Some, None}
use Rattle.std.specs.Float.{binary64}
use Rattle.std.specs.Float.Ieee.{of_bits, of_int, add, sub, mul, div, le, lt, eq}
use Rattle.swings.specs.declared.Swing.{Swing}

-- how far apart two samples are
abbrev pub swing_of : ℕ → ℕ → ℕ
swing_of va vb = cond (ltb va vb) (vb - va) (va - vb)

-- the level that lies `part` of the way from va to vb
unfoldable pub level_of : ℕ → ℕ → Float → Float
level_of va vb part = add binary64 (of_int binary64 (pos va)) (mul binary64 part (of_int binary64 (pos vb -ℤ pos va)))

-- the level lies between two samples, in the run's direction
unfoldable pub crossed_at : Bool → Float → Float → Float → Bool
crossed_at rising level v0 v1 = cond rising (le v0 level && le level v1) (le v1 level && le level v0)

-- where between sample i, v0, and the next, v1, the level lies
unfoldable pub place_at : ℕ → Float → Float → Float → Float
place_at i level v0 v1 =
    add binary64 (of_int binary64 (pos i))
    (cond (eq v1 v0) (of_bits binary64 0) (div binary64 (sub binary64 level v0) (sub binary64 v1 v0)))

-- the sample at place i as a double
abbrev pub double : (ℕ → ℕ) → ℕ → Float
double x i = of_int binary64 (pos (x i))

-- the place of the level's first crossing among the k steps from sample i on, if there is one
unfoldable pub crossing_of : (ℕ → ℕ) → Bool → Float → ℕ → ℕ → Option Float
crossing_of x rising level i zero = None
crossing_of x rising level i (suc k) =
    let later = crossing_of x rising level (suc i) k in
    cond (crossed_at rising level (double x i) (double x (suc i)))
    (Some (place_at i level (double x i) (double x (suc i)))) later

-- the distance of the two crossings, if the second lies after the first
unfoldable pub rise_between : Option Float → Option Float → ℕ → Option Swing
rise_between None high swing = None
rise_between (Some p0) None swing = None
rise_between (Some p0) (Some p1) swing =
    cond (lt p0 p1) (Some (record { width = sub binary64 p1 p0; swing = pos swing })) None

-- the doubles 0.2 and 0.8
abbrev pub low_part : Float
low_part = of_bits binary64 0x3FC999999999999A

abbrev pub high_part : Float
high_part = of_bits binary64 0x3FE999999999999A

-- the rise of the run from sample a to sample b, for a least swing
unfoldable pub rise_of : ℕ → (ℕ → ℕ) → ℕ → ℕ → Option Swing
rise_of least x a b =
    let rising = ltb (x a) (x b) in
    let low = crossing_of x rising (level_of (x a) (x b) low_part) a (b - a) in
    let high = crossing_of x rising (level_of (x a) (x b) high_part) a (b - a) in
    cond (ltb (swing_of (x a) (x b)) least) None (rise_between low high (swing_of (x a) (x b)))
