-- 001's `rise_of` as its Rust has it: one loop over the run that looks for both levels at once.
-- `swings/proofs/RustRise` says that it gives what `rise_of` gives.
use Rattle.std.specs.Prelude.{ℕ, zero, suc, ◌-◌, ◌≡◌, refl, Bool, true, false, not, cond, ◌&&◌, [], ◌∷◌, ltb, pos, get_or, Float, Option, Some, None}
use Rattle.std.specs.Float.{binary64}
use Rattle.std.specs.Float.Ieee.{of_bits, of_int, add, sub, mul, div, le, lt, eq}
use Rattle.swings.specs.declared.Swing.{Swing}
use Rattle.swings.specs.Rise.{double, swing_of, level_of, crossed_at, place_at, low_part, high_part, rise_between}

-- `is_some`
abbrev pub is_set : Option Float → Bool
is_set (Some p) = true
is_set None = false

-- the two marks, `p_lo` and `p_hi`
pub record Marks : Type 0 where
  pub low : Option Float
  pub high : Option Float

-- The loop's k steps from sample i on, with the marks so far. The low mark is set where there is none yet, the high one
-- at every step that crosses its level, and a step that sets the high mark is the last one if the low mark is set by
-- then.
unfoldable pub marks_from : (ℕ → ℕ) → Bool → Float → Float → Option Float → Option Float → ℕ → ℕ → Marks
marks_from x rising lo hi low high i zero = record { low = low; high = high }
marks_from x rising lo hi low high i (suc k) =
    let v0 = double x i in
    let v1 = double x (suc i) in
    let low1 = cond (not (is_set low) && crossed_at rising lo v0 v1) (Some (place_at i lo v0 v1)) low in
    let high1 = cond (crossed_at rising hi v0 v1) (Some (place_at i hi v0 v1)) high in
    cond (crossed_at rising hi v0 v1 && is_set low1) (record { low = low1; high = high1 })
    (marks_from x rising lo hi low1 high1 (suc i) k)

-- the rise of the run from sample a to sample b, for a least swing
unfoldable pub rust_rise : ℕ → (ℕ → ℕ) → ℕ → ℕ → Option Swing
unfolding marks_from
rust_rise least x a b =
    let lo = level_of (x a) (x b) low_part in
    let hi = level_of (x a) (x b) high_part in
    let marks = marks_from x (ltb (x a) (x b)) lo hi None None a (b - a) in
    cond (ltb (swing_of (x a) (x b)) least) None (rise_between marks.low marks.high (swing_of (x a) (x b)))

-- ---- worked examples: document 01's ramp is 3.0 wide, and so is the same one falling
ramp : rust_rise 24 (λ i. get_or (0 ∷ 50 ∷ 100 ∷ 150 ∷ 200 ∷ 250 ∷ []) i 0) 0 5
    ≡ Some (record { width = of_bits binary64 0x4008_0000_0000_0000; swing = pos 250 })
unfolding rust_rise level_of crossed_at place_at rise_between of_bits of_int add sub mul div le lt eq
ramp = refl

falling_ramp : rust_rise 24 (λ i. get_or (250 ∷ 200 ∷ 150 ∷ 100 ∷ 50 ∷ 0 ∷ []) i 0) 0 5
    ≡ Some (record { width = of_bits binary64 0x4008_0000_0000_0000; swing = pos 250 })
unfolding rust_rise level_of crossed_at place_at rise_between of_bits of_int add sub mul div le lt eq
falling_ramp = refl

-- Where the samples are not monotonic, the high mark can move: before the low level, 20, is crossed, the high one, 80,
-- is crossed at 0.75 and again at 3.5.
moved : marks_from (λ i. get_or (50 ∷ 90 ∷ 90 ∷ 70 ∷ 90 ∷ []) i 0) true (of_int binary64 (pos 20))
    (of_int binary64 (pos 80)) None None 0 4
    ≡ record { low = None; high = Some (of_bits binary64 0x400C_0000_0000_0000) }
unfolding marks_from crossed_at place_at of_bits of_int add sub mul div le lt eq
moved = refl
