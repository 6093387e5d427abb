-- Laws of the places of a line: `one_line`, every pixel lies on one line at one place; `reach`, a line goes on until it
-- leaves the picture; `byte_at`, the bytes of its places. Assumes nothing.
use mathlib.Core.Path.{◌≡◌, refl, sym, ◌∙◌, ap}
use mathlib.Core.Bool.{◌&&◌, and-eq-true_iff}
use mathlib.Core.Logic.{◌⊎◌, inl, inr, ⊎_elim}
use Prim.Native.Nat.{ℕ, zero, suc, ◌+◌, ◌-◌, ◌*◌, ◌≤◌, ◌<◌, min, max}
use native.Mathlib.Nat.{mul-one, add-mul, mul-add, sub-add_cancel}
use native.Mathlib.Omega.{arith}
use lib.Dec.{leb, ltb}
use lib.IntN.{pos, negsuc, sub_ℕ, ◌+ℤ◌, ◌*ℤ◌}
use borrow.Author.Tests.{ltb-true, ltb-false, leb-true, leb-false, lt-ltb, le-ltb}
use Rattle.raster.specs.declared.direction.RasterDirection4.{RasterDirection4}
use Rattle.raster.specs.declared.direction.RasterDirection4.TheVariants.{Horizontal, DownRight}
use Rattle.raster.specs.declared.direction.RasterDirection4.TheVariants.{Vertical, DownLeft}
use Rattle.raster.specs.Lines.{line_count, start_col, start_row, line_length, line_of, col_at, row_at, OnLine, AtPlace}
use Rattle.raster.specs.Lines.{OneLine, Reach, in_picture, length_from, col_from, row_from, byte_of, place_step}
use Rattle.numbers.proofs.Test.{bool_cases, bool_ext}

-- ---- where a line starts

-- a diagonal's line k starts in the top row, or from row 1 in a side column, of which `side` says which it is
abbrev pub Diagonal : RasterDirection4 → Type 0 → ℕ → ℕ → Type 0
Diagonal d side w k =
    ((k < w) × (start_col d w k ≡ k) × (start_row d w k ≡ 0)) ⊎ ((w ≤ k) × side × (start_row d w k + w ≡ k + 1))

abbrev pub Starts : RasterDirection4 → ℕ → ℕ → Type 0
Starts Horizontal w k = (start_col Horizontal w k ≡ 0) × (start_row Horizontal w k ≡ k)
Starts DownRight w k = Diagonal DownRight (start_col DownRight w k ≡ 0) w k
Starts Vertical w k = (start_col Vertical w k ≡ k) × (start_row Vertical w k ≡ 0)
Starts DownLeft w k = Diagonal DownLeft (start_col DownLeft w k + 1 ≡ w) w k

pub starts : (d : RasterDirection4) (w k : ℕ) → 1 ≤ w → Starts d w k
unfolding start_col start_row
starts Horizontal w k hw = (refl, refl)
starts DownRight w k hw =
    ⊎_elim
    (λ e. inl (ltb-true k w e, simp e, simp e))
    (λ e. let h = ltb-false k w e in inr (h, simp e, simp e (omega arith)))
    (bool_cases (ltb k w))
starts Vertical w k hw = (refl, refl)
starts DownLeft w k hw =
    ⊎_elim
    (λ e. inl (ltb-true k w e, simp e, simp e))
    (λ e. let h = ltb-false k w e in inr (h, simp e (omega arith), simp e (omega arith)))
    (bool_cases (ltb k w))

-- ---- the line of a pixel

abbrev Lies : RasterDirection4 → ℕ → ℕ → ℕ → Type 0
Lies Horizontal w c r = line_of Horizontal w c r ≡ r
Lies DownRight w c r =
    ((r ≤ c) × (line_of DownRight w c r + r ≡ c)) ⊎ ((c < r) × (line_of DownRight w c r + c + 1 ≡ w + r))
Lies Vertical w c r = line_of Vertical w c r ≡ c
Lies DownLeft w c r = line_of DownLeft w c r ≡ c + r

lies : (d : RasterDirection4) (w c r : ℕ) → Lies d w c r
unfolding line_of
lies Horizontal w c r = refl
lies DownRight w c r =
    ⊎_elim
    (λ e. let h = leb-true r c e in inl (h, simp e (omega arith)))
    (λ e. let h = leb-false r c e in inr (h, simp e (omega arith)))
    (bool_cases (leb r c))
lies Vertical w c r = refl
lies DownLeft w c r = refl

-- ---- every pixel lies on one line, at one place

on_line : (d : RasterDirection4) (w h c r : ℕ) → 1 ≤ w → c < w → r < h → OnLine d w h c r
on_line Horizontal w h c r hw hc hr =
    omega (arith, lies Horizontal w c r, starts Horizontal w (line_of Horizontal w c r) hw)
on_line DownRight w h c r hw hc hr =
    ⊎_elim
    (λ l. ⊎_elim (λ s. omega arith) (λ s. omega arith) (starts DownRight w (line_of DownRight w c r) hw))
    (λ l. ⊎_elim (λ s. omega arith) (λ s. omega arith) (starts DownRight w (line_of DownRight w c r) hw))
    (lies DownRight w c r)
on_line Vertical w h c r hw hc hr = omega (arith, lies Vertical w c r, starts Vertical w (line_of Vertical w c r) hw)
on_line DownLeft w h c r hw hc hr =
    let l = lies DownLeft w c r in
    ⊎_elim (λ s. omega arith) (λ s. omega arith) (starts DownLeft w (line_of DownLeft w c r) hw)

at_place : (d : RasterDirection4) (w h k i : ℕ) → 1 ≤ w → k < line_count d w h → i < line_length d w h k
    → AtPlace d w h k i
at_place Horizontal w h k i hw hk hi =
    omega (arith, starts Horizontal w k hw, lies Horizontal w (col_at Horizontal w k i) (row_at Horizontal w k i))
at_place DownRight w h k i hw hk hi =
    let on = lies DownRight w (col_at DownRight w k i) (row_at DownRight w k i) in
    ⊎_elim
    (λ s. ⊎_elim (λ l. omega arith) (λ l. omega arith) on)
    (λ s. ⊎_elim (λ l. omega arith) (λ l. omega arith) on)
    (starts DownRight w k hw)
at_place Vertical w h k i hw hk hi =
    omega (arith, starts Vertical w k hw, lies Vertical w (col_at Vertical w k i) (row_at Vertical w k i))
at_place DownLeft w h k i hw hk hi =
    let l = lies DownLeft w (col_at DownLeft w k i) (row_at DownLeft w k i) in
    ⊎_elim (λ s. omega arith) (λ s. omega arith) (starts DownLeft w k hw)

pub one_line : (d : RasterDirection4) (w h : ℕ) → 1 ≤ w → OneLine d w h
one_line d w h hw = record { of_pixel = λ c r. on_line d w h c r hw; of_place = λ k i. at_place d w h k i hw }

-- line k starts at a pixel, has one at least, and no more than the longer side
pub record LineIn (d : RasterDirection4) (w h k : ℕ) : Type 0 where
  pub col : start_col d w k < w
  pub row : start_row d w k < h
  pub some : 1 ≤ line_length d w h k
  pub short : line_length d w h k ≤ max w h

pub line_in : (d : RasterDirection4) (w h k : ℕ) → 1 ≤ w → 1 ≤ h → k < line_count d w h → LineIn d w h k
line_in Horizontal w h k hw hh hk = omega (arith, starts Horizontal w k hw)
line_in DownRight w h k hw hh hk = ⊎_elim (λ s. omega arith) (λ s. omega arith) (starts DownRight w k hw)
line_in Vertical w h k hw hh hk = omega (arith, starts Vertical w k hw)
line_in DownLeft w h k hw hh hk = ⊎_elim (λ s. omega arith) (λ s. omega arith) (starts DownLeft w k hw)

-- ---- a line goes on until it leaves the picture

-- two bounds that say together what one says
both_below : (x w y h i n : ℕ) → ((x < w) × (y < h) → i < n) → (i < n → (x < w) × (y < h))
    → (ltb x w && ltb y h) ≡ ltb i n
both_below x w y h i n f g =
    bool_ext (ltb x w && ltb y h) (ltb i n)
    (λ e. let b = (and-eq-true_iff (ltb x w) (ltb y h)).0 e in lt-ltb i n (f (ltb-true x w b.0, ltb-true y h b.1)))
    (λ e. let b = g (ltb-true i n e) in (and-eq-true_iff (ltb x w) (ltb y h)).1 (lt-ltb x w b.0, lt-ltb y h b.1))

-- i steps to the left from column c: within the picture, and beyond
leftwards : (c i : ℕ) → pos c +ℤ pos i *ℤ negsuc 0 ≡ sub_ℕ c i
leftwards c zero = simp (le-ltb c 0 (omega arith)) (ap pos (omega arith))
leftwards c (suc j) = simp mul-one

left_within : (c i : ℕ) → i ≤ c → pos c +ℤ pos i *ℤ negsuc 0 ≡ pos (c - i)
left_within c i h = leftwards c i ∙ simp (le-ltb c i h)

left_beyond : (c i : ℕ) → c < i → pos c +ℤ pos i *ℤ negsuc 0 ≡ negsuc (i - suc c)
left_beyond c i h = leftwards c i ∙ simp (lt-ltb c i h)

left_ends : (w h c r i : ℕ) → c < w → r < h
    → in_picture w h (pos c +ℤ pos i *ℤ negsuc 0) (pos (r + i * 1)) ≡ ltb i (min (c + 1) (h - r))
left_ends w h c r i hc hr =
    ⊎_elim
    (λ e. let o = ltb-true c i e in rw (left_beyond c i o) (sym (le-ltb i (min (c + 1) (h - r)) (omega arith))))
    (λ e. let o = ltb-false c i e in rw (left_within c i o) (both_below _ w _ h i _ (omega arith) (omega arith)))
    (bool_cases (ltb c i))

pub reach : (d : RasterDirection4) (w h c r i : ℕ) → c < w → r < h → Reach d w h c r i
reach Horizontal w h c r i hc hr =
    record {
      ends = both_below _ w _ h i _ (omega arith) (omega arith);
      col = λ hi. ap pos (omega arith);
      row = ap pos (omega arith);
    }
reach DownRight w h c r i hc hr =
    record {
      ends = both_below _ w _ h i _ (omega arith) (omega arith);
      col = λ hi. ap pos (omega arith);
      row = ap pos (omega arith);
    }
reach Vertical w h c r i hc hr =
    record {
      ends = both_below _ w _ h i _ (omega arith) (omega arith);
      col = λ hi. ap pos (omega arith);
      row = ap pos (omega arith);
    }
reach DownLeft w h c r i hc hr =
    record {
      ends = left_ends w h c r i hc hr;
      col = λ hi. left_within c i (omega arith);
      row = ap pos (omega arith);
    }

-- ---- the bytes of a line's places

byte_from : (d : RasterDirection4) (w h stride c r i : ℕ) → 1 ≤ stride → i < length_from d w h c r
    → byte_of stride (col_from d c i) (row_from d r i) ≡ byte_of stride c r + i * place_step d stride
byte_from Horizontal w h stride c r i hs hi = omega arith
byte_from DownRight w h stride c r i hs hi = omega (arith, add-mul r i stride, mul-add i stride 1)
byte_from Vertical w h stride c r i hs hi = omega (arith, add-mul r i stride)
byte_from DownLeft w h stride c r i hs hi =
    omega (arith, add-mul r i stride, mul-add i (stride - 1) 1, ap (λ (n : ℕ). i * n) (sub-add_cancel hs))

pub byte_at : (d : RasterDirection4) (w h stride k i : ℕ) → 1 ≤ stride → i < line_length d w h k
    → byte_of stride (col_at d w k i) (row_at d w k i)
    ≡ byte_of stride (start_col d w k) (start_row d w k) + i * place_step d stride
byte_at d w h stride k i = byte_from d w h stride (start_col d w k) (start_row d w k) i
