-- The bytes of a line's places are the pixels on that line (`line_comb`), each at its place (`comb_place`); so a
-- picture is written line by line: the pixels on the lines below k (`lines_below`), none at first, line k next, and all
-- in the end.
use mathlib.Core.Path.{◌≡◌, sym, ap, ap₂, ◌∙◌, subst}
use mathlib.Core.Bool.{Bool, true, false, ◌&&◌, ◌||◌, and-eq-true_iff}
use mathlib.Core.Logic.{◌↔◌, ◌⊎◌, inl, inr, ⊎_elim}
use Prim.Native.Nat.{ℕ, ◌+◌, ◌-◌, ◌*◌, ◌/◌, ◌%◌, ◌≤◌, ◌<◌}
use native.Mathlib.Nat.{mul-div_cancel, zero-mul, div-add-mod', zero-div}
use native.Mathlib.Omega.{arith}
use borrow.Author.Tests.{ltb-true, ltb-false, lt-ltb, eqb-true, eq-eqb}
use lib.Dec.{ltb, eqb}
use Rattle.numbers.specs.Written.{comb, pixels}
use Rattle.numbers.proofs.Nat.{div_mod_unique, place_lt}
use Rattle.numbers.proofs.Places.{comb_iff, pixels_iff}
use Rattle.numbers.proofs.Test.{by_test, bool_ext, or_ext, false_of_not}
use Rattle.raster.specs.declared.direction.RasterDirection4.{RasterDirection4}
use Rattle.raster.specs.declared.direction.RasterDirection4.TheVariants.{Horizontal, DownRight}
use Rattle.raster.specs.declared.direction.RasterDirection4.TheVariants.{Vertical, DownLeft}
use Rattle.raster.specs.Lines.{line_count, start_col, start_row, line_length, line_of, place_of, col_at, row_at, byte_of}
use Rattle.raster.specs.Lines.{place_step}
use Rattle.raster.proofs.Place.{starts, one_line, byte_at}

-- the byte of line k's first pixel
abbrev pub start_byte : RasterDirection4 → ℕ → ℕ → ℕ → ℕ
start_byte d w stride k = byte_of stride (start_col d w k) (start_row d w k)

-- the pixels on line k
unfoldable pub line_pixels : RasterDirection4 → ℕ → ℕ → ℕ → ℕ → ℕ → Bool
line_pixels d w h stride k j = pixels w h stride j && eqb (line_of d w (j % stride) (j / stride)) k

-- the pixels on the lines below k
unfoldable pub lines_below : RasterDirection4 → ℕ → ℕ → ℕ → ℕ → ℕ → Bool
lines_below d w h stride k j = pixels w h stride j && ltb (line_of d w (j % stride) (j / stride)) k

-- the places of a line have bytes of their own, or there is one place alone: DownLeft with stride 1
pub step_or_one : (d : RasterDirection4) (w h stride k : ℕ) → 1 ≤ w → w ≤ stride
    → (0 < place_step d stride) ⊎ (line_length d w h k ≤ 1)
step_or_one Horizontal w h stride k hw hs = inl (omega arith)
step_or_one DownRight w h stride k hw hs = inl (omega arith)
step_or_one Vertical w h stride k hw hs = inl (omega arith)
step_or_one DownLeft w h stride k hw hs =
    by_test (ltb 1 stride) (λ t. let m = ltb-true 1 stride t in inl (omega arith))
    (λ t. let m = ltb-false 1 stride t in inr (⊎_elim (λ s. omega arith) (λ s. omega arith) (starts DownLeft w k hw)))

-- so the place is read from the byte
pub place_back : (s n i : ℕ) → (0 < s) ⊎ (n ≤ 1) → i < n → i * s / s ≡ i
place_back s n i (inl p) h = mul-div_cancel i p
place_back s n i (inr p) h =
    let e : i ≡ 0 = omega arith in
    let f : i * s ≡ 0 = rw e (zero-mul s) in
    rw (f, zero-div) (sym e)

module _ (d : RasterDirection4) (w h stride : ℕ) where
  -- the line of the pixel that byte j is
  abbrev line_of_byte : ℕ → ℕ
  line_of_byte j = line_of d w (j % stride) (j / stride)

  pub line_pixels_iff : (k j : ℕ)
      → (line_pixels d w h stride k j ≡ true) ↔ ((pixels w h stride j ≡ true) × (line_of_byte j ≡ k))
  unfolding line_pixels
  line_pixels_iff k j =
      let both = and-eq-true_iff (pixels w h stride j) (eqb (line_of_byte j) k) in (
        λ e. let b = both.0 e in (b.0, eqb-true (line_of_byte j) k b.1),
        λ b. both.1
            (b.0, eq-eqb (line_of_byte j) k b.1),
      )

  pub lines_iff : (k j : ℕ)
      → (lines_below d w h stride k j ≡ true) ↔ ((pixels w h stride j ≡ true) × (line_of_byte j < k))
  unfolding lines_below
  lines_iff k j =
      let both = and-eq-true_iff (pixels w h stride j) (ltb (line_of_byte j) k) in (
        λ e. let b = both.0 e in (b.0, ltb-true (line_of_byte j) k b.1),
        λ b. both.1
            (b.0, lt-ltb (line_of_byte j) k b.1),
      )

  -- no line
  pub lines_none : (j : ℕ) → lines_below d w h stride 0 j ≡ false
  lines_none j = false_of_not (lines_below d w h stride 0 j) λ e. let b = ((lines_iff 0 j).0 e).1 in omega arith

  module _ (some : 1 ≤ w) (wide : w ≤ stride) where
    -- all lines
    pub lines_whole : (j : ℕ) → lines_below d w h stride (line_count d w h) j ≡ pixels w h stride j
    lines_whole j =
        let iff = lines_iff (line_count d w h) j in
        bool_ext (lines_below d w h stride (line_count d w h) j) (pixels w h stride j) (λ e. (iff.0 e).0)
        (λ e.
        let b = (pixels_iff w h stride j).0 e in
        iff.1 (e, ((one_line d w h some).of_pixel (j % stride) (j / stride) b.0 b.1).line))

    module _ (k : ℕ) (below : k < line_count d w h) where
      -- place i of line k is a byte of the picture
      pub line_byte_lt : (i : ℕ) → i < line_length d w h k
          → start_byte d w stride k + i * place_step d stride < (h - 1) * stride + w
      line_byte_lt i b =
          let a = (one_line d w h some).of_place k i below b in
          rw (← byte_at d w h stride k i (omega arith) b) (place_lt stride a.col a.row)

      -- the byte of place i, by its column and its row
      byte-digits : (i j : ℕ) → i < line_length d w h k → j ≡ start_byte d w stride k + i * place_step d stride
          → (j / stride ≡ row_at d w k i) × (j % stride ≡ col_at d w k i)
      byte-digits i j b e =
          let a = (one_line d w h some).of_place k i below b in
          let l = a.col in
          div_mod_unique {j = j} {s = stride} {x = col_at d w k i} (row_at d w k i)
          (e ∙ sym (byte_at d w h stride k i (omega arith) b)) (omega arith)

      -- the bytes of its places
      abbrev places : ℕ → Bool
      places = comb (start_byte d w stride k) (place_step d stride) (line_length d w h k)

      -- .. are the pixels on it
      pub line_comb : (j : ℕ) → places j ≡ line_pixels d w h stride k j
      line_comb j =
          bool_ext (places j) (line_pixels d w h stride k j)
          (λ e.
          let b = (comb_iff (start_byte d w stride k) (place_step d stride) (line_length d w h k) j).0 e in
          let a = (one_line d w h some).of_place k b.0 below b.1 in
          let c = byte-digits b.0 j b.1 b.2 in
          (line_pixels_iff k j).1
          ((pixels_iff w h stride j).1 (rw c.1 a.col, rw c.0 a.row), rw (c.1, c.0) a.line))
          (λ e.
          let b = (line_pixels_iff k j).0 e in
          let p = (pixels_iff w h stride j).0 b.0 in
          let o = (one_line d w h some).of_pixel (j % stride) (j / stride) p.0 p.1 in
          let i = place_of d w (j % stride) (j / stride) in
          let q : i < line_length d w h k = subst (λ (n : ℕ). i < line_length d w h n) b.1 o.place in
          let c : col_at d w k i ≡ j % stride = subst (λ (n : ℕ). col_at d w n i ≡ j % stride) b.1 o.col in
          let r : row_at d w k i ≡ j / stride = subst (λ (n : ℕ). row_at d w n i ≡ j / stride) b.1 o.row in
          (comb_iff (start_byte d w stride k) (place_step d stride) (line_length d w h k) j).1
          (i, q, sym (ap₂ (byte_of stride) c r ∙ div-add-mod' j stride) ∙ byte_at d w h stride k i (omega arith) q))

      -- one line more
      pub lines_next : (j : ℕ) → lines_below d w h stride (k + 1) j ≡ (lines_below d w h stride k j || places j)
      lines_next j =
          let l = line_of_byte j in
          or_ext (lines_below d w h stride (k + 1) j) (lines_below d w h stride k j) (places j)
          (λ e.
          let b = (lines_iff (k + 1) j).0 e in
          let m = b.1 in
          by_test (ltb l k) (λ t. inl ((lines_iff k j).1 (b.0, ltb-true l k t)))
          (λ t. let o = ltb-false l k t in inr (line_comb j ∙ (line_pixels_iff k j).1 (b.0, omega arith))))
          (λ e. let b = (lines_iff k j).0 e in let m = b.1 in (lines_iff (k + 1) j).1 (b.0, omega arith))
          (λ e.
          let b = (line_pixels_iff k j).0 (sym (line_comb j) ∙ e) in
          let m = b.1 in
          (lines_iff (k + 1) j).1 (b.0, omega arith))

      -- the place of a pixel on the line
      pub comb_place : (j : ℕ) → comb (start_byte d w stride k) (place_step d stride) (line_length d w h k) j ≡ true
          → (j - start_byte d w stride k) / place_step d stride ≡ place_of d w (j % stride) (j / stride)
      comb_place j e =
          let b = (comb_iff (start_byte d w stride k) (place_step d stride) (line_length d w h k) j).0 e in
          let c = byte-digits b.0 j b.1 b.2 in
          let q : j - start_byte d w stride k ≡ b.0 * place_step d stride = let f = b.2 in omega arith in
          let r = ((one_line d w h some).of_place k b.0 below b.1).place in
          ap (λ (n : ℕ). n / place_step d stride) q
          ∙ place_back (place_step d stride) (line_length d w h k) b.0 (step_or_one d w h stride k some wide) b.1
          ∙ sym (ap₂ (place_of d w) c.1 c.0 ∙ r)
