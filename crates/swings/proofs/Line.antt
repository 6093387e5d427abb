-- Where a line's samples stand: they are the pixels at its places and the last sample of each line lies in the bytes. How many steps are left from one sample to another.
use Prim.Native.Nat.{ℕ, suc, ◌+◌, ◌-◌, ◌*◌, ◌≤◌, ◌<◌}
use mathlib.Core.Path.{◌≡◌, sym, ◌∙◌, ap, subst}
use native.Mathlib.Nat.{mul-le-mul_right, mul_comm}
use native.Mathlib.Omega.{arith}
use lib.ListN.{length, get_or}
use Rattle.image.specs.Call.{Gray8}
use Rattle.raster.specs.declared.lines.ScanLine.{ScanLine}
use Rattle.raster.specs.Lines.{line_count, line_length, start_col, start_row, row_at, scan_line_at}
use Rattle.raster.proofs.Place.{LineIn, line_in, one_line, byte_at}
use Rattle.swings.specs.declared.scan.ScanPlan.{ScanPlan}
use Rattle.swings.specs.Line.{sample, lines_on, ValidPlan}

pub left_more : (i b : ℕ) → i < b → b - i ≡ suc (b - (i + 1))
left_more i b h = omega arith

pub left_none : (i b : ℕ) → b ≤ i → b - i ≡ 0
left_none i b h = omega arith

-- where line k stands in the bytes
module _ (src : Gray8) (c : ScanPlan) (valid : ValidPlan src c) (k : ℕ) (below : k < c.count) where
  abbrev start : ℕ
  start = start_row c.direction src.width k * src.stride + start_col c.direction src.width k

  pub line_below : k < line_count c.direction src.width src.height
  line_below = omega (arith, valid.count_is (omega arith))

  pub line_is : LineIn c.direction src.width src.height k
  line_is = line_in c.direction src.width src.height k valid.laid.width_pos valid.laid.height_pos line_below

  -- its samples are the pixels at its places
  pub sample_is : (i : ℕ) → i < line_length c.direction src.width src.height k
      → sample src.bytes start c.step i ≡ (lines_on src c).line k i
  sample_is i h =
      let l = valid.laid in
      let some : 1 ≤ src.stride = omega (arith, l.width_pos, l.stride_least) in
      ap (λ (j : ℕ). get_or src.bytes j 0)
      (ap (λ (s : ℕ). start + i * s) (valid.step_is (omega arith))
      ∙ sym (byte_at c.direction src.width src.height src.stride k i some h))

  -- its last sample lies in the bytes
  pub line_within : start + (line_length c.direction src.width src.height k - 1) * c.step < length src.bytes
  line_within =
      let l = valid.laid in
      let n = line_length c.direction src.width src.height k in
      let some : 1 ≤ src.stride = omega (arith, l.width_pos, l.stride_least) in
      let last : n - 1 < n = omega (arith, line_is.some) in
      let at = (one_line c.direction src.width src.height l.width_pos).of_place k (n - 1) line_below last in
      let e = byte_at c.direction src.width src.height src.stride k (n - 1) some last in
      let r = row_at c.direction src.width k (n - 1) in
      let m : r * src.stride ≤ (src.height - 1) * src.stride = mul-le-mul_right src.stride (omega (arith, at.row)) in
      let f : (src.height - 1) * src.stride ≡ src.stride * (src.height - 1) = mul_comm (src.height - 1) src.stride in
      subst (λ (s : ℕ). start + (n - 1) * s < length src.bytes) (sym (valid.step_is (omega arith)))
      (rw (← e) (omega (arith, at.col, l.len_least)))

  -- .. and so does its first
  pub line_starts : (l : ScanLine) → l ≡ scan_line_at c.direction src.width src.height k
      → l.row * src.stride + l.col < length src.bytes
  line_starts l e = rw e (omega (arith, line_within))
