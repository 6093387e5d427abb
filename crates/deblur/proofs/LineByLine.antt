-- Laws of the loop over the lines of a direction, over any element of the destination: what a line asks of an accepted
-- picture (`line_asked`, `scatter_asked`), its estimates from its bytes (`line_estimates`), and one line more of the
-- destination (`lines_begun`, `lines_further`, `lines_done`).
use mathlib.Core.Path.{◌≡◌, refl, sym, ◌∙◌}
use mathlib.Core.List.{List}
use Prim.Native.Nat.{ℕ, ◌+◌, ◌-◌, ◌*◌, ◌/◌, ◌%◌, ◌≤◌, ◌<◌}
use native.Mathlib.Nat.{mul_comm, zero-mul}
use native.Mathlib.Omega.{arith}
use lib.IntN.{ℤ}
use lib.ListN.{length}
use Rattle.numbers.specs.Written.{Written, Painted}
use Rattle.numbers.proofs.Written.{written_none, written_same}
use Rattle.image.specs.Refusal.{Laid}
use Rattle.image.specs.Picture.{pixel}
use Rattle.raster.specs.Lines.{Sides, line_count, line_length, scan_line_at, byte_of, place_step}
use Rattle.raster.specs.declared.direction.RasterDirection4.{RasterDirection4}
use Rattle.raster.specs.declared.lines.ScanLine.{ScanLine}
use Rattle.raster.proofs.Place.{line_in}
use Rattle.raster.proofs.Scatter.{start_byte, lines_below, step_or_one, line_byte_lt, lines_none, lines_whole}
use Rattle.line.specs.declared.kernel.LineKernel.{LineKernel}
use Rattle.line.specs.Kernel.{LineAsked, LineRestored, bytes_on, line_at as estimate_at}
use Rattle.line.proofs.LineWindow.{border_of_line, after_same}
use Rattle.deblur.specs.Scatter.{ScatterAsked, Scattered}
use Rattle.deblur.specs.Lines.{kernel_on, kernel_estimate, LinesAsked, ScanLineRestored}
use Rattle.deblur.specs.Picture.{samples}
use Rattle.deblur.specs.Refusal.{scratch_needed}
use Rattle.deblur.proofs.PictureLaws.{samples_byte, estimate_on_holds, lines_step}

module _ {len w h stride : ℕ} (l : Laid len w h stride) where
  pub sides : Sides w h
  sides = record {
    some_columns = l.width_pos;
    some_rows = l.height_pos;
    few_columns = l.width_most;
    few_rows = l.height_most;
  }

  module _ (d : RasterDirection4) (k : ℕ) (below : k < line_count d w h) where
    abbrev start : ℕ
    start = start_byte d w stride k

    abbrev step : ℕ
    step = place_step d stride

    abbrev n : ℕ
    n = line_length d w h k

    -- place i lies in the list
    reached : (i : ℕ) → i < n → start + i * step < len
    reached i b = omega (
      arith,
      line_byte_lt d w h stride l.width_pos l.stride_least k below i b,
      l.len_least,
      mul_comm stride (h - 1),
    )

    pub start_in : start < len
    start_in = omega (arith, reached 0 (line_in d w h k l.width_pos l.height_pos below).some, zero-mul step)

    laid_at : (scratch_len : ℕ) → scratch_needed w h ≤ scratch_len → LineAsked len start step n scratch_len
    laid_at scratch_len room =
        let i = line_in d w h k l.width_pos l.height_pos below in
        let short = i.short in
        let some = i.some in
        let mw = l.width_most in
        let mh = l.height_most in
        record { some = some; short = omega arith; reached = reached (n - 1) (omega arith); room = omega arith }

    module _ (line : ScanLine) (e : line ≡ scan_line_at d w h k) (s : ℕ) (f : s ≡ step) where
      pub line_start : byte_of stride line.col line.row < len
      line_start = rw e start_in

      pub line_asked : (scratch_len : ℕ) → scratch_needed w h ≤ scratch_len
          → LineAsked len (byte_of stride line.col line.row) s line.len scratch_len
      line_asked scratch_len room = rw (e, f) (laid_at scratch_len room)

      pub scatter_asked : (scratch_len : ℕ) → scratch_needed w h ≤ scratch_len
          → ScatterAsked len (byte_of stride line.col line.row) s line.len scratch_len
      scatter_asked scratch_len room =
          rw (e, f) (record {
            laid = laid_at scratch_len room;
            apart = step_or_one d w h stride k l.width_pos
                l.stride_least;
          })

      pub line_estimates : (src : List ℕ) (kernel : LineKernel) (scratch : List ℤ)
          → LineRestored src (byte_of stride line.col line.row) s line.len kernel scratch
          → (p : ℕ) → p < n → estimate_at n scratch p ≡ kernel_on src w h stride d kernel k p
      line_estimates src kernel scratch R p b =
          let some = (line_in d w h k l.width_pos l.height_pos below).some in
          let wide = l.stride_least in
          let px = pixel src stride in
          let R' : LineRestored src start step n kernel scratch = rw (e, f) at R in
          R' p b
          ∙ after_same (border_of_line kernel.border n some) (bytes_on src start step) (samples px d w k)
          (λ i hi. sym (samples_byte src d w h stride k i (omega (arith, l.width_pos)) hi)) kernel.q
          kernel.blur_length kernel.iterations p b
          ∙ sym (estimate_on_holds px d w h kernel.border kernel.blur_length kernel.q kernel.iterations k p)

-- ---- the destination: g of the estimate at the pixels of the lines below k

abbrev pub LinesTo : {A : Type 0} → A → (ℤ → A) → List ℕ → ℕ → ℕ → ℕ → ℕ → RasterDirection4 → LineKernel → ℕ → List A
    → List A → Type 0
LinesTo z g src w h stride dst_stride d kernel k old new =
    Written z (lines_below d w h dst_stride k) (λ j. g
    (kernel_estimate src w h stride d kernel (j % dst_stride) (j / dst_stride))) old new

module _ {A : Type 0} {z : A} (g : ℤ → A) (src : List ℕ) (w h stride dst_stride : ℕ) (d : RasterDirection4)
    (kernel : LineKernel) {old : List A} where
  pub lines_begun : LinesTo z g src w h stride dst_stride d kernel 0 old old
  lines_begun = written_none (λ j _. lines_none d w h dst_stride j)

  module _ {dst_len : ℕ} (l : Laid dst_len w h dst_stride) {k : ℕ} where
    pub lines_further : {mid new : List A} {scratch : List ℤ} {line : ScanLine} (s : ℕ) → s ≡ place_step d dst_stride
        → k < line_count d w h
        → ScanLineRestored src w h stride d k kernel scratch line
        → LinesTo z g src w h stride dst_stride d kernel k old mid
        → Scattered z g line.len scratch (byte_of dst_stride line.col line.row) s mid new
        → LinesTo z g src w h stride dst_stride d kernel (k + 1) old new
    lines_further {mid} {new} {scratch} {line} s f below R W S =
        let S' : Scattered z g (line_length d w h k) scratch (start_byte d w dst_stride k) (place_step d dst_stride) mid new
        = rw (R.line_is, f) at S in
        lines_step (pixel src stride) d w h kernel.border kernel.blur_length kernel.q kernel.iterations g
        (estimate_at (line_length d w h k) scratch) dst_stride k
        l.width_pos l.stride_least below R.estimates W S'

    pub lines_done : {new : List A} → k ≡ line_count d w h → LinesTo z g src w h stride dst_stride d kernel k old new
        → Painted z (λ c r. g (kernel_estimate src w h stride d kernel c r)) w h dst_stride old new
    lines_done e W =
        written_same (rw e at W) (λ j _. sym (lines_whole d w h dst_stride l.width_pos l.stride_least j))
        (λ j _ _. refl)

-- ---- one turn: line k of the lines that a loop counts

-- the line is restored, and s is the step to its next place in the destination
pub record Turn (src : List ℕ) (w h stride dst_len dst_stride : ℕ) (d : RasterDirection4) (kernel : LineKernel) (k s : ℕ)
    (scratch : List ℤ) (line : ScanLine) : Type 0 where
  pub destination : Laid dst_len w h dst_stride
  pub room : scratch_needed w h ≤ length scratch
  pub below : k < line_count d w h
  pub step_is : s ≡ place_step d dst_stride
  pub restored : ScanLineRestored src w h stride d k kernel scratch line

pub turn_restored : {src : List ℕ} {w h stride dst_len dst_stride : ℕ} {d : RasterDirection4} {kernel : LineKernel}
    {scratch_len : ℕ}
    → LinesAsked (length src) w h stride dst_len dst_stride kernel scratch_len → {count k s : ℕ} → count ≡ line_count d w h
    → k < count → s ≡ place_step d dst_stride → {scratch : List ℤ} → length scratch ≡ scratch_len → {line : ScanLine}
    → ScanLineRestored src w h stride d k kernel scratch line
    → Turn src w h stride dst_len dst_stride d kernel k s scratch line
turn_restored asked is below step kept restored =
    record {
      destination = asked.destination.laid;
      room = rw kept asked.source.room;
      below = rw is at below;
      step_is = step;
      restored = restored;
    }

module _ {src : List ℕ} {w h stride dst_len dst_stride : ℕ} {d : RasterDirection4} {kernel : LineKernel} {k s : ℕ}
    {scratch : List ℤ} {line : ScanLine} (t : Turn src w h stride dst_len dst_stride d kernel k s scratch line) where
  -- its first place in the destination
  pub turn_first : byte_of dst_stride line.col line.row < dst_len
  turn_first = line_start t.destination d k t.below line t.restored.line_is s t.step_is

  -- what its scatter asks
  pub turn_scatter : {dst_len' : ℕ} → dst_len' ≡ dst_len
      → ScatterAsked dst_len' (byte_of dst_stride line.col line.row) s line.len (length scratch)
  turn_scatter e =
      rw e (scatter_asked t.destination d k t.below line t.restored.line_is s t.step_is (length scratch)
      t.room)

  -- one line more of the destination
  pub turn_further : {A : Type 0} {z : A} (g : ℤ → A) {old mid new : List A}
      → LinesTo z g src w h stride dst_stride d kernel k old mid
      → Scattered z g line.len scratch (byte_of dst_stride line.col line.row) s mid new
      → LinesTo z g src w h stride dst_stride d kernel (k + 1) old new
  turn_further g =
      lines_further g src w h stride dst_stride d kernel t.destination s t.step_is t.below t.restored
