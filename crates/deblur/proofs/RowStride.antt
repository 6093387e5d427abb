-- A picture's stride may be taken as its width where it has one row (`row_stride`): then every step is a machine number
-- (`walked`), the pixels are the same (`pixel_same`), so are the estimates (`estimate_same`), and a destination that is
-- painted with the one is painted with the other (`painted_stride`).
use mathlib.Core.Path.{◌≡◌, sym, ap, ◌∙◌}
use mathlib.Core.Bool.{true}
use mathlib.Core.List.{List}
use mathlib.Core.Logic.{◌↔◌}
use Prim.Native.Nat.{ℕ, ◌+◌, ◌-◌, ◌*◌, ◌/◌, ◌%◌, ◌^◌, ◌≤◌, ◌<◌}
use native.Mathlib.Nat.{le_refl, mul-add, mul-one, mul-zero, zero-mul, mul_comm, div-add-mod'}
use native.Mathlib.Omega.{arith}
use borrow.Author.Tests.{eqb-true, eqb-false, eq-eqb, ne_eqb}
use lib.Dec.{eqb}
use lib.IntN.{pos}
use lib.ListN.{get_or}
use Rattle.numbers.specs.Written.{Painted, pixels}
use Rattle.numbers.proofs.Nat.{div_mod_unique, le_mul_of_pos_left}
use Rattle.numbers.proofs.Places.{pixels_iff}
use Rattle.numbers.proofs.Test.{by_test, bool_ext}
use Rattle.numbers.proofs.Written.{written_same}
use Rattle.image.specs.Picture.{pixel}
use Rattle.image.specs.Refusal.{Laid}
use Rattle.raster.specs.Lines.{line_length, line_of, place_of}
use Rattle.raster.specs.declared.border.LineBorderMode.{LineBorderMode}
use Rattle.raster.specs.declared.direction.RasterDirection4.{RasterDirection4}
use Rattle.raster.proofs.Place.{one_line}
use Rattle.line.proofs.LineWindow.{border_of_line, after_same}
use Rattle.deblur.specs.Lines.{row_stride, WalkAsked}
use Rattle.deblur.specs.Picture.{samples, estimate}
use Rattle.deblur.proofs.PictureLaws.{estimate_is, estimate_on_holds}

module _ (w h s : ℕ) where
  pub row_stride_one : h ≡ 1 → row_stride w h s ≡ w
  row_stride_one e = simp (eq-eqb h 1 e)

  pub row_stride_more : (h ≡ 1 → ⊥) → row_stride w h s ≡ s
  row_stride_more n = simp (ne_eqb h 1 n)

pub walked : {len w h s : ℕ} → Laid len w h s → len < 2 ^ 63 → WalkAsked len w h (row_stride w h s)
walked {len} {w} {h} {s} l few =
    let ph = l.height_pos in
    let n = l.len_least in
    let mw = l.width_most in
    let wide = l.stride_least in
    by_test (eqb h 1)
    (λ t.
    let e : h - 1 ≡ 0 = let o = eqb-true h 1 t in omega arith in
    let f : w * (h - 1) ≡ 0 = rw e (mul-zero w) in
    rw (row_stride_one w h s (eqb-true h 1 t))
    (record {
      laid = record {
        width_pos = l.width_pos;
        width_most = mw;
        height_pos = ph;
        height_most = l.height_most;
        stride_least = le_refl w;
        len_least = omega arith;
      };
      stride_most = omega arith;
    }))
    (λ t.
    let o = eqb-false h 1 t in
    let m : s ≤ s * (h - 1) = rw (mul_comm s (h - 1)) (le_mul_of_pos_left s (omega arith)) in
    rw (row_stride_more w h s o) (record { laid = l; stride_most = omega arith }))

pub pixel_same : (src : List ℕ) (w h s c r : ℕ) → r < h → pixel src (row_stride w h s) c r ≡ pixel src s c r
pixel_same src w h s c r b =
    by_test (eqb h 1)
    (λ t.
    let o : r ≡ 0 = let e = eqb-true h 1 t in omega arith in
    ap (λ (j : ℕ). get_or src (j + c) 0) {x = r * row_stride w h s} {y = r * s}
    (ap (λ (k : ℕ). k * row_stride w h s) o ∙ zero-mul (row_stride w h s) ∙ sym (zero-mul s)
    ∙ ap (λ (k : ℕ). k * s) (sym o)))
    (λ t. ap (λ (k : ℕ). pixel src k c r) (row_stride_more w h s (eqb-false h 1 t)))

-- pictures that are equal at their pixels have equal estimates there
pub estimate_same : (px px' : ℕ → ℕ → ℕ) (d : RasterDirection4) (w h : ℕ) (border : LineBorderMode) (L q n c r : ℕ)
    → ((x y : ℕ) → x < w → y < h → px x y ≡ px' x y) → c < w → r < h
    → estimate px d w h border L q n c r ≡ estimate px' d w h border L q n c r
estimate_same px px' d w h border L q n c r e hc hr =
    let k = line_of d w c r in
    let p = place_of d w c r in
    let one = one_line d w h (omega arith) in
    let o = one.of_pixel c r hc hr in
    let b = o.place in
    estimate_is px d w h border L q n c r
    ∙ estimate_on_holds px d w h border L q n k p
    ∙ after_same (border_of_line border (line_length d w h k) (omega arith)) (samples px d w k) (samples px' d w k)
    (λ i hi. let a = one.of_place k i o.line hi in ap pos (e _ _ a.col a.row)) q L n p b
    ∙ sym (estimate_on_holds px' d w h border L q n k p)
    ∙ sym (estimate_is px' d w h border L q n c r)

-- ---- one row: a pixel's place is its column

module _ (w s j : ℕ) (some : 0 < w) (wide : w ≤ s) where
  row-pixels : (pixels w 1 s j ≡ true) ↔ (j < w)
  row-pixels = (
    λ t. let b = (pixels_iff w 1 s j).0 t in let d = digits b.1 in omega arith,
    λ t. let u = div_mod_unique {j = j} {s = s} {x = j} 0 (omega (arith, zero-mul s)) (omega arith) in (pixels_iff w 1 s
        j).1 (omega arith),
  )
    where
      digits : j / s < 1 → j % s ≡ j
      digits z =
          let q : j / s ≡ 0 = omega arith in
          let m : j / s * s ≡ 0 = rw q (zero-mul s) in
          omega (arith, div-add-mod' j s)

  row-digits : j < w → (j / s ≡ 0) × (j % s ≡ j)
  row-digits b = div_mod_unique {j = j} {s = s} {x = j} 0 (omega (arith, zero-mul s)) (omega arith)

pub painted_stride : {A : Type 0} {z : A} (f : ℕ → ℕ → A) (w h s : ℕ) {old new : List A} → 0 < w → w ≤ s
    → Painted z f w h (row_stride w h s) old new → Painted z f w h s old new
painted_stride {z = z} f w h s {old} {new} some wide P =
    by_test (eqb h 1)
    (λ t. one (eqb-true h 1 t))
    (λ t. rw (row_stride_more w h s (eqb-false h 1 t)) at P)
  where
    one : h ≡ 1 → Painted z f w h s old new
    one e =
        let Q : Painted z f w 1 w old new = rw (row_stride_one w h s e, e) at P in
        rw e
        (written_same Q
        (λ j _. bool_ext (pixels w 1 s j) (pixels w 1 w j)
        (λ t. (row-pixels w w j some (le_refl w)).1 ((row-pixels w s j some wide).0 t))
        (λ t. (row-pixels w s j some wide).1 ((row-pixels w w j some (le_refl w)).0 t)))
        (λ j _ t.
        let b = (row-pixels w w j some (le_refl w)).0 t in
        let u = row-digits w w j some (le_refl w) b in
        let v = row-digits w s j some wide b in
        rw (u.0, u.1, v.0, v.1)))

-- a destination without padding
pub walked_tight : {len w h s dst_len : ℕ} → Laid len w h s → w * h ≤ dst_len → WalkAsked dst_len w h w
walked_tight {w = w} {h} l room =
    let ph = l.height_pos in
    let mw = l.width_most in
    let e : h ≡ (h - 1) + 1 = omega arith in
    let f : w * h ≡ w * (h - 1) + w * 1 = ap (λ (n : ℕ). w * n) e ∙ mul-add w (h - 1) 1 in
    let o : w * 1 ≡ w = mul-one w in
    record {
      laid = record {
        width_pos = l.width_pos;
        width_most = mw;
        height_pos = ph;
        height_most = l.height_most;
        stride_least = le_refl w;
        len_least = omega arith;
      };
      stride_most = omega arith;
    }
