-- The reader accepts exactly the files of the form that hold a picture (`read_iff`); so a file holds at most one
-- (`holds_one`).
use Prim.Native.Nat.{ℕ, ◌-◌, ◌*◌}
use native.Mathlib.Omega.{arith}
use mathlib.Core.List.{List}
use mathlib.Core.Logic.{◌↔◌}
use mathlib.Core.Path.{◌≡◌, refl, sym, ap, ◌∙◌}
use borrow.Author.Tests.{eqb-true}
use lib.Dec.{eqb}
use lib.ListN.{length, length-append}
use Rattle.image.specs.Call.{accepts}
use Rattle.image.specs.Refusal.{sides_refusal}
use Rattle.image.proofs.Chain.{first_zero, cond_holds, cond_left}
use Rattle.image.proofs.Accepted.{sides_0, sides_some, sides_few}
use Rattle.pgm.specs.Form.{Header, header_bytes, Formed, Holds}
use Rattle.pgm.specs.Read.{picture_refusal, picture_in, read_decision}
use Rattle.pgm.specs.declared.PgmPicture.{PgmPicture}
use Rattle.pgm.proofs.Headers.{picture_given, decision_header}
use Rattle.pgm.proofs.Parsed.{header_found}
use Rattle.pgm.proofs.Printed.{as_read, header_read}

-- where the pixels start
start_is : {file : List ℕ} {h : Header} {pixels : List ℕ} → Formed file h pixels
    → length file - length pixels ≡ length (header_bytes h)
start_is {h = h} {pixels} formed =
    let e = ap length formed.bytes ∙ length-append (header_bytes h) pixels in
    omega arith

-- no refusal: maximum and count
not_15_16 : (w h m n : ℕ) → picture_refusal w h m n ≡ 0 → (sides_refusal w h ≡ 0) × ((m ≡ 255) × (n ≡ w * h))
unfolding picture_refusal
not_15_16 w h m n e =
    let a = first_zero (sides_refusal w h) _ e in
    let b = cond_holds (eqb m 255) _ 15 (omega arith) a.1 in
    (a.0, (eqb-true m 255 b.0, eqb-true n (w * h) (cond_left (eqb n (w * h)) 16 (omega arith) b.1)))

picture_ext : (p : PgmPicture) {w h s : ℕ} → p.width ≡ w → p.height ≡ h → p.start ≡ s
    → record { width = w; height = h; start = s } ≡ p
picture_ext p e f g = rw (sym e, sym f, sym g) refl

module _ (file : List ℕ) (p : PgmPicture) where
  pub read_holds : read_decision file ≡ accepts p → Holds file p
  read_holds e =
      let d = decision_header file e in
      let r = d.0 in
      let k = header_found file r d.1.0 in
      let is = d.1.1.1 in
      let width : r.width ≡ p.width = ap (λ (q : PgmPicture). q.width) is in
      let height : r.height ≡ p.height = ap (λ (q : PgmPicture). q.height) is in
      let n = not_15_16 r.width r.height r.maximum (length r.pixels) d.1.1.0 in
      let some = sides_some r.width r.height n.0 in
      let few = sides_few r.width r.height n.0 in
      record {
        header = k.header;
        pixels = r.pixels;
        formed = k.formed;
        width = sym width ∙ k.width;
        height = sym height ∙ k.height;
        start = sym (ap (λ (q : PgmPicture). q.start) is) ∙ start_is k.formed;
        width_least = omega arith;
        width_most = omega arith;
        height_least = omega arith;
        height_most = omega arith;
        maximum = sym k.maximum ∙ n.1.0;
        count = n.1.1 ∙ rw (width, height) refl;
      }

  pub holds_read : Holds file p → read_decision file ≡ accepts p
  unfolding read_decision
  holds_read k =
      let r = as_read k.formed in
      let w = k.width in
      let h = k.height in
      rw (header_read k.formed)
      (picture_given r.width r.height r.maximum (length r.pixels) (picture_in file r)
      (sides_0 _ _ (omega (arith, k.width_least)) (omega (arith, k.height_least)) (omega (arith, k.width_most))
      (omega (arith, k.height_most))) k.maximum (k.count ∙ rw (w, h) refl)
      ∙ ap accepts (picture_ext p w h (k.start ∙ sym (start_is k.formed))))

  pub read_iff : (read_decision file ≡ accepts p) ↔ Holds file p
  read_iff = (read_holds, holds_read)

pub holds_one : (file : List ℕ) (p q : PgmPicture) → Holds file p → Holds file q → p ≡ q
holds_one file p q k l = let e = sym (holds_read file p k) ∙ holds_read file q l in cc
