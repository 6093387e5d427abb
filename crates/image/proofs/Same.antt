-- Sources that show the same picture: they are refused alike (`layout_same`, `pair_same`), their pixels and rows are
-- the same (`pixel_of_same`, `row_of_same`), and two calls on them that write pixels end alike, whatever the old
-- destinations and scratch hold (`ends_alike`, and `ends_alike_at` for a picture of another size); calls that write no
-- picture give the same answer (`answers_alike`).
use Prim.Native.Nat.{ℕ, ◌*◌, ◌<◌}
use mathlib.Core.Bool.{Bool, true, false, cond, ◌&&◌, and-eq-true_iff}
use mathlib.Core.List.{List, []}
use mathlib.Core.Path.{◌≡◌, refl, sym, ap, ◌∙◌}
use borrow.Author.Tests.{ltb-true}
use lib.Dec.{ltb}
use lib.ListN.{length, take, drop}
use lib.Seq.{ext_get_or}
use Rattle.numbers.specs.Written.{Painted}
use Rattle.numbers.proofs.List.{get_d_part, length_part}
use Rattle.numbers.proofs.Written.{painted_get}
use Rattle.image.specs.Call.{Gray8, Decision, accepts, Outcome}
use Rattle.image.specs.Refusal.{layout_refusal, pair_refusal, Laid}
use Rattle.image.specs.Picture.{pixel_of, row_of}
use Rattle.std.specs.Prelude.{Some, None}
use Rattle.image.specs.Same.{SamePicture, SameEnd}
use Rattle.image.proofs.Accepted.{accepted, row_within, place_within}

cond_agree : {A : Type 0} (t : Bool) {x y : A} (z : A) → (t ≡ true → x ≡ y) → cond t x z ≡ cond t y z
cond_agree true z e = e refl
cond_agree false z e = refl

module _ {a b : Gray8} (same : SamePicture a b) where
  pub layout_same : layout_refusal (length a.bytes) a.width a.height a.stride
      ≡ layout_refusal (length b.bytes) b.width b.height b.stride
  layout_same = accepted same.laid ∙ sym (accepted same.laid')

  -- with any destination
  pub pair_same : (dst_len dst_width dst_height dst_stride : ℕ)
      → pair_refusal (length a.bytes) a.width a.height a.stride dst_len dst_width dst_height dst_stride
      ≡ pair_refusal (length b.bytes) b.width b.height b.stride dst_len dst_width dst_height dst_stride
  unfolding pair_refusal
  pair_same dst_len dst_width dst_height dst_stride =
      rw (accepted same.laid, accepted same.laid', same.same_width, same.same_height)

  -- every pixel and row that a caller asks for, in the picture or outside it
  pub pixel_of_same : (c r : ℕ) → pixel_of a.bytes a.width a.height a.stride c r
      ≡ pixel_of b.bytes b.width b.height b.stride c r
  unfolding pixel_of
  pixel_of_same c r =
      rw (accepted same.laid, accepted same.laid', ← same.same_width, ← same.same_height)
      (cond_agree (ltb c a.width && ltb r a.height) None λ t.
      let inside = (and-eq-true_iff (ltb c a.width) (ltb r a.height)).0 t in
      ap Some (same.same_pixels c r (ltb-true c a.width inside.0) (ltb-true r a.height inside.1)))

  pub row_of_same : (row : ℕ) → row_of a.bytes a.width a.height a.stride row
      ≡ row_of b.bytes b.width b.height b.stride row
  unfolding row_of
  row_of_same row =
      rw (accepted same.laid, accepted same.laid', ← same.same_width, ← same.same_height)
      (cond_agree (ltb row a.height) [] λ t. pixels (ltb-true row a.height t))
    where
      pixels : row < a.height
          → take a.width (drop (row * a.stride) a.bytes) ≡ take a.width (drop (row * b.stride) b.bytes)
      pixels h =
          let w = a.width in
          let n = length_part (row * a.stride) w a.bytes (row_within same.laid row h) in
          let k = row_within same.laid' row (rw (← same.same_height) h) in
          let m = length_part (row * b.stride) w b.bytes (rw same.same_width k) in
          ext_get_or 0 (take w (drop (row * a.stride) a.bytes)) (take w (drop (row * b.stride) b.bytes))
          (n ∙ sym m) λ c below.
          let hc : c < w = rw n at below in
          get_d_part (row * a.stride) w a.bytes c 0 hc
          ∙ same.same_pixels c row hc h
          ∙ sym (get_d_part (row * b.stride) w b.bytes c 0 hc)

-- the answer is that of the decision
pub answers_alike : {R A D S : Type 0} {d d' : Decision R} {answers : Decision R → A}
    {writes writes' : R → D → D → Type 0} {old new old' new' : D} {scratch scratch₁ scratch' scratch₁' : S}
    {answer answer' : A} → d ≡ d' → Outcome d answers writes old new scratch scratch₁ answer
    → Outcome d' answers writes' old' new' scratch' scratch₁' answer' → answer ≡ answer'
answers_alike {answers = answers} e o o' = o.answered ∙ ap answers e ∙ sym o'.answered

-- f is what the one call paints and g what the other does; where they accept, the destination is laid at the size that
-- is painted
module _ {R A B S : Type 0} {d d' : Decision R} {answers : Decision R → A} {z : B}
    (f g : R → ℕ → ℕ → B) {s s' : ℕ} {old new old' new' : List B} {scratch scratch₁ scratch' scratch₁' : S}
    {answer answer' : A} where
  pub ends_alike_at : (w h : ℕ) {w' h' : ℕ} → w ≡ w' → h ≡ h' → d ≡ d' → s ≡ s' → length old ≡ length old'
      → ((found : R) → d ≡ accepts found → Laid (length old) w h s)
      → ((found : R) → d ≡ accepts found → (c r : ℕ) → c < w → r < h → f found c r ≡ g found c r)
      → Outcome d answers (λ found. Painted z (f found) w h s) old new scratch scratch₁ answer
      → Outcome d' answers (λ found. Painted z (g found) w' h' s') old' new' scratch' scratch₁' answer'
      → SameEnd d z w h s new new' answer answer'
  ends_alike_at w h ew eh e es el laid agree o o' =
      record {
        same_answer = answers_alike e o o';
        same_pixels = λ found is c r hc hr.
            let l = laid found is in
            let P : Painted z (g found) w h s old' new' = rw (ew, eh, es) (o'.written found (sym e ∙ is)) in
            painted_get (f found) w h s (o.written found is) c r hc hr l.stride_least (place_within l c r hc hr)
            ∙ agree found is c r hc hr
            ∙ sym (painted_get (g found) w h s P c r hc hr l.stride_least
            (rw (← el) (place_within l c r hc hr)));
      }

  -- a picture of the source's size
  pub ends_alike : {a b : Gray8} → SamePicture a b → d ≡ d' → s ≡ s' → length old ≡ length old'
      → ((found : R) → d ≡ accepts found → Laid (length old) a.width a.height s)
      → ((found : R) → d ≡ accepts found → (c r : ℕ) → c < a.width → r < a.height → f found c r ≡ g found c r)
      → Outcome d answers (λ found. Painted z (f found) a.width a.height s) old new scratch scratch₁ answer
      → Outcome d' answers (λ found. Painted z (g found) b.width b.height s') old' new' scratch' scratch₁' answer'
      → SameEnd d z a.width a.height s new new' answer answer'
  ends_alike {a} same = ends_alike_at a.width a.height same.same_width same.same_height
