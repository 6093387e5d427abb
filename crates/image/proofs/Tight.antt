-- A tight picture as a list of bytes: how long it is, that a destination without padding is one once it is painted, and
-- that it reads pixels alone.
use mathlib.Core.Path.{◌≡◌, refl, sym, ap, ap₂, ◌∙◌}
use mathlib.Core.Bool.{true}
use mathlib.Core.List.{List, ◌∷◌}
use Prim.Native.Nat.{ℕ, zero, suc, ◌*◌, ◌/◌, ◌%◌, ◌<◌}
use native.Mathlib.Nat.{not-suc-le-zero, le_of_suc-le-suc, zero-mul, mod-lt, mul_comm, div-lt_iff_lt-mul}
use native.Mathlib.Omega.{arith}
use lib.ListN.{length, get_or}
use lib.Seq.{ext_get_or}
use Rattle.numbers.specs.Written.{Painted, pixels, front}
use Rattle.numbers.proofs.Places.{front_iff, pixels_iff}
use Rattle.numbers.proofs.Test.{bool_ext}
use Rattle.image.specs.Picture.{tabulate, pixels_of}

-- ---- f 0, f 1, .. , n of them

length_tabulate : (f : ℕ → ℕ) (n : ℕ) → length (tabulate f n) ≡ n
unfolding tabulate
length_tabulate f zero = refl
length_tabulate f (suc n) = ap suc (length_tabulate (λ i. f (suc i)) n)

get_d_tabulate : (f : ℕ → ℕ) (n i : ℕ) → i < n → get_or (tabulate f n) i 0 ≡ f i
unfolding tabulate
get_d_tabulate f zero i h = absurd (not-suc-le-zero h)
get_d_tabulate f (suc n) zero h = refl
get_d_tabulate f (suc n) (suc i) h = get_d_tabulate (λ j. f (suc j)) n i (le_of_suc-le-suc h)

-- only places below n are read
tabulate_same : (f g : ℕ → ℕ) (n : ℕ) → ((i : ℕ) → i < n → f i ≡ g i) → tabulate f n ≡ tabulate g n
unfolding tabulate
tabulate_same f g zero e = refl
tabulate_same f g (suc n) e =
    ap₂ ◌∷◌ (e 0 (omega arith)) (tabulate_same (λ i. f (suc i)) (λ i. g (suc i)) n (λ i h. e (suc i) (omega arith)))

-- ---- pixels

pub length_pixels : (w h : ℕ) (px : ℕ → ℕ → ℕ) → length (pixels_of w h px) ≡ w * h
length_pixels w h px = length_tabulate (λ i. px (i % w) (i / w)) (w * h)

pub pixels_same : (w h : ℕ) (p q : ℕ → ℕ → ℕ) → 0 < w → ((c y : ℕ) → c < w → y < h → p c y ≡ q c y)
    → pixels_of w h p ≡ pixels_of w h q
pixels_same w h p q some e =
    tabulate_same (λ i. p (i % w) (i / w)) (λ i. q (i % w) (i / w)) (w * h) λ i below.
    e (i % w) (i / w) (mod-lt i some) ((div-lt_iff_lt-mul some).1 (rw (mul_comm w h) at below))

-- without padding, a destination's pixels are its first w × h places
pixels_tight : (w h j : ℕ) → 0 < w → pixels w h w j ≡ front (w * h) j
pixels_tight w h j p =
    bool_ext (pixels w h w j) (front (w * h) j)
    (λ e. (front_iff (w * h) j).1 (rw (mul_comm w h) ((div-lt_iff_lt-mul p).0 ((pixels_iff w h w j).0 e).1)))
    (λ e. (pixels_iff w h w j).1 (mod-lt j p, (div-lt_iff_lt-mul p).1 (rw (mul_comm w h) at ((front_iff (w * h) j).0 e))))

pub painted_list : (px : ℕ → ℕ → ℕ) (w h : ℕ) {old new : List ℕ} → Painted 0 px w h w old new
    → length new ≡ w * h → new ≡ pixels_of w h px
painted_list px w h {old} {new} P e =
    ext_get_or 0 new (pixels_of w h px) (e ∙ sym (length_pixels w h px))
    (λ i b.
    let lt : i < w * h = rw e at b in
    let hit : pixels w h w i ≡ true = pixels_tight w h i (some w lt) ∙ (front_iff (w * h) i).1 lt in
    P.hits i (rw P.same_length at b) hit ∙ sym (get_d_tabulate (λ i. px (i % w) (i / w)) (w * h) i lt))
  where
    some : (w : ℕ) {i : ℕ} → i < w * h → 0 < w
    some zero lt = absurd (not-suc-le-zero (rw zero-mul at lt))
    some (suc w) lt = omega arith
