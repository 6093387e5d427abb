-- Document 01's case of the binomial unsharp, and a picture of one pixel.
use Prim.Native.Nat.{ℕ}
use mathlib.Core.List.{List, [], ◌∷◌, map}
use mathlib.Core.Path.{◌≡◌, refl}
use Rattle.numbers.specs.Sum.{count}
use Rattle.image.specs.Picture.{pixel}
use Rattle.sharpen.specs.Binomial.{tap_place, binomial_sum, sharper, unsharp}
use Rattle.sharpen.specs.Call.{binomial_refusal}
use Rattle.image.specs.Refusal.{layout_refusal, pair_refusal}

bytes : List ℕ
bytes = 10 ∷ 10 ∷ 40 ∷ 10 ∷ 10 ∷ []

-- the row 10 10 40 10 10 gives 8 2 59 2 8
row : map (λ c. unsharp (pixel bytes 5) 5 1 c 0) (0 ∷ 1 ∷ 2 ∷ 3 ∷ 4 ∷ []) ≡ 8 ∷ 2 ∷ 59 ∷ 2 ∷ 8 ∷ []
unfolding bytes tap_place binomial_sum sharper count
row = refl

-- so does the column
column : map (unsharp (pixel bytes 1) 1 5 0) (0 ∷ 1 ∷ 2 ∷ 3 ∷ 4 ∷ []) ≡ 8 ∷ 2 ∷ 59 ∷ 2 ∷ 8 ∷ []
unfolding bytes tap_place binomial_sum sharper count
column = refl

-- a lone pixel is its own blur
lone : unsharp (λ c r. 255) 1 1 0 0 ≡ 255
unfolding tap_place binomial_sum sharper count
lone = refl

-- 10 comes last, and asks for width × height
short_scratch : binomial_refusal 6 3 2 3 6 3 2 3 5 ≡ 10
unfolding binomial_refusal pair_refusal layout_refusal
short_scratch = refl

enough_scratch : binomial_refusal 6 3 2 3 6 3 2 3 6 ≡ 0
unfolding binomial_refusal pair_refusal layout_refusal
enough_scratch = refl

sizes_first : binomial_refusal 6 3 2 3 6 2 3 2 5 ≡ 6
unfolding binomial_refusal pair_refusal layout_refusal
sizes_first = refl
