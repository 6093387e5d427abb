-- Document 01, "Views and lines": pixels and rows of a picture that lies in a list of bytes.
use Rattle.std.specs.Prelude.{ℕ, zero, suc, ◌+◌, ◌*◌, ◌/◌, ◌%◌, cond, ◌&&◌, List, [], ◌∷◌, eqb, ltb, length, get_or, take, drop}
use Rattle.image.specs.Refusal.{layout_refusal}
use Rattle.std.specs.Prelude.{Option, None, Some}

-- Pixel (c, r) is byte r × stride + c.
abbrev pub pixel : List ℕ → ℕ → ℕ → ℕ → ℕ
pixel xs stride c r = get_or xs (r * stride + c) 0

-- Pixel (c, r) of an accepted picture; none where the layout is refused, and at a place outside the picture.
unfoldable pub pixel_of : List ℕ → ℕ → ℕ → ℕ → ℕ → ℕ → Option ℕ
pixel_of xs width height stride c r =
    cond (eqb (layout_refusal (length xs) width height stride) 0 && ltb c width && ltb r height)
    (Some (pixel xs stride c r))
    None

-- The pixels of a row; none where the layout is refused or there is no such row.
unfoldable pub row_of : List ℕ → ℕ → ℕ → ℕ → ℕ → List ℕ
row_of xs width height stride row =
    cond (eqb (layout_refusal (length xs) width height stride) 0 && ltb row height)
    (take width (drop (row * stride) xs))
    []

-- f 0, f 1, .. , n of them
unfoldable pub tabulate : (ℕ → ℕ) → ℕ → List ℕ
tabulate f zero = []
tabulate f (suc n) = f 0 ∷ tabulate (λ i. f (suc i)) n

-- A tight picture's bytes: pixel (c, r) is byte r × width + c.
abbrev pub pixels_of : ℕ → ℕ → (ℕ → ℕ → ℕ) → List ℕ
pixels_of width height px = tabulate (λ i. px (i % width) (i / width)) (width * height)
