-- What a row of a picture is, where its layout is accepted.
use Prim.Native.Nat.{ℕ, ◌*◌, ◌<◌}
use native.Mathlib.Omega.{arith}
use mathlib.Core.List.{List}
use mathlib.Core.Path.{◌≡◌, ◌∙◌, ap}
use lib.ListN.{length, get_or, take, drop, length-drop}
use lib.Seq.{get_or-take, get_or-drop, length-take-le}
use borrow.Author.Tests.{lt-ltb}
use Rattle.image.specs.Refusal.{Laid}
use Rattle.image.specs.Picture.{pixel, row_of}
use Rattle.image.proofs.Accepted.{accepted, row_within}

module _ (xs : List ℕ) (width height stride : ℕ) where
  module _ (l : Laid (length xs) width height stride) where
    module _ (row : ℕ) (h : row < height) where
      pub row_is : row_of xs width height stride row ≡ take width (drop (row * stride) xs)
      unfolding row_of
      row_is = simp (accepted l, lt-ltb row height h)

      pub row_length : length (row_of xs width height stride row) ≡ width
      row_length =
          ap length row_is ∙ length-take-le width (drop (row * stride) xs)
          (simp length-drop (omega (arith, row_within l row h)))

      -- the row's elements are its pixels
      pub row_pixel : (c : ℕ) → c < width → get_or (row_of xs width height stride row) c 0 ≡ pixel xs stride c row
      row_pixel c hc = rw (row_is, get_or-take, get_or-drop)
