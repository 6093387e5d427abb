-- Document 01, the views that are kept: a picture in borrowed bytes.
use Rattle.std.specs.Prelude.{ℕ, List, Option, length}
use Rattle.std.specs.Borrow.{Bor, MutBor}
use Rattle.image.specs.Call.{Gray8, gray8}
use Rattle.image.specs.Picture.{pixel_of}
use Rattle.image.specs.Refusal.{Laid}
use Rattle.image.specs.declared.layout.Layout.{Layout}
use Rattle.image.specs.declared.view.Gray8View.{Gray8View}
use Rattle.image.specs.declared.view.Gray8ViewMut.{Gray8ViewMut}

-- the view that holds what it is given
abbrev pub view_of : Bor (List ℕ) → ℕ → ℕ → ℕ → Gray8View
view_of bytes width height stride = record { «data» = bytes; width = width; height = height; stride = stride }

-- the same over bytes that can be written
abbrev pub view_mut_of : MutBor (List ℕ) → ℕ → ℕ → ℕ → Gray8ViewMut
view_mut_of bytes width height stride = record { «data» = bytes; width = width; height = height; stride = stride }

-- how the view's picture lies
abbrev pub layout_of : Gray8View → Layout
layout_of v = record { len = length v.«data».now; width = v.width; height = v.height; stride = v.stride }

abbrev pub layout_of_mut : Gray8ViewMut → Layout
layout_of_mut v = record { len = length v.«data».now; width = v.width; height = v.height; stride = v.stride }

-- The pixel in column x and row y of a view, as of its bytes.
abbrev pub pixel_of_view : Gray8View → ℕ → ℕ → Option ℕ
pixel_of_view v x y = pixel_of v.«data».now v.width v.height v.stride x y

abbrev pub pixel_of_view_mut : Gray8ViewMut → ℕ → ℕ → Option ℕ
pixel_of_view_mut v x y = pixel_of v.«data».now v.width v.height v.stride x y

-- the picture that a view shows, and the one that a view to be written holds
abbrev pub seen : Gray8View → Gray8
seen v = gray8 v.«data».now v.width v.height v.stride

abbrev pub lent : Gray8ViewMut → Gray8
lent v = gray8 v.«data».now v.width v.height v.stride

-- the layout is accepted
abbrev pub LaidView : Gray8View → Type 0
LaidView v = Laid (length v.«data».now) v.width v.height v.stride
