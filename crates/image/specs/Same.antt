-- Document 01, "Views and lines": "Bytes between rows and behind the last row never change and never influence an
-- answer; nor do old scratch or destination bytes." What two calls then have in common, and how they end.
use Rattle.std.specs.Prelude.{ℕ, ◌+◌, ◌*◌, ◌<◌, List, ◌≡◌, length, get_or}
use Rattle.image.specs.Call.{Gray8, Decision, accepts}
use Rattle.image.specs.Picture.{pixel}
use Rattle.image.specs.Refusal.{Laid}

-- Two sources show the same picture: both layouts are accepted, their sides are the same, and so is every pixel. Their
-- strides and lengths may differ, and so may the bytes between rows and behind the last row.
pub record SamePicture (a b : Gray8) : Type 0 where
  pub laid : Laid (length a.bytes) a.width a.height a.stride
  pub laid' : Laid (length b.bytes) b.width b.height b.stride
  pub same_width : a.width ≡ b.width
  pub same_height : a.height ≡ b.height
  pub same_pixels : (c r : ℕ) → c < a.width → r < a.height
      → pixel a.bytes a.stride c r ≡ pixel b.bytes b.stride c r

-- Two destinations lie alike, whatever bytes they hold.
pub record SameLayout (a b : Gray8) : Type 0 where
  pub same_length : length a.bytes ≡ length b.bytes
  pub same_width : a.width ≡ b.width
  pub same_height : a.height ≡ b.height
  pub same_stride : a.stride ≡ b.stride

-- Two calls that decide the same end alike: they give the same answer and, where they accept, leave the same at every
-- pixel, w by h with stride s. Where they refuse, each destination stays as it was (`Outcome`).
pub record SameEnd {R A B : Type 0} (decision : Decision R) (z : B) (w h s : ℕ) (new new' : List B)
    (answer answer' : A) : Type 0 where
  pub same_answer : answer ≡ answer'
  pub same_pixels : (found : R) → decision ≡ accepts found → (c r : ℕ) → c < w → r < h
      → get_or new (r * s + c) z ≡ get_or new' (r * s + c) z
