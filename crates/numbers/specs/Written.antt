-- "Written, the rest unchanged": what a list holds after a function has written some of its places. Pointwise, over any
-- type of element; a test on places says which are written. `z` is only the default of `get_or`.
use Rattle.std.specs.Prelude.{◌≡◌, Bool, true, false, ◌&&◌, List, ℕ, ◌+◌, ◌-◌, ◌/◌, ◌%◌, ◌<◌, leb, ltb, eqb, length, get_or}

-- new is old with g j at each place j where hit j
pub record Written {A : Type 0} (z : A) (hit : ℕ → Bool) (g : ℕ → A) (old new : List A) : Type 0 where
  pub same_length : length new ≡ length old
  pub hits : (j : ℕ) → j < length old → hit j ≡ true → get_or new j z ≡ g j
  pub rest : (j : ℕ) → j < length old → hit j ≡ false → get_or new j z ≡ get_or old j z

-- ---- tests on places

-- the first n places
unfoldable pub front : ℕ → ℕ → Bool
front n j = ltb j n

-- n places from a on
unfoldable pub part : ℕ → ℕ → ℕ → Bool
part a n j = leb a j && ltb j (a + n)

-- n places from a on, every s-th: a, a + s, a + 2 s, .. (for s = 0 and n ≥ 1 the place a alone: x % 0 is x, x / 0 is 0)
unfoldable pub comb : ℕ → ℕ → ℕ → ℕ → Bool
comb a s n j = leb a j && eqb ((j - a) % s) 0 && ltb ((j - a) / s) n

-- the pixels of a picture, w by h with stride s: pixel (c, r) is byte r × stride + c (document 01, "Views and lines")
unfoldable pub pixels : ℕ → ℕ → ℕ → ℕ → Bool
pixels w h s j = ltb (j % s) w && ltb (j / s) h

-- every pixel of a picture, w by h with stride s, is f of its column and its row; bytes between rows and after the last
-- row never change (document 01, "Views and lines")
abbrev pub Painted : {A : Type 0} → A → (ℕ → ℕ → A) → ℕ → ℕ → ℕ → List A → List A → Type 0
Painted z f w h s old new = Written z (pixels w h s) (λ j. f (j % s) (j / s)) old new
