-- Document 01, "The 32-byte record": little-endian numbers, the lowest byte first.
use Rattle.std.specs.Prelude.{◌≡◌, refl, List, [], ◌∷◌, ℕ, zero, suc, ◌+◌, ◌*◌, ◌/◌, ◌%◌, take, drop}

-- the number that bytes stand for
unfoldable pub little_endian : List ℕ → ℕ
little_endian [] = 0
little_endian (b ∷ bs) = b + 256 * little_endian bs

-- the number in the n bytes from place a on
abbrev pub number_at : List ℕ → ℕ → ℕ → ℕ
number_at xs a n = little_endian (take n (drop a xs))

-- the n lowest bytes of v
unfoldable pub bytes_of : ℕ → ℕ → List ℕ
bytes_of zero v = []
bytes_of (suc n) v = v % 256 ∷ bytes_of n (v / 256)

-- worked: 65,536 in four bytes, both ways
sixty_five_thousand : bytes_of 4 65536 ≡ 0 ∷ 0 ∷ 1 ∷ 0 ∷ []
unfolding bytes_of
sixty_five_thousand = refl

back : number_at (9 ∷ 0 ∷ 0 ∷ 1 ∷ 0 ∷ 9 ∷ []) 1 4 ≡ 65536
unfolding little_endian
back = refl
