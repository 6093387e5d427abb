-- Laws of little-endian numbers, over the number of bytes: a number's bound, that bytes and number determine each
-- other, and that std's bytes of a number are these.
use mathlib.Core.Path.{◌≡◌, refl, sym, ap, ap₂, ◌∙◌}
use mathlib.Core.List.{List, [], ◌∷◌, ◌++◌, append_assoc}
use Prim.Native.Nat.{ℕ, zero, suc, ◌+◌, ◌*◌, ◌/◌, ◌%◌, ◌^◌, ◌≤◌, ◌<◌, suc-le-suc}
use native.Mathlib.Nat.{zero-lt-suc, pow-succ', mul_comm, div-div-eq-div-mul}
use native.Mathlib.Omega.{arith}
use borrow.Author.Tests.{ltb-true, ltb-false}
use lib.Dec.{ltb}
use lib.ListN.{length, get_or, get_or-eq_default, take, drop, length-take}
use lib.Seq.{sets, sets-eq, drop-drop}
use Rattle.numbers.proofs.List.{get_d_part, length_part}
use Rattle.numbers.proofs.Test.{by_test}
use Rattle.std.specs.Int.{Width, w16, w32, w64, byte_len, byte_at, bytes_low_first, to_le_bytes, from_le_bytes}
use Rattle.std.proofs.lemmas.Nat.{le_bytes_2, le_bytes_4, le_bytes_8}
use Rattle.record.specs.Bytes.{little_endian, number_at, bytes_of}

-- what holds of every list of bytes
abbrev pub Bytes : List ℕ → Type 0
Bytes xs = (i : ℕ) → i < length xs → get_or xs i 0 < 256

first : (b : ℕ) (bs : List ℕ) → Bytes (b ∷ bs) → b < 256
first b bs h = h 0 (zero-lt-suc (length bs))

rest : (b : ℕ) (bs : List ℕ) → Bytes (b ∷ bs) → Bytes bs
rest b bs h i l = h (suc i) (suc-le-suc l)

pub number_lt : (bs : List ℕ) → Bytes bs → little_endian bs < 256 ^ length bs
unfolding little_endian
number_lt [] h = zero-lt-suc 0
number_lt (b ∷ bs) h = omega (arith, first b bs h, number_lt bs (rest b bs h), pow-succ' 256 (length bs))

pub number_bytes : (n v : ℕ) → v < 256 ^ n → little_endian (bytes_of n v) ≡ v
unfolding little_endian bytes_of
number_bytes zero v h = omega arith
number_bytes (suc n) v h =
    let e : 256 ^ suc n ≡ 256 * 256 ^ n = pow-succ' 256 n in omega (arith, number_bytes n (v / 256) (omega arith))

pub bytes_number : (bs : List ℕ) → Bytes bs → bytes_of (length bs) (little_endian bs) ≡ bs
unfolding little_endian bytes_of
bytes_number [] h = refl
bytes_number (b ∷ bs) h =
    let l : b < 256 = first b bs h in
    let low : (b + 256 * little_endian bs) % 256 ≡ b = omega arith in
    let high : (b + 256 * little_endian bs) / 256 ≡ little_endian bs = omega arith in
    rw (low, high, bytes_number bs (rest b bs h))

-- ---- std's bytes of a number

-- the lowest k bytes of n from byte i on
low-first : (i k n : ℕ) → bytes_low_first i k n ≡ bytes_of k (n / 256 ^ i)
unfolding bytes_of
low-first i zero n = refl
low-first i (suc k) n =
    ap₂ ◌∷◌ (byte i) (low-first (suc i) k n ∙ ap (bytes_of k) next)
  where
    byte : (i : ℕ) → byte_at i n ≡ n / 256 ^ i % 256
    byte zero = omega arith
    byte (suc i) = refl

    next : n / 256 ^ suc i ≡ n / 256 ^ i / 256
    next = rw (pow-succ' 256 i, mul_comm 256 (256 ^ i)) (sym (div-div-eq-div-mul n (256 ^ i) 256))

pub to_le : (w : Width) (n : ℕ) → to_le_bytes w n ≡ bytes_of (byte_len w) n
to_le w n = low-first 0 (byte_len w) n ∙ ap (bytes_of (byte_len w)) (omega arith)

from-le : (w : Width) {n : ℕ} {bs : List ℕ} → n < 256 ^ byte_len w → to_le_bytes w n ≡ bs → n ≡ little_endian bs
from-le w {n} small e = sym (number_bytes (byte_len w) n small) ∙ ap little_endian (sym (to_le w n) ∙ e)

-- what std reads from a part is the number there
module _ (xs : List ℕ) (bytes : (i : ℕ) → get_or xs i 0 < 256) (a : ℕ) where
  part_small : (k i : ℕ) → get_or (take k (drop a xs)) i 0 < 256
  part_small k i =
      by_test (ltb i k) (λ t. rw (get_d_part a k xs i 0 (ltb-true i k t)) (bytes (a + i)))
      (λ t. let l = ltb-false i k t in let m = length-take k (drop a xs) in rw (get_or-eq_default (take k (drop a xs)) 0 {n = i} (omega arith)) (zero-lt-suc 255))

  pub read_2 : {n : ℕ} → a + 2 ≤ length xs → n < 2 ^ 16 → n ≡ from_le_bytes w16 (take 2 (drop a xs)) → n ≡ number_at xs a 2
  read_2 {n} room small e = from-le w16 small (le_bytes_2 (take 2 (drop a xs)) n (length_part a 2 xs room) (part_small 2) e)

  pub read_4 : {n : ℕ} → a + 4 ≤ length xs → n < 2 ^ 32 → n ≡ from_le_bytes w32 (take 4 (drop a xs)) → n ≡ number_at xs a 4
  read_4 {n} room small e = from-le w32 small (le_bytes_4 (take 4 (drop a xs)) n (length_part a 4 xs room) (part_small 4) e)

  pub read_8 : {n : ℕ} → a + 8 ≤ length xs → n < 2 ^ 64 → n ≡ from_le_bytes w64 (take 8 (drop a xs)) → n ≡ number_at xs a 8
  read_8 {n} room small e = from-le w64 small (le_bytes_8 (take 8 (drop a xs)) n (length_part a 8 xs room) (part_small 8) e)

-- bytes that are copied into a part
pub put_part : (xs part : List ℕ) (a n : ℕ) {m : ℕ} {new : List ℕ} → a + n ≤ length xs → m ≡ n → length part ≡ n
    → new ≡ part → take a xs ++ (new ++ drop m (drop a xs)) ≡ sets xs a part
put_part xs part a n room d l e = rw (e, d, ← l, drop-drop (length part) a xs) (sym (append_assoc (take a xs) part _) ∙ sym (sets-eq part xs a (omega arith)))
