-- Bytes and fields determine each other: `decoded_encoded` of fields that are within their bytes, `encoded_decoded` of
-- 32 bytes.
use mathlib.Core.Path.{◌≡◌, sym}
use mathlib.Core.List.{List, [], ◌∷◌, ◌++◌}
use Prim.Native.Nat.{ℕ, ◌+◌, ◌^◌, ◌≤◌, ◌<◌}
use native.Mathlib.Nat.{le_of_eq}
use native.Mathlib.Omega.{arith}
use lib.Dec.{lit≤}
use lib.ListN.{length, get_or, take, drop}
use lib.Seq.{drop-cons, drop-drop, take-add, take_all}
use Rattle.numbers.proofs.List.{length_part, each_part}
use Rattle.record.specs.Bytes.{number_at, bytes_of}
use Rattle.record.specs.Fields.{decoded, encoded}
use Rattle.record.specs.declared.fields.Fields.{Fields}
use Rattle.record.proofs.LittleEndian.{Bytes, number_lt, number_bytes, bytes_number}

-- the fields of more than a byte are within their bytes
pub record InBytes (f : Fields) : Type 0 where
  pub width : f.head.width < 256 ^ 2
  pub height : f.head.height < 256 ^ 2
  pub blur_length : f.blur_length < 256 ^ 2
  pub iterations : f.iterations < 256 ^ 2
  pub q : f.q < 256 ^ 4
  pub angle : f.angle < 256 ^ 8
  pub estimate : f.estimate < 256 ^ 8

pub decoded_encoded : (f : Fields) → InBytes f → decoded (encoded f) ≡ f
unfolding decoded encoded bytes_of
decoded_encoded f b =
    rw (
      number_bytes 2 f.head.width b.width,
      number_bytes 2 f.head.height b.height,
      number_bytes 2 f.blur_length b.blur_length,
      number_bytes 2 f.iterations b.iterations,
      number_bytes 4 f.q b.q,
      number_bytes 8 f.angle b.angle,
      number_bytes 8 f.estimate b.estimate,
    )

module _ (xs : List ℕ) (l : length xs ≡ 32) (bytes : Bytes xs) where
  room : {e : ℕ} → e ≤ 32 → e ≤ length xs
  room h = omega arith

  part_bytes : (a n : ℕ) → a + n ≤ 32 → Bytes (take n (drop a xs))
  part_bytes a n h i b =
      each_part (λ (x : ℕ). x < 256) 0 xs bytes a n (room h) i (rw (length_part a n xs (room h)) at b)

  number-within : (a n : ℕ) → a + n ≤ 32 → number_at xs a n < 256 ^ n
  number-within a n h = rw (length_part a n xs (room h)) at (number_lt (take n (drop a xs)) (part_bytes a n h))

  -- n bytes from a on are those of their number
  number-part : (a n : ℕ) → a + n ≤ 32 → bytes_of n (number_at xs a n) ≡ take n (drop a xs)
  number-part a n h = rw (length_part a n xs (room h)) at (bytes_number (take n (drop a xs)) (part_bytes a n h))

  pub decoded_in_bytes : InBytes (decoded xs)
  unfolding decoded
  decoded_in_bytes = record {
    width = number-within 0 2 (lit≤ tt);
    height = number-within 2 2 (lit≤ tt);
    blur_length = number-within 8 2 (lit≤ tt);
    iterations = number-within 10 2 (lit≤ tt);
    q = number-within 12 4 (lit≤ tt);
    angle = number-within 16 8 (lit≤ tt);
    estimate = number-within 24 8 (lit≤ tt);
  }

  -- parts that meet
  join : (a n m : ℕ) → take n (drop a xs) ++ take m (drop (a + n) xs) ≡ take (n + m) (drop a xs)
  join a n m = rw (← drop-drop n a xs) (sym (take-add n m (drop a xs)))

  singles : take 4 (drop 4 xs) ≡ get_or xs 4 0 ∷ get_or xs 5 0 ∷ get_or xs 6 0 ∷ get_or xs 7 0 ∷ []
  singles =
      rw (
        drop-cons xs 4 0 (room (lit≤ tt)),
        drop-cons xs 5 0 (room (lit≤ tt)),
        drop-cons xs 6 0 (room (lit≤ tt)),
        drop-cons xs 7 0 (room (lit≤ tt)),
      )

  pub encoded_decoded : encoded (decoded xs) ≡ xs
  unfolding decoded encoded
  encoded_decoded =
      rw (
        number-part 0 2 (lit≤ tt),
        number-part 2 2 (lit≤ tt),
        ← singles,
        number-part 8 2 (lit≤ tt),
        number-part 10 2 (lit≤ tt),
        number-part 12 4 (lit≤ tt),
        number-part 16 8 (lit≤ tt),
        number-part 24 8 (lit≤ tt),
        join 0 2 2,
        join 0 4 4,
        join 8 2 2,
        join 8 4 4,
        join 16 8 8,
        join 0 8 8,
        join 0 16 16,
      )
      (take_all 32 xs (le_of_eq l))
