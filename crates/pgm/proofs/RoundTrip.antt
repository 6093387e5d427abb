-- "what it writes is read as the same picture" (document 02, K3): the sides are the source's, and the pixels' part its
-- pixels in order (`written_read`, `written_pixels`). Its numbers have no leading zero (`no_leading_zero`).
use Prim.Native.Nat.{ℕ, zero, suc, ◌+◌, ◌-◌, ◌*◌, ◌/◌, ◌%◌, ◌^◌, ◌≤◌, ◌<◌}
use native.Mathlib.Nat.{div-lt_iff_lt-mul, div-add-mod, mul_comm}
use native.Mathlib.Omega.{arith}
use mathlib.Core.Bool.{true}
use mathlib.Core.List.{List, [], ◌∷◌, ◌++◌, append_assoc}
use mathlib.Core.Path.{◌≡◌, refl, sym, ap, ◌∙◌}
use borrow.Author.Tests.{le-leb, ltb-true, ltb-false}
use lib.Dec.{ltb}
use lib.ListN.{length, get_or, take}
use lib.Seq.{append_snoc, drop-append_seam}
use Rattle.numbers.proofs.Test.{by_test}
use Rattle.std.proofs.Common.{Ok}
use Rattle.image.specs.Call.{Gray8, Decision, accepts, refuses, map_found, room_for}
use Rattle.image.specs.Picture.{pixel, pixels_of}
use Rattle.image.specs.Refusal.{Laid}
use Rattle.image.proofs.Call.{accepts_not_refuses, unless_accepts}
use Rattle.image.proofs.Front.{room_accepts, front_is}
use Rattle.image.proofs.Accepted.{laid}
use Rattle.image.proofs.Tight.{length_pixels}
use Rattle.pgm.specs.Form.{is_digit, Each, blank, on_from, value_of, Field, field_bytes, FieldFormed, field_value}
use Rattle.pgm.specs.Form.{Header, header_bytes, Holds}
use Rattle.pgm.specs.Read.{read_decision, part_of, pixels_part}
use Rattle.pgm.specs.Write.{digits, digit_count, decimal, header_lines, pgm_bytes, write_decision}
use Rattle.pgm.specs.Write.{PgmWritten}
use Rattle.pgm.specs.declared.PgmPicture.{PgmPicture}
use Rattle.pgm.proofs.Accepted.{holds_read}
use Rattle.pgm.proofs.Digits.{count_1, count_2, count_3, count_4, digit_small, length_digits}

-- ---- digits as a number

on_append : (n : ℕ) (xs ys : List ℕ) → on_from n (xs ++ ys) ≡ on_from (on_from n xs) ys
unfolding on_from
on_append n [] ys = refl
on_append n (x ∷ xs) ys = on_append (10 * n + (x - 48)) xs ys

value_digits : (k n : ℕ) → n < 10 ^ k → value_of (digits k n) ≡ n
unfolding on_from digits
value_digits zero n h = omega arith
value_digits (suc k) n h =
    let e = value_digits k (n / 10) ((div-lt_iff_lt-mul (omega arith)).1 (omega (arith, mul_comm 10 (10 ^ k)))) in
    on_append 0 (digits k (n / 10)) ((48 + n % 10) ∷ []) ∙ omega (arith, e, div-add-mod n 10)

-- as many digits as a number below 10,000 has hold it
record Sized (n k : ℕ) : Type 0 where
  count : k ≡ digit_count n
  some : 1 ≤ k
  holds : n < 10 ^ k
  first : 0 < n → get_or (digits k n) 0 0 ≡ 48 → ⊥

sized : (n : ℕ) → n < 10000 → (k : ℕ) × Sized n k
unfolding digits
sized n h =
    by_test (ltb n 10)
    (λ t.
    let a = ltb-true n 10 t in
    (1, record { count = count_1 n a; some = omega arith; holds = omega arith; first = λ p e. omega arith }))
    (λ t.
    let a = ltb-false n 10 t in
    by_test (ltb n 100)
    (λ u.
    let b = ltb-true n 100 u in
    (2, record { count = count_2 n a b; some = omega arith; holds = omega arith; first = λ p e. omega arith }))
    (λ u.
    let b = ltb-false n 100 u in
    by_test (ltb n 1000)
    (λ v.
    let c = ltb-true n 1000 v in
    (3, record { count = count_3 n b c; some = omega arith; holds = omega arith; first = λ p e. omega arith }))
    (λ v.
    let c = ltb-false n 1000 v in
    (4, record { count = count_4 n c; some = omega arith; holds = omega arith; first = λ p e. omega arith }))))

value_decimal : (n : ℕ) → n < 10000 → value_of (decimal n) ≡ n
value_decimal n h =
    let k = sized n h in
    ap (λ (m : ℕ). value_of (digits m n)) (sym k.1.count) ∙ value_digits k.0 n k.1.holds

pub no_leading_zero : (n : ℕ) → 0 < n → n < 10000 → get_or (decimal n) 0 0 ≡ 48 → ⊥
no_leading_zero n p h e =
    let k = sized n h in
    k.1.first p (ap (λ (m : ℕ). get_or (digits m n) 0 0) k.1.count ∙ e)

-- ---- a number behind an LF is a field

each_append : (xs ys : List ℕ) → Each is_digit true xs → Each is_digit true ys → Each is_digit true (xs ++ ys)
each_append [] ys a b = b
each_append (x ∷ xs) ys a b = (a.0, each_append xs ys a.1 b)

digits_each : (k n : ℕ) → Each is_digit true (digits k n)
unfolding digits
digits_each zero n = tt
digits_each (suc k) n =
    let d = digit_small n in
    each_append (digits k (n / 10)) ((48 + n % 10) ∷ []) (digits_each k (n / 10))
    (rw (le-leb 48 (48 + n % 10) (omega arith), le-leb (48 + n % 10) 57 (omega arith)) (refl, tt))

record Spelled (n : ℕ) : Type 0 where
  field : Field
  formed : FieldFormed field
  bytes : field_bytes field ≡ 10 ∷ decimal n
  value : field_value field ≡ n

spelled : (n : ℕ) → n < 10000 → Spelled n
spelled n h = go (decimal n) refl (digits_each (digit_count n) n)
  where
    go : (ds : List ℕ) → decimal n ≡ ds → Each is_digit true ds → Spelled n
    go [] e each =
        let k = sized n h in
        let l = sym (length_digits (digit_count n) n) ∙ ap length e in
        absurd (omega (arith, k.1.count, k.1.some))
    go (d ∷ ds) e each =
        record {
          field = record { gap = blank 10; gaps = []; digit = d; digits = ds };
          formed = record { gap = refl; gaps = tt; digit = each.0; digits = each.1 };
          bytes = ap (◌∷◌ 10) (sym e);
          value = ap value_of (sym e) ∙ value_decimal n h;
        }

-- ---- the header

regrouped : (a b c : List ℕ) → (a ++ (10 ∷ [])) ++ (b ++ (10 ∷ [])) ++ (c ++ (10 ∷ []))
    ≡ a ++ (10 ∷ b) ++ (10 ∷ c) ++ (10 ∷ [])
regrouped a b c =
    ap (λ (zs : List ℕ). zs ++ (c ++ (10 ∷ [])))
    (append_snoc a 10 (b ++ (10 ∷ [])) ∙ sym (append_assoc a (10 ∷ b) (10 ∷ [])))
    ∙ append_snoc (a ++ (10 ∷ b)) 10 (c ++ (10 ∷ []))
    ∙ sym (append_assoc (a ++ (10 ∷ b)) (10 ∷ c) (10 ∷ []))

module _ (src : Gray8) (l : Laid (length src.bytes) src.width src.height src.stride) where
  abbrev px : List ℕ
  px = pixels_of src.width src.height (pixel src.bytes src.stride)

  w : Spelled src.width
  w = spelled src.width (omega (arith, l.width_most))

  h : Spelled src.height
  h = spelled src.height (omega (arith, l.height_most))

  m : Spelled 255
  m = spelled 255 (omega arith)

  header : Header
  header = record { width = w.field; height = h.field; maximum = m.field; last = 10 }

  header_is : header_lines src.width src.height ≡ header_bytes header
  unfolding header
  header_is =
      ap (λ (zs : List ℕ). 80 ∷ 53 ∷ 10 ∷ zs) (regrouped (decimal src.width) (decimal src.height) (decimal 255))
      ∙ rw (w.bytes, h.bytes, m.bytes) refl

  abbrev pub written : PgmPicture
  written = record {
    width = src.width;
    height = src.height;
    start = length (header_lines src.width src.height);
  }

  pub written_holds : Holds (pgm_bytes src) written
  unfolding header
  written_holds =
      record {
        header = header;
        pixels = px;
        formed = record {
          width = w.formed;
          height = h.formed;
          maximum = m.formed;
          last = refl;
          bytes = ap (λ (zs : List ℕ). zs ++ px) header_is;
        };
        width = sym w.value;
        height = sym h.value;
        start = ap length header_is;
        width_least = l.width_pos;
        width_most = l.width_most;
        height_least = l.height_pos;
        height_most = l.height_most;
        maximum = m.value;
        count = length_pixels src.width src.height (pixel src.bytes src.stride);
      }

  pub written_read : read_decision (pgm_bytes src) ≡ accepts written
  written_read = holds_read (pgm_bytes src) written written_holds

  pub written_pixels : pixels_part (pgm_bytes src) ≡ px
  written_pixels =
      ap (λ (d : Decision PgmPicture). part_of d (pgm_bytes src)) written_read
      ∙ drop-append_seam (header_lines src.width src.height) px

-- what a call has written, where it answers a length
pub call_read : (src : Gray8) {old new : List ℕ} {n : ℕ} → PgmWritten src old new (Ok n)
    → (l : Laid (length src.bytes) src.width src.height src.stride)
    × ((read_decision (take n new) ≡ accepts (written src l))
    × (pixels_part (take n new) ≡ pixels_of src.width src.height (pixel src.bytes src.stride)))
call_read src {old} {new} {n} o = go (write_decision src (length old)) refl
  where
    go : (d : Decision (List ℕ)) → write_decision src (length old) ≡ d
        → (l : Laid (length src.bytes) src.width src.height src.stride)
        × ((read_decision (take n new) ≡ accepts (written src l))
        × (pixels_part (take n new) ≡ pixels_of src.width src.height (pixel src.bytes src.stride)))
    go (accepts xs) is =
        let said = o.answered ∙ ap (map_found length) is in
        let count : n ≡ length xs = cc in
        let a = unless_accepts _ (room_for 5 (length old) (pgm_bytes src)) xs is in
        let l = laid a.0 in
        let all : take n new ≡ pgm_bytes src =
        ap (λ (k : ℕ). take k new) count ∙ front_is xs old (o.written xs is)
        ∙ sym (room_accepts 5 (length old) (pgm_bytes src) a.1) in
        (l, (ap read_decision all ∙ written_read src l, ap pixels_part all ∙ written_pixels src l))
    go (refuses k) is =
        let said = o.answered ∙ ap (map_found length) is in
        absurd (accepts_not_refuses said)
