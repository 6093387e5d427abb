-- Bytes put from a place on: a line of digits. One run behind the other: `image/proofs/Appending`.
use Prim.Native.Nat.{ℕ, ◌+◌, ◌-◌, ◌<◌}
use native.Mathlib.Numerals.{add-one}
use native.Mathlib.Omega.{arith}
use mathlib.Core.List.{List, [], ◌∷◌, ◌++◌, append_assoc}
use mathlib.Core.Path.{◌≡◌, sym, ap, ap₂, ◌∙◌}
use lib.ListN.{length, get_or, set, take, drop, length-append}
use lib.Seq.{length-take-le, drop-drop, drop-cons, set_at}
use Rattle.numbers.proofs.List.{length_part}
use Rattle.image.specs.Call.{Appended}
use Rattle.pgm.specs.Write.{digits, digit_count, decimal, number_line}
use Rattle.pgm.proofs.Digits.{length_digits, length_line}

-- a part of digits that has come back as ys, and an LF behind it
module _ (n at e : ℕ) (old ys : List ℕ) (is : e ≡ at + digit_count n) (below : e < length old)
    (same : ys ≡ digits (length (take (e - at) (drop at old))) n) where
  ys-are : ys ≡ decimal n
  ys-are = same ∙ ap (λ (k : ℕ). digits k n) (length_part at (e - at) old (omega arith) ∙ omega arith)

  behind-digits : drop (e - at) (drop at old) ≡ get_or old e 0 ∷ drop (e + 1) old
  behind-digits =
      let k : at + (e - at) ≡ e = omega arith in
      drop-drop (e - at) at old ∙ ap (λ (m : ℕ). drop m old) k ∙ rw (add-one e) (drop-cons old e 0 below)

  here : length (take at old ++ ys) ≡ e
  here =
      length-append (take at old) ys
      ∙ rw (length-take-le at old (omega arith), ys-are, length_digits (digit_count n) n) (sym is)

  pub line_put : Appended (number_line n) at old (set (take at old ++ (ys ++ drop (e - at) (drop at old))) e 10) (e + 1)
  line_put =
      record {
        behind = omega (arith, length_line n);
        bytes =
            let l : e + 1 ≡ at + length (number_line n) = omega (arith, length_line n) in
            ap (λ (zs : List ℕ). set zs e 10)
            (ap (λ (zs : List ℕ). take at old ++ (ys ++ zs)) behind-digits
            ∙ sym (append_assoc (take at old) ys (get_or old e 0 ∷ drop (e + 1) old)))
            ∙ set_at (take at old ++ ys) (get_or old e 0) (drop (e + 1) old) 10 e here
            ∙ append_assoc (take at old) ys (10 ∷ drop (e + 1) old)
            ∙ ap (◌++◌ (take at old)) (sym (append_assoc ys (10 ∷ []) (drop (e + 1) old)))
            ∙ ap₂ (λ (zs : List ℕ) (k : ℕ). take at old ++ (zs ++ (10 ∷ []) ++ drop k old)) ys-are l;
      }
