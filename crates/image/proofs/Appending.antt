-- Bytes put from a place on: one run of them behind the other is one run.
use Prim.Native.Nat.{ℕ, ◌+◌, ◌-◌, ◌≤◌}
use native.Mathlib.Nat.{add_assoc}
use native.Mathlib.Omega.{arith}
use mathlib.Core.List.{List, ◌++◌, append_assoc}
use mathlib.Core.Path.{◌≡◌, sym, ap, ap₂, ◌∙◌}
use lib.ListN.{length, take, drop, length-append}
use lib.Seq.{length-take-le, take_at, drop_at, drop-drop}
use Rattle.image.specs.Call.{Appended}

module _ {xs ys old mid new : List ℕ} {at e f : ℕ} (within : at ≤ length old) (A : Appended xs at old mid e)
    (B : Appended ys e mid new f) where
  start : length (take at old ++ xs) ≡ at + length xs
  start = length-append (take at old) xs ∙ ap (λ (n : ℕ). n + length xs) (length-take-le at old within)

  joined : mid ≡ take at old ++ xs ++ drop (at + length xs) old
  joined = A.bytes ∙ sym (append_assoc (take at old) xs (drop (at + length xs) old))

  front_kept : take e mid ≡ take at old ++ xs
  front_kept =
      ap (take e) joined
      ∙ take_at (take at old ++ xs) (drop (at + length xs) old) e (start ∙ sym A.behind)

  rest-kept : drop (e + length ys) mid ≡ drop (at + length (xs ++ ys)) old
  rest-kept =
      sym (drop-drop (length ys) e mid)
      ∙ ap (drop (length ys))
      (ap (drop e) joined ∙ drop_at (take at old ++ xs) (drop (at + length xs) old) e (start ∙ sym A.behind))
      ∙ drop-drop (length ys) (at + length xs) old
      ∙ ap (λ (n : ℕ). drop n old)
      (add_assoc at (length xs) (length ys) ∙ ap (λ (n : ℕ). at + n) (sym (length-append xs ys)))

  pub appended_then : Appended (xs ++ ys) at old new f
  appended_then =
      record {
        behind = B.behind ∙ rw A.behind (omega (arith, length-append xs ys));
        bytes = B.bytes ∙ ap₂ (λ (a b : List ℕ). a ++ (ys ++ b)) front_kept rest-kept
            ∙ append_assoc (take at old) xs (ys ++ drop (at + length (xs ++ ys)) old)
            ∙ ap (◌++◌ (take at old)) (sym (append_assoc xs ys (drop (at + length (xs ++ ys)) old)));
      }

-- all that was put is at the front
pub appended_front : {xs old new : List ℕ} {e : ℕ} → Appended xs 0 old new e → new ≡ xs ++ drop (length xs) old
appended_front {xs} {old} A =
    let e : 0 + length xs ≡ length xs = omega arith in
    A.bytes ∙ ap (λ (n : ℕ). xs ++ drop n old) e

pub front_put : {xs old new : List ℕ} {e : ℕ} → e ≡ length xs → new ≡ xs ++ drop (length xs) old
    → Appended xs 0 old new e
front_put {xs} {old} is e =
    let k : length xs ≡ 0 + length xs = omega arith in
    record { behind = is ∙ k; bytes = e ∙ ap (λ (n : ℕ). xs ++ drop n old) k }

-- a part up to e that has come back as ys
pub part_put : (at e : ℕ) (old ys : List ℕ) → at ≤ e → length ys ≡ e - at
    → Appended ys at old (take at old ++ (ys ++ drop (e - at) (drop at old))) e
part_put at e old ys h same =
    record {
      behind = omega arith;
      bytes =
          ap (λ (zs : List ℕ). take at old ++ (ys ++ zs))
          (drop-drop (e - at) at old ∙ ap (λ (n : ℕ). drop (at + n) old) (sym same));
    }
