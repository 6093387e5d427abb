-- What the floor's test says of the eigenvalues: that R, the root of D² + 4C², reaches the floor (`reached_iff`), and,
-- where the eigenvalues are fractions, that 1 minus the smaller over the larger does (`eigenvalues_iff`).
use mathlib.Core.Bool.{Bool, true, false}
use mathlib.Core.Logic.{◌↔◌}
use mathlib.Core.Path.{◌≡◌, refl, sym, ap, ap₂, ◌∙◌}
use Prim.Native.Nat.{ℕ, suc, ◌+◌, ◌-◌, ◌*◌, ◌^◌, ◌≤◌, ◌<◌}
use native.Mathlib.Nat.{add-mul, mul-add, mul_assoc, mul_comm, mul_left_comm, mul-le-mul_left, mul-pos}
use native.Mathlib.Nat.{le_trans, le_of_eq, le_of_mul-le-mul_left, pow-le-pow_left, pow-lt-pow_left, not-le_of_lt}
use native.Mathlib.Omega.{arith}
use borrow.Author.Tests.{leb-true, leb-false, le-leb}
use lib.Dec.{leb}
use lib.IntN.{ℤ, pos, negsuc, nat_abs, ◌+ℤ◌, ◌-ℤ◌, ◌*ℤ◌}
use Rattle.numbers.proofs.Int.Ring.{zring, z_ind, ⊖-same, pos_inj, sub_of_add}
use Rattle.numbers.proofs.Int.Size.{nat_abs_mul}
use Rattle.tensor.specs.Confidence.{max_floor, square_gap, at_least, Reached, Eigenvalues}
use Rattle.tensor.proofs.Floor.{square, square_mul}

module _ (c : ℕ) (A C E : ℤ) (most : c ≤ max_floor) where
  abbrev k : ℕ
  k = 512 - c

  abbrev t : ℕ
  t = nat_abs (A +ℤ E)

  -- R²
  abbrev rr : ℕ
  rr = square_gap A C E

  -- 512 p is (512 − c) p and c p
  parts : (p : ℕ) → 512 * p ≡ k * p + c * p
  parts p = ap (◌* p) {x = 512} {y = k + c} (omega arith) ∙ add-mul k c p

  -- p = c (A + E), q = 512 − c
  reached : at_least c A C E ≡ true → Reached c A C E
  reached e =
      record {
        p = c * t;
        q = k;
        some = omega arith;
        at_most = rw (square_mul c t) (leb-true (c ^ 2 * t ^ 2) (k ^ 2 * rr) e);
        enough =
            let same : c * (t * k) ≡ k * (c * t) = simp (mul_assoc, mul_comm, mul_left_comm) refl in
            omega (arith, parts (c * t), mul-add c (t * k) (c * t), same);
      }

  -- c (A + E) q ≤ (512 − c) p, squared
  reaching : Reached c A C E → at_least c A C E ≡ true
  reaching r =
      let p = r.p in
      let q = r.q in
      let less : q * (c * t) ≤ k * p =
      let same : c * (t * q) ≡ q * (c * t) = simp (mul_assoc, mul_comm, mul_left_comm) refl in
      omega (arith, parts p, mul-add c (t * q) p, same, r.enough) in
      let squared : q ^ 2 * (c ^ 2 * t ^ 2) ≤ k ^ 2 * p ^ 2 =
      rw (← square_mul c t, ← square_mul q (c * t), ← square_mul k p) (pow-le-pow_left less 2) in
      let above : k ^ 2 * p ^ 2 ≤ k ^ 2 * (q ^ 2 * rr) = mul-le-mul_left (k ^ 2) r.at_most in
      let turned : k ^ 2 * (q ^ 2 * rr) ≡ q ^ 2 * (k ^ 2 * rr) = mul_left_comm (k ^ 2) (q ^ 2) rr in
      le-leb (c ^ 2 * t ^ 2) (k ^ 2 * rr)
      (le_of_mul-le-mul_left (le_trans squared (le_trans above (le_of_eq turned)))
      (rw (square q) (mul-pos r.some r.some)))

  pub reached_iff : (at_least c A C E ≡ true) ↔ Reached c A C E
  reached_iff = (reached, reaching)

root_le : {m n : ℕ} → m ^ 2 ≤ n ^ 2 → m ≤ n
root_le {m} {n} h = go (leb m n) refl
  where
    go : (b : Bool) → leb m n ≡ b → m ≤ n
    go true t = leb-true m n t
    go false t =
        let more : n ^ 2 < m ^ 2 = pow-lt-pow_left (leb-false m n t) (λ e. omega arith) in
        absurd (not-le_of_lt more h)

-- ---- eigenvalues that are fractions: the square of their difference is n² R²

-- (A + E)² = (A − E)² + 4AE
sum_square : (A E : ℤ) → (A +ℤ E) *ℤ (A +ℤ E) ≡ (A -ℤ E) *ℤ (A -ℤ E) +ℤ pos 4 *ℤ (A *ℤ E)
sum_square =
    z_ind _ λ a a'. z_ind _ λ e e'.
    simp (zring, mul-add, add-mul)
    (omega (
      arith,
      ⊖-same,
      mul_comm a e,
      mul_comm a e',
      mul_comm a' e,
      mul_comm a' e',
      mul_comm a a',
      mul_comm e e',
    ))

-- with X = D², U = AE and W = C²
combined : (M X U W : ℤ) → M *ℤ (X +ℤ pos 4 *ℤ U) -ℤ pos 4 *ℤ (M *ℤ (U -ℤ W)) ≡ M *ℤ (X +ℤ pos 4 *ℤ W)
combined =
    z_ind _ λ m m'. z_ind _ λ x x'. z_ind _ λ u u'. z_ind _ λ w w'.
    simp (zring, mul-add) (omega (arith, ⊖-same))

size_square : (z : ℤ) → pos (nat_abs z ^ 2) ≡ z *ℤ z
size_square (pos n) = ap pos (square n)
size_square (negsuc n) = ap pos (square (suc n))

module _ {A C E : ℤ} {n smaller larger : ℕ} (e : Eigenvalues A C E n smaller larger) where
  abbrev gap : ℕ
  gap = larger - smaller

  trace-is : smaller + larger ≡ n * nat_abs (A +ℤ E)
  trace-is = ap nat_abs e.trace ∙ nat_abs_mul (pos n) (A +ℤ E)

  squares : gap ^ 2 + 4 * (smaller * larger) ≡ (smaller + larger) ^ 2
  squares = go gap (omega (arith, e.order))
    where
      go : (g : ℕ) → larger ≡ smaller + g → g ^ 2 + 4 * (smaller * larger) ≡ (smaller + larger) ^ 2
      go g is = rw (is, square g, square (smaller + (smaller + g)))
          (omega (
            arith,
            mul-add smaller smaller g,
            mul-add (smaller + (smaller + g)) smaller (smaller + g),
            mul-add (smaller + (smaller + g)) smaller g,
            add-mul smaller (smaller + g) smaller,
            add-mul smaller (smaller + g) g,
            add-mul smaller g smaller,
            add-mul smaller g g,
            mul_comm g smaller,
          ))

  gap_is : gap ^ 2 ≡ n ^ 2 * square_gap A C E
  gap_is = pos_inj (sub_of_add (pos (gap ^ 2)) (pos (4 * (smaller * larger))) (ap pos squares)
      ∙ ap₂ ◌-ℤ◌ whole (ap (pos 4 *ℤ◌) part)
      ∙ combined (pos (n ^ 2)) ((A -ℤ E) *ℤ (A -ℤ E)) (A *ℤ E) (C *ℤ C)
      ∙ sym (ap (pos (n ^ 2) *ℤ◌) (ap₂ ◌+ℤ◌ (size_square (A -ℤ E)) (ap (pos 4 *ℤ◌) (size_square C)))))
    where
      whole : pos ((smaller + larger) ^ 2) ≡ pos (n ^ 2) *ℤ ((A -ℤ E) *ℤ (A -ℤ E) +ℤ pos 4 *ℤ (A *ℤ E))
      whole =
          ap pos (ap (◌^ 2) trace-is ∙ square_mul n (nat_abs (A +ℤ E)))
          ∙ ap (pos (n ^ 2) *ℤ◌) (size_square (A +ℤ E) ∙ sum_square A E)

      part : pos (smaller * larger) ≡ pos (n ^ 2) *ℤ (A *ℤ E -ℤ C *ℤ C)
      part = e.determinant ∙ ap (λ (m : ℕ). pos m *ℤ (A *ℤ E -ℤ C *ℤ C)) (sym (square n))

  -- "1 minus the smaller over the larger eigenvalue, is at least c / 256"
  pub eigenvalues_iff : (c : ℕ) → c ≤ max_floor → (at_least c A C E ≡ true) ↔ (c * larger ≤ 256 * (larger - smaller))
  eigenvalues_iff c most = (to, from)
    where
      -- the sum and the difference are twice the larger
      twice : c * (smaller + larger) + c * gap ≡ 2 * (c * larger)
      twice =
          sym (mul-add c (smaller + larger) gap)
          ∙ ap (c *◌) {x = smaller + larger + gap} {y = 2 * larger} (omega (arith, e.order))
          ∙ mul_left_comm c 2 larger

      to : at_least c A C E ≡ true → c * larger ≤ 256 * gap
      to reached =
          let k = 512 - c in
          let t = nat_abs (A +ℤ E) in
          let rr = square_gap A C E in
          let at-least : n ^ 2 * (c ^ 2 * t ^ 2) ≤ n ^ 2 * (k ^ 2 * rr) =
          mul-le-mul_left (n ^ 2) (leb-true (c ^ 2 * t ^ 2) (k ^ 2 * rr) reached) in
          let left : (c * (n * t)) ^ 2 ≡ n ^ 2 * (c ^ 2 * t ^ 2) =
          square_mul c (n * t) ∙ ap (c ^ 2 *◌) (square_mul n t) ∙ mul_left_comm (c ^ 2) (n ^ 2) (t ^ 2) in
          let right : n ^ 2 * (k ^ 2 * rr) ≡ (k * gap) ^ 2 =
          mul_left_comm (n ^ 2) (k ^ 2) rr ∙ ap (k ^ 2 *◌) (sym gap_is) ∙ sym (square_mul k gap) in
          let less : c * (n * t) ≤ k * gap =
          root_le (le_trans (le_of_eq left) (le_trans at-least (le_of_eq right))) in
          let sum : c * (n * t) ≡ c * (smaller + larger) = ap (c *◌) (sym trace-is) in
          omega (arith, twice, parts c A C E most gap)

      from : c * larger ≤ 256 * gap → at_least c A C E ≡ true
      from enough =
          (reached_iff c A C E most).1
          (record {
            p = gap;
            q = n;
            some = e.some;
            at_most = le_of_eq gap_is;
            enough =
                rw (mul_comm (nat_abs (A +ℤ E)) n, ← trace-is)
                (omega (arith, twice, mul-add c (smaller + larger) gap));
          })
