-- Laws of places and of the border map: the remainder, each border's range, and that every border is lawful.
use Prim.Native.Nat.{ℕ, zero, suc, ◌+◌, ◌*◌, ◌-◌, ◌/◌, ◌%◌, ◌≤◌, ◌<◌, max, zero-le}
use native.Mathlib.Nat.{mod-lt, mod-eq_of_lt, div-add-mod', min-eq_left, min-eq_right, min-le_right, eq-or-lt_of_le}
use native.Mathlib.Nat.{ne_of_gt, zero-mul, suc-mul, suc-sub-suc, lt_of_le_of_lt, add-mod_right, mod-add-mod}
use native.Mathlib.Nat.{mul_assoc, dvd-mul_left, mod-mod_of_dvd, mod-eq-sub-mod}
use native.Mathlib.Omega.{arith}
use mathlib.Core.Bool.{Bool, true, false, cond}
use mathlib.Core.Logic.{⊎_elim}
use mathlib.Core.Path.{◌≡◌, refl, sym, ap, subst, ◌∙◌}
use lib.Dec.{ltb}
use lib.IntN.{ℤ, pos, negsuc, neg_ℤ, sub_ℕ, ◌+ℤ◌, ◌*ℤ◌, +ℤ_idr, +ℤ_assoc}
use lib.Signed.{shr_z}
use borrow.Author.Tests.{eq-eqb, ne_eqb, lt-ltb, le-ltb, ltb-true, ltb-false}
use Rattle.numbers.proofs.Int.Ring.{sub_ℕ-add}
use Rattle.numbers.proofs.Test.{by_test, false_not_true}
use Rattle.raster.specs.Border.{modℤ, nearer, folded, reflected, constant, border_map, border_value, Within, Lawful}
use Rattle.raster.specs.declared.border.LineBorderMode.{LineBorderMode}
use Rattle.raster.specs.declared.border.LineBorderMode.TheVariants.{Replicate, Reflect, Constant, Wrap}
use Rattle.raster.specs.declared.border.BorderSample.{BorderSample}
use Rattle.raster.specs.declared.border.BorderSample.TheVariants.{Inside, Outside}

-- The place u − half, before the line and from its start on.
pub place_before : (u half : ℕ) → u < half → sub_ℕ u half ≡ negsuc (half - suc u)
place_before u half h = simp (lt-ltb u half h)

pub place_from : (u half : ℕ) → half ≤ u → sub_ℕ u half ≡ pos (u - half)
place_from u half h = simp (le-ltb u half h)

-- The remainder: p is m times the floored quotient, and the remainder, which is below m.
pub modℤ-lt : (p : ℤ) (m : ℕ) → 0 < m → modℤ p m < m
modℤ-lt (pos k) m h = mod-lt k h
modℤ-lt (negsuc k) m h = omega (arith, h)

neg_plus : (x y : ℕ) → y ≤ x → neg_ℤ (pos (suc x)) +ℤ pos y ≡ negsuc (x - y)
neg_plus x y h = place_before y (suc x) (omega (arith, h)) ∙ ap negsuc (suc-sub-suc x y)

pub modℤ-div : (p : ℤ) (m : ℕ) → 0 < m → shr_z p m *ℤ pos m +ℤ pos (modℤ p m) ≡ p
modℤ-div (pos k) m h = ap pos (div-add-mod' k m)
modℤ-div (negsuc k) m h =
    let below : k % m < m = mod-lt k h in
    let whole : k / m * m + k % m ≡ k = div-add-mod' k m in
    let e : suc (k / m) * m ≡ suc (k / m * m + (m - 1)) = omega (arith, suc-mul (k / m) m, h) in
    ap (λ (x : ℕ). neg_ℤ (pos x) +ℤ pos (m - 1 - k % m)) e
    ∙ neg_plus (k / m * m + (m - 1)) (m - 1 - k % m) (omega arith)
    ∙ ap negsuc (omega arith)

pub mod_before : (u half m : ℕ) → u < half → modℤ (sub_ℕ u half) m ≡ m - 1 - (half - u - 1) % m
mod_before u half m h =
    ap (λ (p : ℤ). modℤ p m) (place_before u half h) ∙ ap (λ (k : ℕ). m - 1 - k % m) (omega (arith, h))

pub mod_from : (u half m : ℕ) → half ≤ u → modℤ (sub_ℕ u half) m ≡ (u - half) % m
mod_from u half m h = ap (λ (p : ℤ). modℤ p m) (place_from u half h)

-- p and p + m have the same remainder, ..
pub modℤ-again : (m : ℕ) → 0 < m → (p : ℤ) → modℤ (p +ℤ pos m) m ≡ modℤ p m
modℤ-again m some (pos k) = add-mod_right k m
modℤ-again m some (negsuc k) =
    by_test (ltb m (suc k))
    (λ t.
    let far : m < suc k = ltb-true m (suc k) t in
    let e : k ≡ suc k - m - 1 + m = omega arith in
    mod_before m (suc k) m far ∙ ap (λ (j : ℕ). m - 1 - j) (sym (ap (◌% m) e ∙ add-mod_right (suc k - m - 1) m)))
    (λ t.
    let near : suc k ≤ m = ltb-false m (suc k) t in
    mod_from m (suc k) m near
    ∙ mod-eq_of_lt (omega arith)
    ∙ sym (ap (λ (j : ℕ). m - 1 - j) (mod-eq_of_lt near) ∙ omega arith))

-- .. so have p and p + j × m
pub modℤ-whole : (m : ℕ) → 0 < m → (j : ℕ) (p : ℤ) → modℤ (p +ℤ pos (j * m)) m ≡ modℤ p m
modℤ-whole m some zero p = ap (λ (z : ℤ). modℤ z m) (ap (λ (k : ℕ). p +ℤ pos k) (zero-mul m) ∙ +ℤ_idr p)
modℤ-whole m some (suc j) p =
    ap (λ (k : ℕ). modℤ (p +ℤ pos k) m) (suc-mul j m)
    ∙ ap (λ (z : ℤ). modℤ z m) (sym (+ℤ_assoc p (pos (j * m)) (pos m)))
    ∙ modℤ-again m some (p +ℤ pos (j * m))
    ∙ modℤ-whole m some j p

-- as many m on that p is not negative any more
lifted : (m : ℕ) → 0 < m → (k : ℕ) → suc (k / m) * m ≡ suc k + (m - 1 - k % m)
lifted m some k = let below : k % m < m = mod-lt k some in omega (arith, suc-mul (k / m) m, div-add-mod' k m)

-- s places on, the remainder is s more, again as a remainder
pub modℤ-add : (m : ℕ) → 0 < m → (p : ℤ) (s : ℕ) → modℤ (p +ℤ pos s) m ≡ (modℤ p m + s) % m
modℤ-add m some (pos k) s = sym (mod-add-mod k m s)
modℤ-add m some (negsuc k) s =
    let whole = suc (k / m) * m in
    let e = lifted m some k in
    sym (modℤ-whole m some (suc (k / m)) (sub_ℕ s (suc k)))
    ∙ ap (λ (z : ℤ). modℤ z m) (sub_ℕ-add s (suc k) whole)
    ∙ mod_from (s + whole) (suc k) m (omega arith)
    ∙ ap (◌% m) (omega arith)

-- the remainder by 2 × m has the remainder by m
pub modℤ-twice : (m : ℕ) → 0 < m → (p : ℤ) → modℤ p (2 * m) % m ≡ modℤ p m
modℤ-twice m some (pos k) = mod-mod_of_dvd m k (dvd-mul_left m 2)
modℤ-twice m some (negsuc k) =
    let j = suc (k / (2 * m)) in
    let e = lifted (2 * m) (omega arith) k in
    ap (◌% m) (omega arith)
    ∙ sym (mod_from (j * (2 * m)) (suc k) m (omega arith))
    ∙ ap (λ (w : ℕ). modℤ (sub_ℕ w (suc k)) m) (sym (mul_assoc j 2 m))
    ∙ modℤ-whole m some (j * 2) (negsuc k)

-- Replicate
pub nearer_lt : (n : ℕ) (p : ℤ) → 0 < n → nearer n p < n
nearer_lt n (pos k) h = omega (arith, h, min-le_right k (n - 1))
nearer_lt n (negsuc k) h = h

pub nearer_inside : (n k : ℕ) → k < n → nearer n (pos k) ≡ k
nearer_inside n k h = min-eq_left (omega (arith, h))

pub nearer_behind : (n k : ℕ) → n ≤ k → nearer n (pos k) ≡ n - 1
nearer_behind n k h = min-eq_right (omega (arith, h))

-- Reflect
pub folded_low : (n r : ℕ) → r < n → folded n r ≡ r
folded_low n r h = simp (lt-ltb r n h)

pub folded_high : (n r : ℕ) → n ≤ r → folded n r ≡ 2 * n - 2 - r
folded_high n r h = simp (le-ltb r n h)

pub reflected_one : (n : ℕ) (p : ℤ) → n ≡ 1 → reflected n p ≡ 0
reflected_one n p e = simp (eq-eqb n 1 e)

pub reflected_more : (n : ℕ) (p : ℤ) → 1 < n → reflected n p ≡ folded n (modℤ p (2 * n - 2))
reflected_more n p h = simp (ne_eqb n 1 (ne_of_gt h))

folded_cases : (n r : ℕ) (t : Bool) → r < 2 * n - 2 → ltb r n ≡ t → cond t r (2 * n - 2 - r) < n
folded_cases n r true h e = ltb-true r n e
folded_cases n r false h e = omega (arith, h, ltb-false r n e)

pub folded_lt : (n r : ℕ) → r < 2 * n - 2 → folded n r < n
folded_lt n r h = folded_cases n r (ltb r n) h refl

pub reflected_lt : (n : ℕ) (p : ℤ) → 0 < n → reflected n p < n
reflected_lt n p h =
    ⊎_elim
    (λ e. subst (λ (m : ℕ). reflected m p < m) e (omega arith))
    (λ l. rw (reflected_more n p l) (folded_lt n (modℤ p (2 * n - 2)) (modℤ-lt p (2 * n - 2) (omega (arith, l)))))
    (eq-or-lt_of_le h)

pub reflected_inside : (n k : ℕ) → k < n → reflected n (pos k) ≡ k
reflected_inside n k h =
    ⊎_elim
    (λ e. subst (λ (m : ℕ). k < m → reflected m (pos k) ≡ k) e (λ l. omega (arith, l)) h)
    (λ l. reflected_more n (pos k) l ∙ ap (folded n) (mod-eq_of_lt (omega (arith, l, h))) ∙ folded_low n k h)
    (eq-or-lt_of_le (lt_of_le_of_lt zero-le h))

-- Reflect and Wrap by one remainder each: that of a reflected line's period, or of twice a line
abbrev pub long_period : ℕ → Bool → ℕ
long_period n wraps = cond wraps (2 * n) (max 1 (2 * n - 2))

abbrev pub periodic : ℕ → Bool → ℤ → ℕ
periodic n wraps p = cond wraps (modℤ p n) (reflected n p)

-- a reflected line of several places
long_more : (n : ℕ) (p : ℤ) → 1 < n → reflected n p ≡ folded n (modℤ p (long_period n false))
long_more n p l =
    let e : 2 * n - 2 ≡ max 1 (2 * n - 2) = omega arith in
    reflected_more n p l ∙ ap (λ (m : ℕ). folded n (modℤ p m)) e

pub periodic_low : (n : ℕ) (wraps : Bool) (p : ℤ) → 0 < n → modℤ p (long_period n wraps) < n
    → modℤ p (long_period n wraps) ≡ periodic n wraps p
periodic_low n true p some h = sym (mod-eq_of_lt h) ∙ modℤ-twice n some p
periodic_low n false p some h =
    ⊎_elim
    (λ e. let r = reflected_one n p (sym e) in omega (arith, h, e, r))
    (λ l. sym (long_more n p l ∙ folded_low n _ h))
    (eq-or-lt_of_le some)

pub wrapped_high : (n : ℕ) (wraps : Bool) (p : ℤ) → wraps ≡ true → 0 < n → n ≤ modℤ p (long_period n wraps)
    → modℤ p (long_period n wraps) - n ≡ periodic n wraps p
wrapped_high n false p e some h = absurd (false_not_true refl e)
wrapped_high n true p e some h =
    let below = modℤ-lt p (2 * n) (omega arith) in
    sym (mod-eq_of_lt (omega (arith, h, below))) ∙ sym (mod-eq-sub-mod h) ∙ modℤ-twice n some p

pub reflected_high : (n : ℕ) (wraps : Bool) (p : ℤ) → wraps ≡ false → 0 < n → n ≤ modℤ p (long_period n wraps)
    → long_period n wraps - modℤ p (long_period n wraps) ≡ periodic n wraps p
reflected_high n true p e some h = absurd (false_not_true e refl)
reflected_high n false p e some h =
    let below = modℤ-lt p (long_period n false) (omega arith) in
    let more : 1 < n = omega (arith, h, below) in
    let long : max 1 (2 * n - 2) ≡ 2 * n - 2 = omega arith in
    ap (◌- modℤ p (long_period n false)) long ∙ sym (long_more n p more ∙ folded_high n _ h)

-- Constant
pub constant_behind : (v n k : ℕ) → n ≤ k → constant v n (pos k) ≡ Outside v
constant_behind v n k h = simp (le-ltb k n h)

pub constant_inside : (v n k : ℕ) → k < n → constant v n (pos k) ≡ Inside k
constant_inside v n k h = simp (lt-ltb k n h)

-- Where a border's samples come from: a place of a line of n, or, outside it, the border's value.
abbrev pub SourceOf : LineBorderMode → ℕ → BorderSample → Type 0
SourceOf b n (Inside i) = i < n
SourceOf b n (Outside v) = v ≡ border_value b

constant_cases : (v n k : ℕ) (t : Bool) → ltb k n ≡ t → SourceOf (Constant v) n (cond t (Inside k) (Outside v))
constant_cases v n k true e = ltb-true k n e
constant_cases v n k false e = refl

pub border_range : (b : LineBorderMode) (n : ℕ) (p : ℤ) → 0 < n → SourceOf b n (border_map b n p)
unfolding border_map
border_range Replicate n p h = nearer_lt n p h
border_range Reflect n p h = reflected_lt n p h
border_range (Constant v) n (pos k) h = constant_cases v n k (ltb k n) refl
border_range (Constant v) n (negsuc k) h = refl
border_range Wrap n p h = modℤ-lt p n h

-- a place of the line is its own source
pub border_inside : (b : LineBorderMode) (n k : ℕ) → k < n → border_map b n (pos k) ≡ Inside k
unfolding border_map
border_inside Replicate n k h = ap Inside (nearer_inside n k h)
border_inside Reflect n k h = ap Inside (reflected_inside n k h)
border_inside (Constant v) n k h = constant_inside v n k h
border_inside Wrap n k h = ap Inside (mod-eq_of_lt h)

source_within : (b : LineBorderMode) (n : ℕ) (s : BorderSample) → border_value b ≤ 255 → SourceOf b n s → Within n s
source_within b n (Inside i) byte h = h
source_within b n (Outside v) byte h = omega (arith, byte, h)

-- every border whose value is a byte is lawful
pub border_lawful : (b : LineBorderMode) (n : ℕ) → 0 < n → border_value b ≤ 255 → Lawful n (border_map b n)
border_lawful b n h byte =
    record {
      range = λ p. source_within b n (border_map b n p) byte (border_range b n p h);
      inside = border_inside b n;
    }
