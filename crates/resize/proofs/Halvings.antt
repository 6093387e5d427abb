-- Pictures after some halvings: none (`times_none`), one more (`times_more`), some and then others (`times_together`),
-- and that only pixels within the sides are read (`halved_same`, `times_same`).
use Prim.Native.Nat.{ℕ, zero, suc, ◌+◌, ◌*◌, ◌/◌, ◌<◌}
use native.Mathlib.Nat.{zero-add, suc-add}
use native.Mathlib.Numerals.{add-one}
use native.Mathlib.Omega.{arith}
use mathlib.Core.Path.{◌≡◌, refl}
use Rattle.resize.specs.Halving.{halved, halved_times, side_after}

pub times_none : (px : ℕ → ℕ → ℕ) → halved_times 0 px ≡ px
unfolding halved_times
times_none px = refl

pub times_more : (n : ℕ) (px : ℕ → ℕ → ℕ) → halved_times (n + 1) px ≡ halved_times n (halved px)
unfolding halved_times
times_more n px = rw (add-one n) refl

pub times_together : (m n : ℕ) (px : ℕ → ℕ → ℕ) → halved_times (m + n) px ≡ halved_times n (halved_times m px)
unfolding halved_times
times_together zero n px = rw (zero-add n) refl
times_together (suc m) n px = rw (suc-add m n) (times_together m n (halved px))

-- pictures that are equal at their pixels, w by h
abbrev pub Agree : (p q : ℕ → ℕ → ℕ) → ℕ → ℕ → Type 0
Agree p q w h = (c r : ℕ) → c < w → r < h → p c r ≡ q c r

pub halved_same : (p q : ℕ → ℕ → ℕ) (w h : ℕ) → Agree p q w h → Agree (halved p) (halved q) (w / 2) (h / 2)
halved_same p q w h e c r hc hr =
    rw (
      e (2 * c) (2 * r) (omega arith) (omega arith),
      e (2 * c + 1) (2 * r) (omega arith) (omega arith),
      e (2 * c) (2 * r + 1) (omega arith) (omega arith),
      e (2 * c + 1) (2 * r + 1) (omega arith) (omega arith),
    )

pub times_same : (n : ℕ) (p q : ℕ → ℕ → ℕ) (w h : ℕ) → Agree p q w h
    → Agree (halved_times n p) (halved_times n q) (side_after n w) (side_after n h)
unfolding halved_times side_after
times_same zero p q w h e = e
times_same (suc n) p q w h e = times_same n (halved p) (halved q) (w / 2) (h / 2) (halved_same p q w h e)
