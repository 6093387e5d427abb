-- A rounded value is finite or not whatever its sign (`round_sign`); one that is not is the infinity of its sign
-- (`round_infinite`).
use Rattle.std.proofs.Common.{◌≡◌, ℕ, zero, suc, ◌+◌, ◌*◌, ◌^◌, Bool, true, false, cond, ltb, sym, refl, ◌∙◌, true≢false}
use lib.Ieee.{Float, Format, inf, prec, low, emax, odd, units, round}
use lib.Ieee.Scale.{finite}

-- a finite value, or an infinity, by a test
module _ (s : Bool) (x : Float) (is : finite x ≡ true) where
  tested-finite : (t : Bool) → finite (cond t x (inf s)) ≡ t
  tested-finite true = is
  tested-finite false = refl

  tested-infinite : (t : Bool) → finite (cond t x (inf s)) ≡ false → cond t x (inf s) ≡ inf s
  tested-infinite true e = absurd (true≢false (sym is ∙ e))
  tested-infinite false e = refl

module _ (f : Format) (s : Bool) (q k : ℕ) where
  odd_finite : (d q : ℕ) → finite (odd d s q k (low f)) ≡ true
  unfolding odd
  odd_finite d zero = refl
  odd_finite d (suc q) = refl

  units-finite : finite (units f s q k) ≡ ltb (q * 2 ^ k) (2 ^ (low f + suc (emax f)))
  unfolding units
  units-finite = tested-finite s _ (odd_finite (suc (prec f)) q) (ltb (q * 2 ^ k) (2 ^ (low f + suc (emax f))))

  units-infinite : finite (units f s q k) ≡ false → units f s q k ≡ inf s
  unfolding units
  units-infinite = tested-infinite s _ (odd_finite (suc (prec f)) q) (ltb (q * 2 ^ k) (2 ^ (low f + suc (emax f))))

pub round_sign : (f : Format) (s t : Bool) (a c : ℕ) → finite (round f s a c) ≡ finite (round f t a c)
unfolding round
round_sign f s t a c = units-finite f s _ _ ∙ sym (units-finite f t _ _)

pub round_infinite : (f : Format) (s : Bool) (a c : ℕ) → finite (round f s a c) ≡ false → round f s a c ≡ inf s
unfolding round
round_infinite f s a c = units-infinite f s _ _
