-- Facts on doubles that the snapping of angles cites: half of a large double is exact, and so on.
use Rattle.std.proofs.Common.{◌≡◌, ℕ, zero, suc, ◌+◌, ◌*◌, ◌%◌, ◌^◌, ◌<◌, ◌≤◌, Bool, true, false, ◌&&◌, T, not, cond, eqb, ltb, leb, ℤ, pos, negsuc, sym, refl, ap, ◌∙◌, subst, arith, eqb→eq, ltb→lt, pow_pos, pow-add, pow-suc, zero-lt-suc, mul_comm, mul-pos, mul-one}
use lib.Ieee.{Float, inf, fin, Format, binary64, prec, emax, low, up, down, odd, units, round, neg, mul, rem, of_bits, fits}
use lib.Ieee.Fits.{and_r, down_pos, mul-fits}
use lib.Ieee.Exact.{HasValue, round_exact}
use Rattle.floats.proofs.Values.{fits_small}
use Rattle.raster.specs.Direction.{signed_rest}

-- a double from 2 ^ 52 up is a whole number
pub den_one : (m : ℕ) (e : ℤ) → T (fits binary64 (fin false m e)) → 2 ^ 52 * down e ≤ m * up e → down e ≡ 1
den_one m (pos k) t h = refl
den_one m (negsuc k) t h =
    let small : m < 2 ^ 53 = fits_small binary64 false m (negsuc k) t in
    absurd (omega (arith, pow-suc 2 k, pow_pos k, h, small))

-- ---- half of a double from 2 ^ 53 up is exact

half_large : (m : ℕ) (e : ℤ) → T (fits binary64 (fin false m e)) → m * up e < 2 ^ 1024 * down e
unfolding fits
half_large zero e t = omega (arith, mul-pos (pow_pos 1024) (down_pos e))
half_large (suc m) e t =
    ltb→lt (suc m * up e) (2 ^ 1024 * down e)
    (and_r (eqb (suc m % 2) 1 && ltb (suc m) (2 ^ 53) && leb (down e) (2 ^ 1074))
    (ltb (suc m * up e) (2 ^ 1024 * down e)) t)

half_is : (m : ℕ) (e : ℤ)
    → mul binary64 (fin false m e) (of_bits binary64 0x3fe0_0000_0000_0000) ≡ round binary64 false (m * up e) (2 * down e)
unfolding mul of_bits
half_is m e =
    ap (λ (x : ℕ). round binary64 false x (down e * 2)) (mul-one (m * up e))
    ∙ ap (λ (x : ℕ). round binary64 false (m * up e) x) (mul_comm (down e) 2)

half_whole : (m k : ℕ) → m < 2 ^ 53 → m * 2 ^ k < 2 ^ 1024
    → HasValue (round binary64 false (m * 2 ^ k) (2 * 1)) false (m * 2 ^ k) (2 * 1)
half_whole m k small room =
    let same : m * 2 ^ k * 2 ^ 1074 ≡ m * 2 ^ (k + 1073) * (2 * 1) =
    rw (pow-add 2 k 1073) (omega arith) in
    let less : m * 2 ^ (k + 1073) < 2 ^ (1074 + 1024) =
    rw (pow-add 2 k 1073) (omega (arith, room)) in
    round_exact binary64 false (m * 2 ^ k) (2 * 1) m (k + 1073) (zero-lt-suc 1) small less same

pub half_exact : (m : ℕ) (e : ℤ) → T (fits binary64 (fin false m e)) → 2 ^ 53 * down e ≤ m * up e
    → HasValue (mul binary64 (fin false m e) (of_bits binary64 0x3fe0_0000_0000_0000)) false (m * up e) (2 * down e)
half_exact m (pos k) t h =
    subst (λ (x : Float). HasValue x false (m * up (pos k)) (2 * down (pos k))) (sym (half_is m (pos k)))
    (half_whole m k (fits_small binary64 false m (pos k) t) (omega (arith, half_large m (pos k) t)))
half_exact m (negsuc k) t h =
    let small : m < 2 ^ 53 = fits_small binary64 false m (negsuc k) t in
    absurd (omega (arith, pow-suc 2 k, pow_pos k, h, small))

-- ---- the negative of a rounded fraction

neg_odd : (d : ℕ) (s : Bool) (q k l : ℕ) → neg (odd d s q k l) ≡ odd d (not s) q k l
unfolding odd neg
neg_odd d s zero k l = refl
neg_odd d s (suc q) k l = refl

neg_tested : (s b : Bool) (x y : Float) → neg x ≡ y → neg (cond b x (inf s)) ≡ cond b y (inf (not s))
unfolding neg
neg_tested s true x y h = h
neg_tested s false x y h = refl

neg_units : (f : Format) (s : Bool) (q k : ℕ) → neg (units f s q k) ≡ units f (not s) q k
unfolding units
neg_units f s q k =
    neg_tested s (ltb (q * 2 ^ k) (2 ^ (low f + suc (emax f)))) _ _ (neg_odd (suc (prec f)) s q k (low f))

pub neg_round : (f : Format) (s : Bool) (a c : ℕ) → neg (round f s a c) ≡ round f (not s) a c
unfolding round
neg_round f s a c = neg_units f s _ _

-- ---- the rest of a zero is that zero

pub zero_rest : (s : Bool) (e : ℤ) → T (fits binary64 (fin s 0 e)) → signed_rest (fin s 0 e) ≡ fin s 0 e
unfolding fits signed_rest rem of_bits
zero_rest true (pos zero) t = refl
zero_rest false (pos zero) t = refl
zero_rest s (pos (suc k)) t = absurd (omega (arith, eqb→eq (2 ^ suc k * 1) 1 t, pow-suc 2 k))
zero_rest s (negsuc k) t = absurd (omega (arith, eqb→eq (1 * 2 ^ suc k) 1 t, pow-suc 2 k))

-- ---- half of a double is a double

pub half_fits : (x : Float) → T (fits binary64 (mul binary64 x (of_bits binary64 0x3fe0_0000_0000_0000)))
half_fits x = mul-fits binary64 x (of_bits binary64 0x3fe0_0000_0000_0000)
