-- `floats::round_q16` meets its contract: the product counts the halves exactly, and (halves + 1) / 2 is q.
use Rattle.std.proofs.Common.{◌≡◌, ℕ, ◌+◌, ◌*◌, ◌/◌, T, false, pos, ap, ◌∙◌, arith}
use denote.Floats.{passes}
use lib.Ieee.{Float, of_bits, binary64, fin, fits, mul, to_unsigned}
use lib.Ieee.Positive.{num, den}
use Rattle.floats.specs.Factor.{within}
use Rattle.floats.proofs.Factor.{halves, halves_le, halves_rounded}
use Rattle.floats.proofs.round_q16.Goals as goal

pub truncating_f64_to_u64-halves-requires-clause-lower_bound : goal.truncating_f64_to_u64-halves-requires-clause-lower_bound
unfolding of_bits
truncating_f64_to_u64-halves-requires-clause-lower_bound c =
    (halves c.args.factor (passes (fits binary64 c.args.factor) c.well_formed.0.1) c.requires).over

pub truncating_f64_to_u64-halves-requires-clause-upper_bound : goal.truncating_f64_to_u64-halves-requires-clause-upper_bound
unfolding of_bits
truncating_f64_to_u64-halves-requires-clause-upper_bound c =
    (halves c.args.factor (passes (fits binary64 c.args.factor) c.well_formed.0.1) c.requires).under

counted : (x : Float) → T (fits binary64 x) → T (within 255 x)
    → (n : ℕ) → n ≡ to_unsigned 64 (mul binary64 x (fin false 1 (pos 17))) → n ≡ 131072 * num x / den x
counted x f t n cut = cut ∙ (halves x f t).whole

pub overflow_add-result : goal.overflow_add-result
unfolding of_bits
overflow_add-result c =
    let x = c.args.factor in
    let f = passes (fits binary64 x) c.well_formed.0.1 in
    let n = c.truncating_f64_to_u64-halves in
    omega (arith, counted x f c.requires n.result n.ensures, halves_le x c.requires)

pub overflow_cast-result : goal.overflow_cast-result
unfolding of_bits
overflow_cast-result c =
    let x = c.args.factor in
    let f = passes (fits binary64 x) c.well_formed.0.1 in
    let n = c.truncating_f64_to_u64-halves in
    omega (arith, counted x f c.requires n.result n.ensures, halves_le x c.requires)

pub returns : goal.returns
unfolding of_bits
returns c =
    let x = c.args.factor in
    let f = passes (fits binary64 x) c.well_formed.0.1 in
    let n = c.truncating_f64_to_u64-halves in
    ap (λ (w : ℕ). (w + 1) / 2) (counted x f c.requires n.result n.ensures) ∙ halves_rounded x
