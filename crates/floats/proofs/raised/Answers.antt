-- `floats::raised` meets its contract: the whole part, and one more where it is below x.
use Rattle.std.proofs.Common.{◌≡◌, ℕ, ◌+◌, ◌*◌, ◌/◌, ◌^◌, ◌≤◌, T, ltb, pos, sym, ap, ◌∙◌, arith, le→leb, ltb-false, ltb-true}
use lib.Ieee.{Float, binary64, lt, of_int, in_float, to_unsigned}
use lib.Ieee.Positive.{num, den, den_pos}
use Rattle.floats.specs.Factor.{within}
use Rattle.floats.proofs.Odd.{raised_cut, raised_le, raised_test, ceiling_next, ceiling_same}
use Rattle.floats.proofs.raised.Goals as goal

pub truncating_f64_to_u64-whole-requires-clause-lower_bound : goal.truncating_f64_to_u64-whole-requires-clause-lower_bound
truncating_f64_to_u64-whole-requires-clause-lower_bound c = (raised_cut c.args.x c.requires).over

pub truncating_f64_to_u64-whole-requires-clause-upper_bound : goal.truncating_f64_to_u64-whole-requires-clause-upper_bound
truncating_f64_to_u64-whole-requires-clause-upper_bound c = (raised_cut c.args.x c.requires).under

module _ (x : Float) (t : T (within (2 ^ 53) x)) (w : ℕ) (cut : w ≡ to_unsigned 64 x) where
  -- the whole part of x, and that it is at most 2 ^ 53
  whole_is : w ≡ num x / den x
  whole_is = cut ∙ (raised_cut x t).whole

  whole_le : w ≤ 2 ^ 53
  whole_le = omega (arith, whole_is, raised_le x t)

  -- the test, on the numbers
  test-is : lt (of_int binary64 (pos w)) x ≡ ltb (num x / den x * den x) (num x)
  test-is = ap (λ (w : ℕ). lt (of_int binary64 (pos w)) x) whole_is ∙ raised_test x t

pub int_to_float-whole : goal.int_to_float-whole
unfolding in_float
int_to_float-whole c =
    let whole = c.truncating_f64_to_u64-whole in
    le→leb whole.result (2 ^ 53) (whole_le c.args.x c.requires whole.result whole.ensures)

pub overflow_add-result : goal.overflow_add-result
overflow_add-result c =
    let whole = c.truncating_f64_to_u64-whole in
    omega (arith, whole_le c.args.x c.requires whole.result whole.ensures)

pub returns-then-whole-x : goal.returns-then-whole-x
returns-then-whole-x c =
    let x = c.args.x in
    let whole = c.truncating_f64_to_u64-whole in
    ap (λ (w : ℕ). w + 1) (whole_is x c.requires whole.result whole.ensures)
    ∙ ceiling_next (num x) (den x) (den_pos x)
    (ltb-true (num x / den x * den x) (num x)
    (sym (test-is x c.requires whole.result whole.ensures) ∙ c.if-whole-x.true))

pub returns : goal.returns
returns c =
    let x = c.args.x in
    let whole = c.truncating_f64_to_u64-whole in
    whole_is x c.requires whole.result whole.ensures
    ∙ ceiling_same (num x) (den x) (den_pos x)
    (ltb-false (num x / den x * den x) (num x)
    (sym (test-is x c.requires whole.result whole.ensures) ∙ c.if-whole-x.false))
