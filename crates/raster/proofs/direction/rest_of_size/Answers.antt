-- `direction::rest_of_size` meets its contract: the rest of the whole part, and below 2^53 what stands after it.
use Rattle.std.proofs.Common.{◌^◌, ◌∙◌, le→leb, arith}
use denote.Floats.{passes}
use lib.Ieee.{binary64, of_bits, fits, in_float}
use Rattle.raster.proofs.Rest.{below_limit, from_limit, small_cut, small_whole, small_rest, large_rest}
use Rattle.raster.proofs.direction.rest_of_size.Goals as goal

pub truncating_f64_to_u64-whole-requires-clause-lower_bound :
    goal.truncating_f64_to_u64-whole-requires-clause-lower_bound
unfolding of_bits
truncating_f64_to_u64-whole-requires-clause-lower_bound c =
    (small_cut c.args.x c.requires (below_limit c.args.x c.requires c.if-x.true)).over

pub truncating_f64_to_u64-whole-requires-clause-upper_bound :
    goal.truncating_f64_to_u64-whole-requires-clause-upper_bound
unfolding of_bits
truncating_f64_to_u64-whole-requires-clause-upper_bound c =
    (small_cut c.args.x c.requires (below_limit c.args.x c.requires c.if-x.true)).under

pub int_to_float-result-then-x : goal.int_to_float-result-then-x
unfolding in_float of_bits
int_to_float-result-then-x c =
    let x = c.args.x in
    let l = below_limit x c.requires c.if-x.true in
    let w = c.truncating_f64_to_u64-whole in
    le→leb w.result (2 ^ 53) (omega (arith, w.ensures ∙ (small_cut x c.requires l).whole, small_whole x c.requires l))

pub returns-then-x : goal.returns-then-x
unfolding of_bits
returns-then-x c =
    let x = c.args.x in
    let l = below_limit x c.requires c.if-x.true in
    let w = c.truncating_f64_to_u64-whole in
    small_rest x (passes (fits binary64 x) c.well_formed.0.1) c.requires l c.whole_rest-rest.result w.result c.whole_rest-rest.ensures
    (w.ensures ∙ (small_cut x c.requires l).whole)

pub returns : goal.returns
unfolding of_bits
returns c =
    let x = c.args.x in
    large_rest x (passes (fits binary64 x) c.well_formed.0.1) c.requires (from_limit x c.requires c.if-x.false)
    c.whole_rest-rest.result c.whole_rest-rest.ensures
