-- `direction::whole_rest` meets its contract: below 2^53 by its whole part, and from there by its half's.
use Rattle.std.proofs.Common.{◌%◌, rules, ap, ◌∙◌}
use denote.Floats.{passes}
use lib.Ieee.{binary64, of_bits, fits}
use Rattle.raster.proofs.Rest.{below_limit, from_limit, small_cut, half_positive, half_smaller, half_rest}
use Rattle.raster.proofs.direction.+whole_rest.Goals as goal

pub truncating_f64_to_u64-requires-clause-lower_bound :
    goal.truncating_f64_to_u64-requires-clause-lower_bound
unfolding of_bits
truncating_f64_to_u64-requires-clause-lower_bound t c =
    (small_cut c.args.x c.requires (below_limit c.args.x c.requires c.if-x.true)).over

pub truncating_f64_to_u64-requires-clause-upper_bound :
    goal.truncating_f64_to_u64-requires-clause-upper_bound
unfolding of_bits
truncating_f64_to_u64-requires-clause-upper_bound t c =
    (small_cut c.args.x c.requires (below_limit c.args.x c.requires c.if-x.true)).under

pub returns-then-x : goal.returns-then-x
unfolding of_bits
returns-then-x t c =
    ap (◌% 180) (c.truncating_f64_to_u64.ensures ∙ (small_cut c.args.x c.requires (below_limit c.args.x c.requires c.if-x.true)).whole)

pub whole_rest-half-requires : goal.whole_rest-half-requires
unfolding of_bits
whole_rest-half-requires t c =
    let x = c.args.x in
    let f = passes (fits binary64 x) c.well_formed.0.1 in
    let l = from_limit x c.requires c.if-x.false in
    let smaller = half_smaller x f c.requires l in
    (search rules, half_positive x f c.requires l)

pub returns : goal.returns
unfolding of_bits
returns t c =
    let x = c.args.x in
    let f = passes (fits binary64 x) c.well_formed.0.1 in
    let l = from_limit x c.requires c.if-x.false in
    half_rest x f c.requires l c.whole_rest-half.result c.whole_rest-half.ensures
