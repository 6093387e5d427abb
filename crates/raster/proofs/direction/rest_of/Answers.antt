-- `direction::rest_of` meets its contract: by the sign of the degrees.
use Rattle.std.proofs.Common.{sym, ap, ◌∙◌}
use denote.Floats.{passes}
use lib.Ieee.{binary64, fits, neg}
use Rattle.floats.proofs.Finite.{is_finite_is}
use Rattle.raster.proofs.Rest.{infinite_rest, rest_of_zero, negative_size, positive_size, negative_rest}
use Rattle.raster.proofs.direction.rest_of.Goals as goal

pub returns-then-not-is_finite : goal.returns-then-not-is_finite
returns-then-not-is_finite c = infinite_rest c.args.degrees (sym (is_finite_is c.args.degrees) ∙ sym c.is_finite.ensures.value ∙ c.if-not-is_finite.true)

pub returns-then-degrees : goal.returns-then-degrees
returns-then-degrees c =
    let x = c.args.degrees in
    rest_of_zero x (passes (fits binary64 x) c.well_formed.0.1) (sym (is_finite_is c.args.degrees) ∙ sym c.is_finite.ensures.value ∙ c.if-not-is_finite.false) c.if-degrees.true

pub rest_of_size-requires : goal.rest_of_size-requires
rest_of_size-requires c = negative_size c.args.degrees (sym (is_finite_is c.args.degrees) ∙ sym c.is_finite.ensures.value ∙ c.if-not-is_finite.false) c.if-degrees-2.true

pub returns-then-degrees-2 : goal.returns-then-degrees-2
returns-then-degrees-2 c =
    let x = c.args.degrees in
    ap neg c.rest_of_size.ensures
    ∙ negative_rest x (negative_size x (sym (is_finite_is c.args.degrees) ∙ sym c.is_finite.ensures.value ∙ c.if-not-is_finite.false) c.if-degrees-2.true)

pub rest_of_size-requires-2 : goal.rest_of_size-requires-2
rest_of_size-requires-2 c =
    positive_size c.args.degrees (sym (is_finite_is c.args.degrees) ∙ sym c.is_finite.ensures.value ∙ c.if-not-is_finite.false) c.if-degrees.false c.if-degrees-2.false
