-- `line::mean::floor_by_mul` meets its contract.
use Rattle.line.proofs.KernelSum.{Dividing, quotient_fits, quotient_narrows, quotient_lowers, quotient_floors}
use Rattle.line.proofs.mean.floor_by_mul.Goals as goal

dividing : (c : goal.Start) → Dividing c.args.sum c.args.blur_length c.args.reciprocal
dividing c =
    record {
      sum_fits = c.ranges.sum;
      long = c.requires.0.long;
      bounded = c.requires.0.bounded;
      units = c.requires.0.units c.requires.1;
      small = c.requires.2;
    }

pub overflow_mul-result : goal.overflow_mul-result
overflow_mul-result c = quotient_fits (dividing c)

pub overflow_cast-result : goal.overflow_cast-result
overflow_cast-result c = quotient_narrows (dividing c)

pub overflow_sub-result : goal.overflow_sub-result
overflow_sub-result c = quotient_lowers (dividing c)

pub returns : goal.returns
returns c = quotient_floors (dividing c)
