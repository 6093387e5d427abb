-- `resize::box_downscale_half` meets its contract: the refusals, then one halving.
use Rattle.image.proofs.Pair.{at_laid}
use Rattle.resize.proofs.Sides.{side_one}
use Rattle.resize.proofs.box_downscale_half.Goals as goal

pub half_rows-requires-clause-laid_2 : goal.half_rows-requires-clause-laid_2
half_rows-requires-clause-laid_2 c =
    let l = at_laid c.in_ok-check_halving.ensures.laid.target in
    rw (c.layout.ensures, c.layout-2.ensures, side_one c.args.src.width, side_one c.args.src.height) at l
