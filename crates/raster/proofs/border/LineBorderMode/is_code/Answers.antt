-- `LineBorderMode::is_code` meets its contract.
use Rattle.raster.specs.Border.{is_border}
use Rattle.raster.proofs.border.LineBorderMode.is_code.Goals as goal

pub returns : goal.returns
unfolding is_border
returns c = cc
