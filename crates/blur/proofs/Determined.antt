-- The contract of the length calls determines the answer; the records are their scratch.
use lib.ListN.{length}
use Rattle.std.specs.Prelude.{Option}
use Rattle.image.specs.Call.{Gray8, told, same}
use Rattle.image.specs.Determined.{Determines}
use Rattle.image.proofs.Determined.{outcome_determines, nothing_one}
use Rattle.image.proofs.Told.{told_one}
use Rattle.raster.specs.declared.direction.RasterDirection4.{RasterDirection4}
use Rattle.blur.specs.declared.length.LineLengthConfig.{LineLengthConfig}
use Rattle.blur.specs.Length.{snapped_decision, SnappedMeasured}

pub measured_determined : (src : Gray8) (s : Option RasterDirection4) (config : LineLengthConfig)
    → Determines {D = Unit {0}} length
    (λ swings swings' _ answer. SnappedMeasured src s config swings swings' answer)
measured_determined src s config swings swings' other other' new new' answer answer' e o p =
    let d = outcome_determines length (snapped_decision src s config) same (λ _ _ _. Unit {0}) nothing_one tt
    swings swings' other other' new new' (told answer) (told answer') e o p in
    (told_one answer answer' d.0, d.1)
