-- The line filters as C has them: settings one by one, a result, and an out-parameter for the direction (document 01,
-- "Restoration and line unsharp").
use Rattle.std.specs.Prelude.{List, ℕ, ℤ, Float, length}
use Rattle.image.specs.Call.{Gray8, number_of, Outcome, WithOuts}
use Rattle.raster.specs.Border.{border_from}
use Rattle.raster.specs.Direction.{direction_index}
use Rattle.deblur.specs.Calls.{filter_decision, FilterWrites, estimate_decision, EstimateWrites}
use Rattle.deblur.specs.Settings.{LineFilter}
use Rattle.deblur.specs.declared.DirectionalUnsharpConfig.{DirectionalUnsharpConfig}
use Rattle.deblur.specs.declared.VanCittertConfig.{VanCittertConfig}

abbrev pub restoration_config : Float → ℕ → ℕ → Float → ℕ → ℕ → VanCittertConfig
restoration_config angle length iterations relaxation border value =
    record {
      theta_radians = angle;
      blur_length = length;
      iterations = iterations;
      relaxation = relaxation;
      border = border_from border value;
    }

abbrev pub unsharp_config : Float → ℕ → Float → ℕ → ℕ → DirectionalUnsharpConfig
unsharp_config angle length gain border value =
    record {
      theta_radians = angle;
      blur_length = length;
      gain = gain;
      border = border_from border value;
    }

-- restoration and line unsharp: 0, or the refusal's number; the direction's number is written beside the pixels
abbrev pub FilteredC : Gray8 → Gray8 → List ℕ → LineFilter → List ℤ → List ℤ → ℕ → ℕ → ℕ → Type 0
FilteredC src dst new f scratch scratch' before after r =
    Outcome (filter_decision src dst f (length scratch)) number_of
    (WithOuts (FilterWrites src dst.stride f.kernel) direction_index) (dst.bytes, before)
    (new, after) scratch scratch' r

-- the estimate call: the same, beside the estimates
abbrev pub EstimateWrittenC : Gray8 → List ℤ → List ℤ → LineFilter → List ℤ → List ℤ → ℕ → ℕ → ℕ → Type 0
EstimateWrittenC src old new f scratch scratch' before after r =
    Outcome (estimate_decision src (length old) f (length scratch)) number_of
    (WithOuts (EstimateWrites src f.kernel) direction_index) (old, before) (new, after) scratch scratch' r
