-- Document 01, "Kept, and written anew": configurations that hold their floats, each with its defaults on the type (the
-- Rust's), and what they come to along lines.
use Rattle.std.specs.Prelude.{ℕ, Float, Option}
use Rattle.std.specs.Float.{binary64}
use Rattle.std.specs.Float.Ieee.{of_bits}
use Rattle.floats.specs.Factor.{rounded_q16}
use Rattle.raster.specs.Direction.{from_angle}
use Rattle.raster.specs.declared.border.LineBorderMode.{LineBorderMode}
use Rattle.raster.specs.declared.border.LineBorderMode.TheVariants.{Replicate}
use Rattle.raster.specs.declared.direction.RasterDirection4.{RasterDirection4}
use Rattle.line.specs.declared.kernel.LineKernel.{LineKernel}
use Rattle.deblur.specs.declared.VanCittertConfig.{VanCittertConfig}
use Rattle.deblur.specs.declared.DirectionalUnsharpConfig.{DirectionalUnsharpConfig}
use Rattle.deblur.specs.Refusal.{restoration_refusal, unsharp_refusal}

-- ---- the defaults

abbrev pub default_blur_length : ℕ
default_blur_length = 3

abbrev pub default_iterations : ℕ
default_iterations = 3

-- 1.0
abbrev pub default_relaxation : Float
default_relaxation = of_bits binary64 0x3ff0_0000_0000_0000

-- 1.5
abbrev pub default_gain : Float
default_gain = of_bits binary64 0x3ff8_0000_0000_0000

-- angle 0.0, Replicate
unfoldable pub van_cittert_default : VanCittertConfig
van_cittert_default =
    record {
      theta_radians = of_bits binary64 0;
      blur_length = default_blur_length;
      iterations = default_iterations;
      relaxation = default_relaxation;
      border = Replicate;
    }

-- angle 0.0, Replicate
unfoldable pub unsharp_default : DirectionalUnsharpConfig
unsharp_default =
    record {
      theta_radians = of_bits binary64 0;
      blur_length = default_blur_length;
      gain = default_gain;
      border = Replicate;
    }

-- ---- what settings come to

-- on each line, where q is the factor's
abbrev pub line_kernel : ℕ → Float → ℕ → LineBorderMode → LineKernel
line_kernel L factor iterations border =
    record { blur_length = L; q = rounded_q16 factor; iterations = iterations; border = border }

-- the refusal on a picture of these sides, 0 where there is none; the lines' direction, which settings that are not
-- refused have; and what is done on each
pub record LineFilter : Type 0 where
  pub refusal : ℕ → ℕ → ℕ
  pub direction : Option RasterDirection4
  pub kernel : LineKernel

abbrev pub restoration_of : VanCittertConfig → LineFilter
restoration_of config =
    record {
      refusal = λ width height. restoration_refusal width height config;
      direction = from_angle config.theta_radians;
      kernel = line_kernel config.blur_length config.relaxation config.iterations config.border;
    }

-- one step
abbrev pub unsharp_of : DirectionalUnsharpConfig → LineFilter
unsharp_of config =
    record {
      refusal = λ width height. unsharp_refusal width height config;
      direction = from_angle config.theta_radians;
      kernel = line_kernel config.blur_length config.gain 1 config.border;
    }
