-- A border that the program holds has a byte as its value: alone, and in a kernel.
use Prim.Native.Nat.{◌≤◌, ◌<◌}
use native.Mathlib.Omega.{arith}
use mathlib.Core.List.{List}
use mir.Val.{Val}
use denote.Laws.{Is}
use denote.Enum.Declared.{row}
use denote.Struct.Declared.{row as Struct-Row}
use Rattle.line.specs.contracts.kernel.LineKernel.{the_type as kernel-type}
use Rattle.line.specs.declared.kernel.LineKernel.{LineKernel}
use Rattle.raster.specs.contracts.border.LineBorderMode.{the_type}
use Rattle.raster.specs.Border.{border_value}
use Rattle.raster.specs.declared.border.LineBorderMode.{LineBorderMode}
use Rattle.raster.specs.declared.border.LineBorderMode.TheVariants.{Replicate, Reflect, Constant, Wrap}

pub border_byte : (b : LineBorderMode) (vs : List Val) → Is (row the_type) b vs → border_value b ≤ 255
border_byte Replicate vs h = omega arith
border_byte Reflect vs h = omega arith
border_byte (Constant v) vs h = let fits : v < 256 = h.1.1.1.1.0.1 in omega arith
border_byte Wrap vs h = omega arith

pub kernel_byte : (k : LineKernel) (vs : List Val) → Is (Struct-Row kernel-type) k vs → border_value k.border ≤ 255
kernel_byte k vs h = border_byte k.border _ h.1.1.1.1.1.0
