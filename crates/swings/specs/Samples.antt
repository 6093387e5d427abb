-- The samples that the functions on a line are given.
use Rattle.std.specs.Prelude.{ℕ}
use Rattle.swings.specs.declared.samples.Samples.{Samples}
use Rattle.swings.specs.Line.{sample}

abbrev pub samples_of : Samples → ℕ → ℕ
samples_of x = sample x.bytes.now x.start x.step
