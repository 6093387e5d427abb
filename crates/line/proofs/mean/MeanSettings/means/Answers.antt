-- `MeanSettings::means` meets its contract.
use borrow.Author.Rules.{rules}
use mathlib.Core.Path.{◌∙◌}
use Prim.Native.Nat.{◌+◌}
use native.Mathlib.Omega.{arith}
use lib.ListN.{set}
use mir.Syntax.{w32, w64}
use mir.Val.{to_z, of_z}
use mir.Facts.{to_z-of_z}
use Rattle.line.specs.Kernel.{MeansWritten}
use Rattle.line.proofs.KernelSum.{told}
use Rattle.line.proofs.KernelMean.{window_size, window_on, sample_kept, means_none, means_next}
use Rattle.line.proofs.mean.MeanSettings.means.Goals as goal

pub loop-p-init : goal.loop-p-init
loop-p-init g c =
    (means_none c.args.self c.requires.asked c.args.start, to_z-of_z c.ranges.first ∙ c.requires.sum)

pub floor_mean-requires : goal.floor_mean-requires
floor_mean-requires g c =
    let a = c.requires.asked in (a.divides, rw c.loop-p.invariant.1 (window_size c.args.self a c.loop-p.p))

pub loop-p-preserved : goal.loop-p-preserved
loop-p-preserved g c =
    let s = c.args.self in
    let a = c.requires.asked in
    let l = c.loop-p in
    let stored : MeansWritten s c.args.start (l.p + 1) c.args.scratch.now
    (set l.scratch (s.n + s.n + l.p) (to_z w32 (of_z w32 c.floor_mean.result)))
    = means_next s a _ l.invariant.0 (omega arith) (omega arith) l.invariant.1
    (told {w = w32} (search rules) c.floor_mean.ensures)
    in (
      stored,
      told {w = w64} (search rules)
          (c.slide-sum.ensures
          ∙ window_on s a l.p l.invariant.1
          (told {w = w32} (search rules) (c.sample-entering.ensures ∙ sample_kept s a stored _))
          (told {w = w32} (search rules) (c.sample-leaving.ensures ∙ sample_kept s a stored _))),
    )
