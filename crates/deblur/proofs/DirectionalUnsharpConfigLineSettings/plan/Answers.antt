-- `DirectionalUnsharpConfig::plan` meets its contract.
use native.Mathlib.Omega.{arith}
use Rattle.floats.specs.Factor.{max_gain}
use Rattle.deblur.proofs.Along.{factor_small, unsharp_kernel}
use Rattle.deblur.proofs.DirectionalUnsharpConfigLineSettings.plan.Goals as goal

pub line_kernel-kernel-requires : goal.line_kernel-kernel-requires
line_kernel-kernel-requires c =
    factor_small max_gain c.args.self.gain (omega arith) c.in_ok-check_factor.ensures.taken

pub returns-clause-taken : goal.returns-clause-taken
returns-clause-taken c =
    let s = c.args.self in
    rw c.line_kernel-kernel.ensures
    (unsharp_kernel c.in_ok-direction.ensures.taken c.requires.0 c.requires.1 s.gain s.border
    c.in_ok-check_factor.ensures.taken)
