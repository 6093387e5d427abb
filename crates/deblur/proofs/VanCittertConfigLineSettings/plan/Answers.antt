-- `VanCittertConfig::plan` meets its contract.
use native.Mathlib.Omega.{arith}
use Rattle.floats.specs.Factor.{max_relaxation}
use Rattle.deblur.proofs.Along.{factor_small, restoration_kernel}
use Rattle.deblur.proofs.VanCittertConfigLineSettings.plan.Goals as goal

pub line_kernel-kernel-requires : goal.line_kernel-kernel-requires
line_kernel-kernel-requires c =
    factor_small max_relaxation c.args.self.relaxation (omega arith) c.in_ok-check_iterated.ensures.taken.0

pub returns-clause-taken : goal.returns-clause-taken
returns-clause-taken c =
    let s = c.args.self in
    let taken = c.in_ok-check_iterated.ensures.taken in
    rw c.line_kernel-kernel.ensures
    (restoration_kernel c.in_ok-direction.ensures.taken c.requires.0 c.requires.1 s.relaxation s.border taken.0 taken.1)
