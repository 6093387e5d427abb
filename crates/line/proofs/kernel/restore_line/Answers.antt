-- `line::kernel::restore_line` meets its contract.
use borrow.Author.Rules.{rules}
use Prim.Native.Nat.{◌+◌, ◌*◌, ◌≤◌}
use native.Mathlib.Omega.{arith}
use lib.ListN.{length}
use Rattle.raster.specs.Border.{border_value}
use Rattle.line.specs.Kernel.{bytes_on}
use Rattle.line.proofs.LineWindow.{Bounded}
use Rattle.line.proofs.KernelIteration.{iterated_none, iteration_asked, iterated_on}
use Rattle.line.proofs.kernel.restore_line.Goals as goal

pub loop-k-init : goal.loop-k-init
loop-k-init c = iterated_none c.args.kernel c.gather.ensures

pub iterate_line-requires : goal.iterate_line-requires
iterate_line-requires c =
    let line = c.requires.asked in
    let places = c.args.places in
    let value : border_value c.args.kernel.border ≤ 255 = search rules in
    let samples = bytes_on c.args.data.now places.start places.step in
    let bytes : Bounded places.len 255 samples =
    λ i h. omega (arith, c.type_inv.data (places.start + i * places.step))
    in
    let room : 3 * places.len ≤ length c.loop-k.scratch = omega (arith, line.room) in
    iteration_asked c.args.kernel places.len line.some value samples c.loop-k.invariant line.short room
    c.requires.taken c.loop-k-test.true bytes

pub loop-k-preserved : goal.loop-k-preserved
loop-k-preserved c =
    let value : border_value c.args.kernel.border ≤ 255 = search rules in
    let places = c.args.places in
    let samples = bytes_on c.args.data.now places.start places.step in
    iterated_on c.args.kernel places.len c.requires.asked.some value samples c.loop-k.invariant c.iterate_line.ensures
