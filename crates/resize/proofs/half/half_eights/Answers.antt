-- `resize::half::half_eights` meets its contract: the first i eights are written.
use Rattle.std.proofs.Common.{◌≡◌, ◌+◌, ◌*◌, arith}
use Rattle.numbers.proofs.Places.{front_none}
use Rattle.numbers.proofs.Written.{written_none, written_join}
use Rattle.resize.proofs.Means.{front_join}
use Rattle.resize.proofs.half.half_eights.Goals as goal

pub loop-i-init : goal.loop-i-init
loop-i-init c = written_none (λ j _. front_none j)

pub loop-i-preserved : goal.loop-i-preserved
loop-i-preserved c =
    let k = c.loop-i in
    let next : 8 * (k.i + 1) ≡ 8 * k.i + 8 = omega arith in
    rw next (written_join k.invariant c.half_eight.ensures (front_join (8 * k.i) 8))
