use Rattle.std.proofs.Common.{◌≡◌, ℕ, ◌<◌}
use Rattle.line.specs.Kernel.{bytes_on, line_at}
use Rattle.line.proofs.kernel.gather.Given as goal

abbrev pub invariant-loop-i : goal.invariant-loop-i
invariant-loop-i l =
    record {
      observed : (j : ℕ) → j < l.i → line_at 0 l.scratch j ≡ bytes_on l.data l.places.start l.places.step j;
      estimate : (j : ℕ) → j < l.i → line_at l.places.len l.scratch j ≡ bytes_on l.data l.places.start l.places.step j;
    }
