-- `swings::scan::Scanner::next_line`: a line of the plan starts in the bytes.
use native.Mathlib.Omega.{arith}
use Rattle.image.specs.View.{seen}
use Rattle.swings.proofs.Line.{line_starts}
use Rattle.swings.proofs.scan.Scanner.next_line.Goals as goal

pub overflow_mul-result : goal.overflow_mul-result
overflow_mul-result c =
    let a = c.args in
    let starts = line_starts (seen a.self.src) a.self.plan a.self.valid a.line (omega arith) _ c.line_at-first.ensures in
    record { fits = omega arith }

pub overflow_add-result : goal.overflow_add-result
overflow_add-result c =
    let a = c.args in
    let starts = line_starts (seen a.self.src) a.self.plan a.self.valid a.line (omega arith) _ c.line_at-first.ensures in
    record { fits = omega arith }
