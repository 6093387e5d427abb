-- `pgm::lines::put_header` meets its contract: a line behind the other.
use Prim.Native.Nat.{ℕ}
use mathlib.Core.List.{List, ◌++◌}
use mathlib.Core.Path.{refl, ap}
use native.Mathlib.Omega.{arith}
use lib.ListN.{drop}
use Rattle.image.specs.Call.{Appended}
use Rattle.image.proofs.Appending.{appended_then, appended_front}
use Rattle.pgm.specs.Write.{magic_line, number_line}
use Rattle.pgm.proofs.lines.put_header.Goals as goal

pub returns : goal.returns
returns c =
    let out = c.args.out.now in
    let first : Appended magic_line 0 out (c.copy_from_slice.new.self ++ drop 3 out) 3 =
    record { behind = refl; bytes = ap (λ (xs : List ℕ). xs ++ drop 3 out) c.copy_from_slice.ensures.after } in
    let second : Appended (magic_line ++ number_line c.args.width) 0 out c.put_number-second.new.out
    c.put_number-second.result =
    appended_then (omega arith) first c.put_number-second.ensures in
    let third : Appended (magic_line ++ number_line c.args.width ++ number_line c.args.height) 0 out
    c.put_number-third.new.out c.put_number-third.result =
    appended_then (omega arith) second c.put_number-third.ensures in
    appended_front (appended_then (omega arith) third c.put_number.ensures)
