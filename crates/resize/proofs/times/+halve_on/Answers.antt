-- `resize::times::halve_on` meets its contract: one halving into the other part, and those behind it by its call of
-- itself.
use Rattle.std.proofs.Common.{◌≡◌, ◌+◌, ◌-◌, arith}
use Rattle.std.proofs.Math.Nat.{le_trans}
use Rattle.image.specs.Picture.{pixel}
use Rattle.image.proofs.Accepted.{tight_area}
use Rattle.resize.proofs.Steps.{quarter_room, once_laid, last_laid, half_laid, painted_once, painted_more}
use Rattle.resize.proofs.times.+halve_on.Goals as goal

pub half_rows-requires-clause-laid_2 : goal.half_rows-requires-clause-laid_2
half_rows-requires-clause-laid_2 t c =
    rw c.new-picture.ensures
    (once_laid (c.args.more + 1) c.args.width c.args.height c.requires.laid_2 (omega arith))

pub returns-then-more-eq0 : goal.returns-then-more-eq0
returns-then-more-eq0 t c =
    let a = c.args in
    painted_once (pixel a.part.now a.width) (a.more + 1) a.width a.height a.dst_stride (omega arith)
    (rw c.new-picture.ensures at c.half_rows.ensures)

pub half_rows-requires-2-clause-laid_2 : goal.half_rows-requires-2-clause-laid_2
half_rows-requires-2-clause-laid_2 t c =
    let l = c.requires.laid in
    let is : c.args.more + 1 ≡ c.args.more - 1 + 1 + 1 = omega arith in
    rw c.new-picture.ensures
    (half_laid _ _ _ _ is l.width_most l.height_most c.requires.other_len c.requires.laid_2)

pub halve_on-requires : goal.halve_on-requires
halve_on-requires t c =
    let a = c.args in
    let l = c.requires.laid in
    let is : a.more + 1 ≡ a.more - 1 + 1 + 1 = omega arith in (
      omega arith,
      (
        rw c.half_rows-2.ensures.same_length
            (half_laid _ _ _ _ is l.width_most l.height_most c.requires.other_len c.requires.laid_2),
        (last_laid _ _ a.width a.height is c.requires.laid_2, le_trans (quarter_room a.width a.height) (tight_area l)),
      ),
    )

pub returns : goal.returns
returns t c =
    let a = c.args in
    let l = c.requires.laid in
    let is : a.more + 1 ≡ a.more - 1 + 1 + 1 = omega arith in
    painted_more (a.more + 1) (a.more - 1 + 1) a.width a.height is (pixel a.part.now a.width) a.dst_stride
    (half_laid _ _ _ _ is l.width_most l.height_most c.requires.other_len c.requires.laid_2)
    (rw c.new-picture.ensures at c.half_rows-2.ensures) c.halve_on.ensures
