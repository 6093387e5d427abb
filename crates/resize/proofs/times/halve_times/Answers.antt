-- `resize::times::halve_times` meets its contract: a copy, the only halving, or the first and then the others.
use Rattle.std.proofs.Common.{◌≡◌, ◌+◌, ◌-◌, arith}
use Rattle.image.specs.Picture.{pixel}
use Rattle.resize.proofs.Steps.{rooms_beside, whole_laid, once_laid, last_laid, half_laid}
use Rattle.resize.proofs.Steps.{painted_none, painted_once, painted_more}
use Rattle.resize.proofs.times.halve_times.Goals as goal

pub copy_rows-requires-clause-laid_dst : goal.copy_rows-requires-clause-laid_dst
copy_rows-requires-clause-laid_dst c = whole_laid _ _ _ c.requires.laid_2 c.if-count-eq0.true

pub returns-then-count-eq0 : goal.returns-then-count-eq0
returns-then-count-eq0 c =
    let a = c.args in
    painted_none (pixel a.src.«data».now a.src.stride) a.count a.src.width a.src.height a.dst_stride c.if-count-eq0.true
    c.copy_rows.ensures

pub half_rows-requires-clause-laid_2 : goal.half_rows-requires-clause-laid_2
half_rows-requires-clause-laid_2 c = once_laid _ _ _ c.requires.laid_2 c.if-count-eq1.true

pub returns-then-count-eq1 : goal.returns-then-count-eq1
returns-then-count-eq1 c =
    let a = c.args in
    painted_once (pixel a.src.«data».now a.src.stride) a.count a.src.width a.src.height a.dst_stride
    c.if-count-eq1.true c.half_rows.ensures

-- two halvings or more
pub half_rows-requires-2-clause-laid_2 : goal.half_rows-requires-2-clause-laid_2
half_rows-requires-2-clause-laid_2 c =
    let is : c.args.count ≡ c.args.count - 2 + 1 + 1 = omega arith in
    let l = c.requires.laid in
    half_laid _ _ _ _ is l.width_most l.height_most (omega (arith, c.split_at_mut-front.ensures.front_len))
    c.requires.laid_2

pub halve_on-requires-clause-laid : goal.halve_on-requires-clause-laid
halve_on-requires-clause-laid c =
    let is : c.args.count ≡ c.args.count - 2 + 1 + 1 = omega arith in
    let l = c.requires.laid in
    rw c.half_rows-2.ensures.same_length
    (half_laid _ _ _ _ is l.width_most l.height_most (omega (arith, c.split_at_mut-front.ensures.front_len))
    c.requires.laid_2)

pub halve_on-requires-clause-laid_2 : goal.halve_on-requires-clause-laid_2
halve_on-requires-clause-laid_2 c =
    let is : c.args.count ≡ c.args.count - 2 + 1 + 1 = omega arith in
    last_laid _ _ _ _ is c.requires.laid_2

pub halve_on-requires-clause-other_len : goal.halve_on-requires-clause-other_len
halve_on-requires-clause-other_len c =
    omega (
      arith,
      c.requires.scratch_len,
      c.split_at_mut-front.ensures.back_len,
      rooms_beside c.args.src.width c.args.src.height,
    )

pub returns : goal.returns
returns c =
    let a = c.args in
    let is : a.count ≡ a.count - 2 + 1 + 1 = omega arith in
    let l = c.requires.laid in
    painted_more a.count (a.count - 2 + 1) a.src.width a.src.height is (pixel a.src.«data».now a.src.stride) a.dst_stride
    (half_laid _ _ _ _ is l.width_most l.height_most (omega (arith, c.split_at_mut-front.ensures.front_len))
    c.requires.laid_2)
    c.half_rows-2.ensures c.halve_on.ensures
