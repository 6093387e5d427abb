-- `pgm::write` meets its contract: the refusals, the header, the pixels.
use Rattle.std.proofs.Common.{refl, arith}
use Rattle.image.specs.View.{seen}
use Rattle.image.proofs.Accepted.{accepted, area_most}
use Rattle.pgm.proofs.Digits.{count_most, length_header}
use Rattle.pgm.proofs.Writing.{write_short, write_whole}
use Rattle.pgm.proofs.write.Goals as goal

pub overflow_add-end : goal.overflow_add-end
overflow_add-end c =
    let src = c.args.src in
    omega (
      arith,
      area_most c.in_ok-check.ensures.laid,
      c.header_length-start.ensures,
      length_header src.width src.height,
      count_most src.width,
      count_most src.height,
    )

pub returns-then-out-end : goal.returns-then-out-end
returns-then-out-end c =
    write_short (seen c.args.src) _ (accepted c.in_ok-check.ensures.laid) c.header_length-start.ensures refl
    c.if-out-end.true

pub returns : goal.returns
returns c =
    write_whole (seen c.args.src) _ (accepted c.in_ok-check.ensures.laid) c.header_length-start.ensures refl
    c.if-out-end.false c.put_header.ensures c.put_pixels.ensures
