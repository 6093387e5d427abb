-- `pgm::lines::put_pixels` meets its contract: rows without gaps are the pixels as a list.
use Rattle.std.proofs.Common.{◌∙◌}
use Rattle.image.specs.Picture.{pixel}
use Rattle.image.proofs.Tight.{painted_list}
use Rattle.pgm.proofs.lines.put_pixels.Goals as goal

pub returns : goal.returns
returns c =
    let src = c.args.src in
    let copied = c.copy_rows.ensures in
    painted_list (pixel src.«data».now src.stride) src.width src.height copied
    (copied.same_length ∙ c.requires.out_len)
