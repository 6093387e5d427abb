-- `pgm::read` meets its contract.
use Rattle.std.proofs.Common.{◌∙◌}
use Rattle.pgm.proofs.Headers.{answer_given, answer_broken}
use Rattle.pgm.proofs.Parsed.{pixels_within}
use Rattle.pgm.proofs.read.Goals as goal

pub returns-in_default : goal.returns-in_default
returns-in_default c = answer_broken _ c.in_default.ensures

pub picture_of-requires : goal.picture_of-requires
picture_of-requires c = pixels_within c.args.file.now _ c.in-Some.ensures

pub returns : goal.returns
returns c = c.picture_of.ensures ∙ answer_given c.args.file.now _ c.in-Some.ensures
