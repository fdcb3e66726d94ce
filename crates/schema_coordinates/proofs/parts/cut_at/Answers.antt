use Rattle.schema_coordinates.proofs.Cuts.{cut_is}
use Rattle.schema_coordinates.proofs.parts.cut_at.Goals as goal

pub returns : goal.returns
returns c = cut_is c.args.sign c.args.text.now c.split_once.result c.split_once.ensures.cases c.requires
