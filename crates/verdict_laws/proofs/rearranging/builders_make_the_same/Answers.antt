use Rattle.verdict_laws.proofs.ReadTexts.{rearranging, cutting}
use Rattle.verdict_laws.proofs.rearranging.builders_make_the_same.Goals as goal

pub returns-clause-rearranged : goal.returns-clause-rearranged
returns-clause-rearranged c = rearranging

pub returns-clause-cut : goal.returns-clause-cut
returns-clause-cut c = cutting
