use Rattle.verdict_laws.proofs.Rearranged.{cutting}
use Rattle.verdict_laws.proofs.verdicts.cut_texts_get_the_same_verdict.Goals as goal

pub returns : goal.returns
returns c = cutting
