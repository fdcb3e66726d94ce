use Rattle.verdict_laws.proofs.Rearranged.{rearranging}
use Rattle.verdict_laws.proofs.verdicts.rearranged_texts_get_the_same_verdict.Goals as goal

pub returns : goal.returns
returns c = rearranging
