use Rattle.verdict_laws.proofs.Twice.{all_plain}
use Rattle.verdict_laws.proofs.written_again.folds_to_equal.Goals as goal

pub returns : goal.returns
returns c built_in first again_first texts table own rules = all_plain built_in first again_first texts table own rules
