use Rattle.verdict_laws.proofs.AcceptedAgain.{accepted_again}
use Rattle.verdict_laws.proofs.written_again.accepted_again.Goals as goal

pub returns : goal.returns
returns c built_in first again_first texts table own rules = accepted_again built_in first again_first texts table own rules
