use Rattle.verdict_laws.proofs.Twice.{written_twice}
use Rattle.verdict_laws.proofs.written_again.written_twice.Goals as goal

pub returns : goal.returns
returns c built_in first again_first texts table own rules = written_twice built_in first again_first texts table own rules
