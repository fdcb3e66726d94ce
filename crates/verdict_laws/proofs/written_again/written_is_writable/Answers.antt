use Rattle.verdict_laws.proofs.OutSome.{written_writable}
use Rattle.verdict_laws.proofs.written_again.written_is_writable.Goals as goal

pub returns : goal.returns
returns c = written_writable
