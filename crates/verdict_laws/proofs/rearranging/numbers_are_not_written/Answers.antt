use Rattle.verdict_laws.proofs.Cut.{not_written}
use Rattle.verdict_laws.proofs.rearranging.numbers_are_not_written.Goals as goal

pub returns : goal.returns
returns c = not_written
