use Rattle.verdict_laws.proofs.EqualAfter.{equal_after}
use Rattle.verdict_laws.proofs.rearranging.equal_schemas_stay_equal.Goals as goal

pub returns : goal.returns
returns c = equal_after
