use Rattle.verdict_laws.proofs.CallsAlike.{documents_over_equal}
use Rattle.verdict_laws.proofs.checked.equal_schemas_check_alike.Goals as goal

pub returns : goal.returns
returns c = documents_over_equal
