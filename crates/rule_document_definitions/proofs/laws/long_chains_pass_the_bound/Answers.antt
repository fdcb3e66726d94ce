use Rattle.rule_document_definitions.proofs.Merges.{bound_passed}
use Rattle.rule_document_definitions.proofs.laws.long_chains_pass_the_bound.Goals as goal

pub returns : goal.returns
returns c = bound_passed
