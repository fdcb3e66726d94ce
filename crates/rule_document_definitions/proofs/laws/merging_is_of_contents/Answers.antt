use Rattle.rule_document_definitions.proofs.Same.{merges_by_contents}
use Rattle.rule_document_definitions.proofs.laws.merging_is_of_contents.Goals as goal

pub returns : goal.returns
returns c = merges_by_contents
