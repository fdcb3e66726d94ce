use Rattle.rule_document_definitions.proofs.ReadFacts.{read_fields_merge}
use Rattle.rule_document_definitions.proofs.laws.read_fields_merge.Goals as goal

pub returns : goal.returns
returns c = read_fields_merge
