use Rattle.rule_document_definitions.proofs.Merges.{fields_merge}
use Rattle.rule_document_definitions.proofs.laws.settled_fields_merge.Goals as goal

pub returns : goal.returns
returns c = fields_merge
