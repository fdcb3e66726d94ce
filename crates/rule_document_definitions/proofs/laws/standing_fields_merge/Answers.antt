use Rattle.rule_document_definitions.proofs.Merges.{standing_fields_merge}
use Rattle.rule_document_definitions.proofs.laws.standing_fields_merge.Goals as goal

pub returns : goal.returns
returns c = standing_fields_merge
