use Rattle.rule_document_definitions.proofs.Merges.{going_agrees, going_breaks}
use Rattle.rule_document_definitions.proofs.laws.fields_of_lists_meet.Goals as goal

pub returns-clause-agree : goal.returns-clause-agree
returns-clause-agree c = going_agrees

pub returns-clause-breaks : goal.returns-clause-breaks
returns-clause-breaks c = going_breaks
