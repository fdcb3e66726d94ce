use Rattle.rule_document_definitions.proofs.Same.{same_document_verdict, same_bounds, same_field_set_verdict, same_verdict_alone}
use Rattle.rule_document_definitions.proofs.laws.equal_documents_same_verdict.Goals as goal

pub returns-clause-verdict : goal.returns-clause-verdict
returns-clause-verdict c = same_document_verdict

pub returns-clause-bounds : goal.returns-clause-bounds
returns-clause-bounds c = same_bounds

pub returns-clause-field_sets : goal.returns-clause-field_sets
returns-clause-field_sets c = same_field_set_verdict

pub returns-clause-alone : goal.returns-clause-alone
returns-clause-alone c = same_verdict_alone
