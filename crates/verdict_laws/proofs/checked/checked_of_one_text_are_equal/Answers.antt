use Rattle.verdict_laws.proofs.CallsEqual.{schemas_of_one_text, documents_of_one_text}
use Rattle.verdict_laws.proofs.checked.checked_of_one_text_are_equal.Goals as goal

pub returns-clause-schemas : goal.returns-clause-schemas
returns-clause-schemas c = schemas_of_one_text

pub returns-clause-documents : goal.returns-clause-documents
returns-clause-documents c = documents_of_one_text
