use Rattle.verdict_laws.proofs.Schemas.{schemas}
use Rattle.verdict_laws.proofs.Documents.{documents}
use Rattle.verdict_laws.proofs.verdicts.accepted_texts_can_be_written.Goals as goal

pub returns-clause-schemas : goal.returns-clause-schemas
returns-clause-schemas c = schemas

pub returns-clause-documents : goal.returns-clause-documents
returns-clause-documents c = documents
