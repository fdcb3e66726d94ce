use Rattle.verdict_laws.proofs.EqualTexts.{equal_schema_texts, equal_document_texts}
use Rattle.verdict_laws.proofs.road_back.equal_written_texts_are_of_equal_trees.Goals as goal

pub returns-clause-schemas : goal.returns-clause-schemas
returns-clause-schemas c = equal_schema_texts

pub returns-clause-documents : goal.returns-clause-documents
returns-clause-documents c = equal_document_texts
