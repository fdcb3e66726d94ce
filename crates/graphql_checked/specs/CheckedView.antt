-- What contracts see of a checked schema and of a checked document: their parts, and these as plain values.
use Rattle.std.specs.Prelude.{ℕ}
use Rattle.tree_definitions.specs.DefinitionTree.{document_tree}
use Rattle.tree_definitions.specs.declared.document.Document.{Document}
use Rattle.schema_building.specs.SourcesView.{sources_view}
use Rattle.book_validity.specs.in_schema.SchemaOf.{schema_tree}
use Rattle.book_validity.specs.in_schema.declared.schema.Schema.{Schema}
use Rattle.document_typed_operations.specs.TypedDocument.{typed_document_tree}
use Rattle.document_typed_operations.specs.declared.document.ExecutableDocument.{ExecutableDocument}
use Rattle.book_validity.specs.in_typing.DocumentView.{meant_document}
use Rattle.book_validity.specs.in_verdict_definitions.Texts.{SourceText}
use Rattle.checker_schemas.specs.CheckedSchemaValue.{CheckedSchemaValue}
use Rattle.graphql_checked.specs.CheckerValue.{CheckedDocumentValue}

-- how many brackets may be open at once, the number of a document, the schema for documents, and what is written
pub record CheckedSchemaParts : Type 0 where
  pub nesting : ℕ
  pub number : ℕ
  pub schema : Schema
  pub written : Document

pub record CheckedDocumentParts : Type 0 where
  pub schema : CheckedSchemaParts
  pub text : SourceText
  pub document : ExecutableDocument

abbrev pub schema_value : CheckedSchemaParts → CheckedSchemaValue
schema_value s = record { nesting = s.nesting; number = s.number; schema = schema_tree s.schema; sources = sources_view s.schema.sources; written = document_tree s.written }

abbrev pub document_value : CheckedDocumentParts → CheckedDocumentValue
document_value d = record { schema = schema_value d.schema; text = d.text; document = meant_document (typed_document_tree d.document) }
