-- What contracts see of a checked schema, and when it is that of some texts.
use Rattle.std.specs.Prelude.{◌≡◌, ℕ, List}
use Rattle.graphql_names.specs.Placed.{Place}
use Rattle.schema_types.specs.SchemaTree.{SchemaTree}
use Rattle.checker_calls.specs.in_verdict_definitions.Texts.{SourceText, Tree, Terms, document_number}
use Rattle.checker_calls.specs.in_verdict_definitions.Meaning.{document_schema}
use Rattle.checker_calls.specs.in_verdict_definitions.Judge.{AreSchemasAccepted}
use Rattle.checker_calls.specs.in_verdict_definitions.Out.{Out}
use Rattle.checker_calls.specs.TextSources.{Sources, text_sources}

-- a checked schema: how many brackets may be open at once, the number of a document, the schema over which documents are
-- judged, its sources, and what is written of the schema as it was built
pub record CheckedSchemaValue : Type 0 where
  pub nesting : ℕ
  pub number : ℕ
  pub schema : SchemaTree Place
  pub sources : Sources
  pub written : Tree

-- The checked schema is that of these texts, which are accepted.
pub record IsCheckedSchemaOf (terms : Terms) (schemas : List SourceText) (schema : CheckedSchemaValue) : Type 0 where
  pub accepted : AreSchemasAccepted terms schemas
  pub nesting : schema.nesting ≡ terms.nesting
  pub number : schema.number ≡ document_number terms schemas
  pub for_documents : schema.schema ≡ document_schema terms accepted.judged.trees
  pub sources : schema.sources ≡ text_sources terms.first_text schemas
  pub written : schema.written ≡ Out terms accepted.judged.trees

-- The schema is that of some accepted texts.
pub record IsOfAcceptedTexts (schema : CheckedSchemaValue) : Type 0 where
  pub terms : Terms
  pub schemas : List SourceText
  pub is : IsCheckedSchemaOf terms schemas schema
