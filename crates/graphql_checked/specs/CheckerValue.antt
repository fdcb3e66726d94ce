-- What contracts see of a checker and of a checked document.
use Rattle.std.specs.Prelude.{◌≡◌, ℕ, Bool, List}
use Rattle.graphql_names.specs.Placed.{Place}
use Rattle.book_validity.specs.in_typing.OutDoc.{written_document}
use Rattle.spec_document.specs.MeantTree.{MeantDocument}
use Rattle.book_validity.specs.in_verdict_definitions.Texts.{SourceText, Terms}
use Rattle.book_validity.specs.in_verdict_definitions.Meaning.{document_over}
use Rattle.book_validity.specs.in_verdict_definitions.Judge.{IsDocumentAccepted}
use Rattle.book_validity.specs.in_verdict_definitions.Out.{OutDoc, Layout}
use Rattle.book_validity.specs.in_verdict_definitions.Answer.{WritesDocument}
use Rattle.checker_schemas.specs.CheckedSchemaValue.{CheckedSchemaValue}

-- a checker: its terms, the schema texts that it was given in order, and whether memory ran out
pub record CheckerValue : Type 0 where
  pub terms : Terms
  pub texts : List SourceText
  pub failed : Bool

-- a checked document: its schema, its text, and what it means over the schema
pub record CheckedDocumentValue : Type 0 where
  pub schema : CheckedSchemaValue
  pub text : SourceText
  pub document : MeantDocument Place

-- The document of this text is accepted over the checked schema, and this is what it means.
pub record IsCheckedDocumentOf (schema : CheckedSchemaValue) (text : SourceText) (document : MeantDocument Place) : Type 0 where
  pub accepted : IsDocumentAccepted schema.schema schema.nesting schema.number text
  pub is : document ≡ document_over schema.schema accepted.judged.tree
  pub written : written_document document ≡ OutDoc accepted.judged.tree

-- This is the text of the checked document under the layout.
abbrev pub WritesCheckedDocument : Layout → CheckedDocumentValue → List ℕ → Type 0
WritesCheckedDocument layout document written = WritesDocument layout document.schema.number document.text written
