-- What is written determines what was checked: checked schemas with the same written text are equal, and so are documents with the same written text,
-- over equal schemas (GraphQL, October 2021, sections 2 and 3).
use Rattle.std.specs.Prelude.{◌≡◌, ◌≢◌, ℕ, List}
use Rattle.graphql_names.specs.Placed.{Place}
use Rattle.spec_document.specs.MeantTree.{MeantDocument}
use Rattle.spec_document.specs.Unplaced.{unplaced_document}
use Rattle.rule_definitions.specs.Laws.{AreEqual}
use Rattle.verdict_definitions.specs.Texts.{SourceText, Terms}
use Rattle.verdict_definitions.specs.Out.{Layout, layout_text}
use Rattle.verdict_definitions.specs.Answer.{WritesDocument}
use Rattle.verdict_laws.specs.RoadBack.{IsPlainLayout}
use Rattle.graphql_checked.specs.in_checker_schemas.CheckedSchemaValue.{CheckedSchemaValue, IsCheckedSchemaOf}
use Rattle.graphql_checked.specs.CheckerValue.{IsCheckedDocumentOf}

-- The schema is that of some texts, on some terms; no text has the number of what is built in.
pub record IsOfTextsElsewhere (schema : CheckedSchemaValue) : Type 0 where
  pub terms : Terms
  pub schemas : List SourceText
  pub is : IsCheckedSchemaOf terms schemas schema
  pub elsewhere : terms.first_text ≢ 0

-- schemas with the same written text, under a plain layout, are equal, with the same things built in
abbrev pub SchemasOfOneText : Type 0
SchemasOfOneText = (a b : CheckedSchemaValue) → IsOfTextsElsewhere a → IsOfTextsElsewhere b → (layout : Layout) → IsPlainLayout layout
    → layout_text layout a.written ≡ layout_text layout b.written → AreEqual a.schema b.schema

-- documents with the same written text, under a plain layout, each accepted over one of two equal schemas, are equal apart from places
abbrev pub DocumentsOfOneText : Type 0
DocumentsOfOneText = (schema other : CheckedSchemaValue) (document text : SourceText) (first second : MeantDocument Place)
    → IsCheckedDocumentOf schema document first → IsCheckedDocumentOf other text second → AreEqual schema.schema other.schema → (layout : Layout) → IsPlainLayout layout
    → (bytes : List ℕ) → WritesDocument layout schema.number document bytes → WritesDocument layout other.number text bytes → unplaced_document first ≡ unplaced_document second
