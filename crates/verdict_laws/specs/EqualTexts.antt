-- Equal written texts are of equal trees: under a plain layout two accepted lists of schema texts, or two accepted documents, have the same written
-- text exactly when the same definitions are written, apart from places; and then the schemas are equal, and over equal schemas the documents
-- (GraphQL, October 2021, sections 2 and 3 and appendix B).
use Rattle.std.specs.Prelude.{◌≡◌, ◌≢◌, ◌↔◌, ℕ, List}
use Rattle.graphql_names.specs.Placed.{Place}
use Rattle.schema_types.specs.SchemaTree.{SchemaTree}
use Rattle.rule_definitions.specs.Laws.{AreEqual}
use Rattle.verdict_definitions.specs.Texts.{SourceText, Tree, Terms}
use Rattle.verdict_definitions.specs.Meaning.{schema_of, document_schema, document_over}
use Rattle.verdict_definitions.specs.Judge.{AreSchemasAccepted, IsDocumentAccepted}
use Rattle.verdict_definitions.specs.Out.{Out, OutDoc, Layout, layout_text}
use Rattle.verdict_laws.specs.RoadBack.{IsPlainLayout, IsSameTree, IsSameDocument}

-- under each plain layout the two have the same text exactly when they are the same, apart from places
abbrev pub TextsTellTrees : Tree → Tree → Type 0
TextsTellTrees a b = (layout : Layout) → IsPlainLayout layout → (layout_text layout a ≡ layout_text layout b) ↔ IsSameTree a b

-- ---- schemas

-- If the same definitions are written, the schemas are equal, with the same things built in, and so are the schemas for documents.
pub record SchemasAreToldByTexts (terms next : Terms) (trees others : List Tree) : Type 0 where
  pub texts : TextsTellTrees (Out terms trees) (Out next others)
  pub equal : IsSameTree (Out terms trees) (Out next others) → AreEqual (schema_of terms trees) (schema_of next others)
  pub for_documents : IsSameTree (Out terms trees) (Out next others) → AreEqual (document_schema terms trees) (document_schema next others)

-- no schema text has the number of what is built in
abbrev pub EqualSchemaTexts : Type 0
EqualSchemaTexts = (terms next : Terms) (schemas others : List SourceText) → terms.first_text ≢ 0 → next.first_text ≢ 0
    → (a : AreSchemasAccepted terms schemas) (b : AreSchemasAccepted next others) → SchemasAreToldByTexts terms next a.judged.trees b.judged.trees

-- ---- documents

-- If the same definitions are written, the documents are equal, over equal schemas.
pub record DocumentsAreToldByTexts (schema other : SchemaTree Place) (tree next : Tree) : Type 0 where
  pub texts : TextsTellTrees (OutDoc tree) (OutDoc next)
  pub equal : AreEqual schema other → IsSameTree (OutDoc tree) (OutDoc next) → IsSameDocument (document_over schema tree) (document_over other next)

-- each document has its own limit on brackets and its own number
abbrev pub EqualDocumentTexts : Type 0
EqualDocumentTexts = (schema other : SchemaTree Place) (nesting limit number next : ℕ) (document text : SourceText)
    → (a : IsDocumentAccepted schema nesting number document) (b : IsDocumentAccepted other limit next text) → DocumentsAreToldByTexts schema other a.judged.tree b.judged.tree
