-- The road back: what is written of an accepted pair of texts, under any plain layout, is read back equal, is accepted on the same terms, and is
-- written unchanged (GraphQL, October 2021, sections 2, 3 and 5).
use Rattle.std.specs.Prelude.{◌≡◌, ◌≢◌, ◌↔◌, ◌⊎◌, ℕ, true, List, [], ◌∷◌}
use Rattle.graphql_names.specs.Placed.{Place}
use Rattle.round_trip.specs.WellFormed.{is_white_prefix}
use Rattle.tree_definitions.specs.DefinitionTree.{unplaced_document}
use Rattle.schema_types.specs.SchemaTree.{SchemaTree}
use Rattle.rule_definitions.specs.Laws.{AreEqual}
use Rattle.spec_document.specs.MeantTree.{MeantDocument}
use Rattle.spec_document.specs.Unplaced as meant
use Rattle.verdict_definitions.specs.Texts.{SourceText, Tree, Terms, document_number}
use Rattle.verdict_definitions.specs.Meaning.{all_definitions, schema_of, document_schema, document_over}
use Rattle.verdict_definitions.specs.Judge.{AreSchemasAccepted, IsDocumentAccepted, IsAccepted, PassesNoDocumentBound, IsCertain}
use Rattle.verdict_definitions.specs.Out.{Out, OutDoc, Layout, layout_text, as_lines}
use Rattle.verdict_definitions.specs.Answer.{AcceptedBytes}
use Rattle.verdict_laws.specs.AnyNumber.{IsNumber}

-- all is on one line, or lines begin with spaces and tabs only
abbrev pub IsPlainLayout : Layout → Type 0
IsPlainLayout layout = is_white_prefix layout ≡ true

-- the text of these definitions under the layout, or that text with the line feed that is output after it
abbrev pub IsLaidOutText : Layout → Tree → SourceText → Type 0
IsLaidOutText layout ds text = (text ≡ layout_text layout ds) ⊎ (text ≡ as_lines layout (layout_text layout ds))

-- two trees are the same, apart from places
abbrev pub IsSameTree : Tree → Tree → Type 0
IsSameTree a b = unplaced_document a ≡ unplaced_document b

-- two documents with their meaning are equal: operations and fragments in order, apart from places
abbrev pub IsSameDocument : MeantDocument Place → MeantDocument Place → Type 0
IsSameDocument a b = meant.unplaced_document a ≡ meant.unplaced_document b

-- the same is written of both in every layout
abbrev pub IsWrittenAlike : Tree → Tree → Type 0
IsWrittenAlike a b = (layout : Layout) → layout_text layout a ≡ layout_text layout b

-- ---- the schema

-- The written text is read as what was written, apart from places; it is accepted on the same terms, and so passes no bound; the schema that it folds
-- to is equal, with the same things built in, and so is the schema for documents; and the same is written of it.
pub record SchemaLeadsBack (terms : Terms) (schemas : List SourceText) (first : AreSchemasAccepted terms schemas) (text : SourceText) : Type 0 where
  pub accepted : AreSchemasAccepted terms (text ∷ [])
  pub read_back : IsSameTree (all_definitions accepted.judged.trees) (Out terms first.judged.trees)
  pub equal : AreEqual (schema_of terms first.judged.trees) (schema_of terms accepted.judged.trees)
  pub for_documents : AreEqual (document_schema terms first.judged.trees) (document_schema terms accepted.judged.trees)
  pub written : IsWrittenAlike (Out terms accepted.judged.trees) (Out terms first.judged.trees)

-- no schema text has the number of what is built in
abbrev pub SchemaRoadBack : Type 0
SchemaRoadBack = (terms : Terms) (schemas : List SourceText) → terms.first_text ≢ 0 → (first : AreSchemasAccepted terms schemas)
    → (layout : Layout) → IsPlainLayout layout → (text : SourceText) → IsLaidOutText layout (Out terms first.judged.trees) text → SchemaLeadsBack terms schemas first text

-- ---- the document, over the schema for documents

-- Over the other schema, and under the other number, the written text is accepted with the same limit, and so passes no bound on brackets; it is read
-- as what was written, apart from places; what typing keeps of it is an equal document; it passes no bound on documents exactly when the first passes
-- none; and the same is written of it.
pub record DocumentLeadsBack (nesting : ℕ) (schema other : SchemaTree Place) (number again : ℕ) (document : SourceText) (first : IsDocumentAccepted schema nesting number document) (text : SourceText) : Type 0 where
  pub accepted : IsDocumentAccepted other nesting again text
  pub read_back : IsSameTree accepted.judged.tree (OutDoc first.judged.tree)
  pub equal : IsSameDocument (document_over schema first.judged.tree) (document_over other accepted.judged.tree)
  pub bounds : PassesNoDocumentBound schema first.judged.tree ↔ PassesNoDocumentBound other accepted.judged.tree
  pub written : IsWrittenAlike (OutDoc accepted.judged.tree) (OutDoc first.judged.tree)

-- the other schema is equal, with the same things built in, and a text can have the other number
abbrev pub DocumentRoadBack : Type 0
DocumentRoadBack = (schema other : SchemaTree Place) → AreEqual schema other → (nesting number again : ℕ) → IsNumber again
    → (document : SourceText) (first : IsDocumentAccepted schema nesting number document) → (layout : Layout) → IsPlainLayout layout
    → (text : SourceText) → IsLaidOutText layout (OutDoc first.judged.tree) text → DocumentLeadsBack nesting schema other number again document first text

-- ---- the pair

-- The written pair is accepted on the same terms; `SchemaLeadsBack` holds of its schema, and `DocumentLeadsBack` of its document, over the schemas
-- for documents and under the numbers after their texts; it is certain exactly when the first is; and in every layout the same bytes are output for
-- both.
pub record PairLeadsBack (terms : Terms) (schemas : List SourceText) (document : SourceText) (first : IsAccepted terms schemas document) (schema_written document_written : SourceText) : Type 0 where
  pub accepted : IsAccepted terms (schema_written ∷ []) document_written
  pub schema : SchemaLeadsBack terms schemas first.schema schema_written
  pub over : DocumentLeadsBack terms.nesting (document_schema terms first.schema.judged.trees) (document_schema terms schema.accepted.judged.trees)
      (document_number terms schemas) (document_number terms (schema_written ∷ [])) document first.over document_written
  pub certain : IsCertain terms schemas document ↔ IsCertain terms (schema_written ∷ []) document_written
  pub answered : (layout : Layout) (bytes : List ℕ) → AcceptedBytes terms layout schemas document bytes ↔ AcceptedBytes terms layout (schema_written ∷ []) document_written bytes

-- each text under a layout of its own
abbrev pub PairRoadBack : Type 0
PairRoadBack = (terms : Terms) (schemas : List SourceText) (document : SourceText) → terms.first_text ≢ 0 → (first : IsAccepted terms schemas document)
    → (layout next : Layout) → IsPlainLayout layout → IsPlainLayout next
    → (schema_written document_written : SourceText) → IsLaidOutText layout (Out terms first.schema.judged.trees) schema_written → IsLaidOutText next (OutDoc first.over.judged.tree) document_written
    → PairLeadsBack terms schemas document first schema_written document_written

-- the two texts that are output for an accepted pair, given as input, have the same output
abbrev pub AnswerRoadBack : Type 0
AnswerRoadBack = (terms : Terms) (schemas : List SourceText) (document : SourceText) → terms.first_text ≢ 0 → (layout : Layout) → IsPlainLayout layout
    → (bytes : List ℕ) (first : AcceptedBytes terms layout schemas document bytes)
    → AcceptedBytes terms layout (as_lines layout first.written_schema ∷ []) (as_lines layout first.written_document) bytes
