-- The rules of the book and the rules that faults are told by hold of the same texts.
use Rattle.std.specs.Prelude.{◌↔◌, ℕ, List}
use Rattle.graphql_names.specs.Placed.{Place}
use Rattle.tree_operations.specs.SelectionTree.{SelectionTrees}
use Rattle.tree_definitions.specs.DefinitionTree.{DefinitionTree}
use Rattle.schema_fold.specs.NumberedDefinition.{Definitions}
use Rattle.schema_fold.specs.BuildErrors.{FoldingRules}
use Rattle.spec_document.specs.MeantTree.{MeantSet}
use Rattle.verdict_definitions.specs.in_typing.Meanings.{Meanings}
use Rattle.verdict_definitions.specs.in_typing.TypingFaults.{TypingFault, SetFails, TypingRules}
use Rattle.rule_definitions.specs.Judged.{Judged, judged}
use Rattle.rule_definitions.specs.Names.{scalar_names}
use Rattle.rule_definitions.specs.Rules.{SchemaRules}
use Rattle.rule_document_definitions.specs.Named.{FragmentsFoundByName}
use Rattle.rule_document_definitions.specs.Verdict.{DocumentRules, FieldSetRules, StandaloneRules}
use Rattle.verdict_definitions.specs.Texts.{SourceText, Tree, Terms}
use Rattle.verdict_definitions.specs.Meaning.{schema_of, document_schema}
use Rattle.verdict_definitions.specs.Judge.{AreSchemasAccepted, IsDocumentAccepted, IsAccepted}
use Rattle.book_validity.specs.Words.{Document, Never, Each, IsThere}
use Rattle.book_validity.specs.Document.{IsValidDocument}
use Rattle.book_validity.specs.FieldSets.{IsValidFieldSet}
use Rattle.book_validity.specs.Standalone.{IsValidAlone}
use Rattle.book_validity.specs.Schema.{IsValidSchema}
use Rattle.book_validity.specs.Typing.{AreTyped, IsTypedDocument}
use Rattle.book_validity.specs.Folding.{AreFoldable}
use Rattle.book_validity.specs.Yes.{schema_for_documents, AreValidSchemas, IsValidOver, IsYes}

-- for a document whose fragments are found under their own names, as in each typed document
abbrev pub RulesHoldByTheBook : Type 0
RulesHoldByTheBook = (s : Judged) (d : Document) → FragmentsFoundByName d → IsValidDocument s d ↔ DocumentRules s d

-- the same for a field set, and for a document without a schema
abbrev pub SetRulesHoldByTheBook : Type 0
SetRulesHoldByTheBook = (s : Judged) (set : MeantSet (Unit {0})) → IsValidFieldSet s set ↔ FieldSetRules s set

abbrev pub RulesAloneHoldByTheBook : Type 0
RulesAloneHoldByTheBook = (d : Document) → FragmentsFoundByName d → IsValidAlone d ↔ StandaloneRules d

-- the schema has the built-in scalars, as each schema that texts fold to has
abbrev pub HasScalars : Judged → Type 0
HasScalars s = Each scalar_names (λ n. IsThere (s.type_named n))

abbrev pub SchemaRulesHoldByTheBook : Type 0
SchemaRulesHoldByTheBook = (s : Judged) → HasScalars s → IsValidSchema s ↔ SchemaRules s

-- a document, and the selections of a set, are typed exactly when no rule of typing is broken
abbrev pub TypedByTheBook : Type 0
TypedByTheBook = (m : Meanings) (ds : List (DefinitionTree Place)) → IsTypedDocument m ds ↔ TypingRules m ds

abbrev pub SetsTypedByTheBook : Type 0
SetsTypedByTheBook = (m : Meanings) (t : List ℕ) (ts : SelectionTrees Place) → AreTyped m t ts ↔ ((fault : TypingFault Place) → Never (SetFails m t ts fault))

-- definitions are foldable exactly when no folding rule is broken
abbrev pub FoldedByTheBook : Type 0
FoldedByTheBook = (built_in : Definitions) (first : ℕ) (texts : Definitions) → AreFoldable built_in texts ↔ FoldingRules built_in first texts

-- schema texts, and a document over the schema of accepted ones, are accepted exactly when they are valid by the book
abbrev pub SchemasAcceptedByTheBook : Type 0
SchemasAcceptedByTheBook = (terms : Terms) (schemas : List SourceText) → AreSchemasAccepted terms schemas ↔ AreValidSchemas terms schemas

abbrev pub DocumentsAcceptedByTheBook : Type 0
DocumentsAcceptedByTheBook = (terms : Terms) (trees : List Tree) → SchemaRules (judged (schema_of terms trees)) → (nesting number : ℕ) (document : SourceText)
    → IsDocumentAccepted (document_schema terms trees) nesting number document ↔ IsValidOver (schema_for_documents terms trees) nesting number document

-- texts are accepted exactly when the book says yes
abbrev pub AcceptedByTheBook : Type 0
AcceptedByTheBook = (terms : Terms) (schemas : List SourceText) (document : SourceText) → IsAccepted terms schemas document ↔ IsYes terms schemas document
