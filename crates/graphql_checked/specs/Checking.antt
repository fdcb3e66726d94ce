-- Private: leads to `RefusalOfDocument` and `IsCheckedDocumentOf`. What the steps of checking a document find.
use Rattle.std.specs.Prelude.{◌≡◌, ◌≢◌, ◌↔◌, ℕ, List, [], ◌∷◌, Contains, Some}
use Rattle.graphql_names.specs.Placed.{Place}
use Rattle.schema_types.specs.SchemaTree.{SchemaTree}
use Rattle.spec_document.specs.MeantTree.{MeantDocument}
use Rattle.book_validity.specs.in_typing.TypingFaults as typing
use Rattle.book_validity.specs.in_typing.OutDoc.{written_document, out_doc}
use Rattle.book_validity.specs.in_typing.DefinedByPlace.{IsDefinedDocument}
use Rattle.book_validity.specs.in_typing.DocumentView.{document_meant}
use Rattle.document_typed_operations.specs.TypedDocument.{typed_document_tree}
use Rattle.document_typed_operations.specs.declared.document.ExecutableDocument.{ExecutableDocument}
use Rattle.schema_building.specs.SourcesView.{sources_view}
use Rattle.rule_document_definitions.specs.PlacedDocumentFaults.{PlacedDocumentFault, IsValidDocument}
use Rattle.rule_document_definitions.specs.Verdict.{WithinBounds}
use Rattle.graphql_validation.specs.LastingRules.{LastingFails}
use Rattle.spec_document.specs.Unplaced.{unplaced_document}
use Rattle.graphql_faults.specs.DetailsTree.{of_typing, of_document}
use Rattle.graphql_faults.specs.DetailsView.{diagnostics_of}
use Rattle.graphql_validation.specs.TellsDocument.{IsTypedUnder, FailsOtherwise, SomeFails}
use Rattle.book_validity.specs.in_verdict_definitions.Texts.{SourceText, Tree, ReadsText, IsWithin}
use Rattle.book_validity.specs.in_verdict_definitions.Meaning.{document_over}
use Rattle.book_validity.specs.in_verdict_definitions.Says.{AnyFault, TypingFailsOver}
use Rattle.book_validity.specs.in_verdict_definitions.Answer.{IsToldUnlessFull, UnreadAlone}
use Rattle.checker_calls.specs.TextSources.{text_sources}
use Rattle.checker_schemas.specs.CheckedSchemaValue.{CheckedSchemaValue}
use Rattle.graphql_checked.specs.CheckerValue.{IsCheckedDocumentOf}
use Rattle.graphql_checked.specs.DocumentRefusals.{TypingOrLastingFails, TellsLastingOfFound}
use Rattle.checker_calls.specs.declared.refusal.Refusal.{Refusal}
use Rattle.checker_calls.specs.declared.refusal.Refusal.TheVariants.{Faults, Memory, Failed}

-- ---- reading a document with the number that comes after those of the schema texts, if one is left for it

-- the document is read, and passes no bound
abbrev pub IsReadDocument : CheckedSchemaValue → SourceText → Tree → Type 0
IsReadDocument schema text tree = ReadsText schema.number text tree × IsWithin schema.nesting schema.number text

-- the document is not read, or memory ran out
abbrev pub IsUnreadDocument : CheckedSchemaValue → SourceText → Refusal → Type 0
IsUnreadDocument schema text (Faults list) = UnreadAlone schema.nesting schema.number text (diagnostics_of list)
IsUnreadDocument schema text Memory = Unit {0}
IsUnreadDocument schema text Failed = ⊥

-- ---- typing it

-- This is what is kept of the document over the schema, and these are all faults of typing.
pub record TypesDocument (schema : SchemaTree Place) (tree : Tree) (document : MeantDocument Place) (faults : List AnyFault) : Type 0 where
  pub is : document ≡ document_over schema tree
  pub typed : IsTypedUnder schema document
  pub whole : faults ≡ [] → written_document document ≡ out_doc tree
  pub right : (fault : AnyFault) → Contains faults fault → (f : typing.TypingFault Place) × ((fault ≡ of_typing f) × TypingFailsOver schema tree f)
  pub full : (f : typing.TypingFault Place) → TypingFailsOver schema tree f → Contains faults (of_typing f)

-- a rule of typing is broken; each breach of those rules is told, and of the breaches of rules on documents that are found, at most 1,000, each
-- that is lasting (`LastingFails`)
pub record RefusesTyping (schema : SchemaTree Place) (tree : Tree) (faults : List AnyFault) : Type 0 where
  pub broken : (f : typing.TypingFault Place) × TypingFailsOver schema tree f
  pub some : faults ≢ []
  pub right : (fault : AnyFault) → Contains faults fault → TypingOrLastingFails schema tree fault
  pub full : (f : typing.TypingFault Place) → TypingFailsOver schema tree f → Contains faults (of_typing f)
  pub lasting : TellsLastingOfFound schema (document_over schema tree) faults

abbrev pub RefusalOfTyping : SchemaTree Place → Tree → Refusal → Type 0
RefusalOfTyping schema tree (Faults list) = RefusesTyping schema tree (diagnostics_of list)
RefusalOfTyping schema tree Memory = Unit {0}
RefusalOfTyping schema tree Failed = ⊥

-- ---- judging it

-- rules on documents or on merging are broken, or bounds are passed; each breach is told, except those of some rules, unless as many are told as
-- one call tells; a document that is valid is refused only for a bound
pub record RefusesRules (schema : SchemaTree Place) (document : MeantDocument Place) (faults : List AnyFault) : Type 0 where
  pub some : faults ≢ []
  pub right : (fault : AnyFault) → Contains faults fault → (f : PlacedDocumentFault) × ((fault ≡ of_document f) × SomeFails schema document f)
  pub full : (f : PlacedDocumentFault) → FailsOtherwise schema document f → IsToldUnlessFull faults (of_document f)
  pub lasting : (f : PlacedDocumentFault) → LastingFails schema document f → IsToldUnlessFull faults (of_document f)
  pub bounds : IsValidDocument schema document → WithinBounds (unplaced_document document) → ⊥

abbrev pub RefusalOfRules : SchemaTree Place → MeantDocument Place → Refusal → Type 0
RefusalOfRules schema document (Faults list) = RefusesRules schema document (diagnostics_of list)
RefusalOfRules schema document Memory = Unit {0}
RefusalOfRules schema document Failed = ⊥

-- ---- what is kept of it

-- The document is accepted over the schema, its one source is its text under its number, and it is typed and has the schema's
-- definitions.
pub record IsKeptDocument (schema : CheckedSchemaValue) (text : SourceText) (document : ExecutableDocument) : Type 0 where
  pub accepted : IsCheckedDocumentOf schema text (document_meant document)
  pub sources : sources_view document.sources ≡ text_sources schema.number (text ∷ [])
  pub typed : IsTypedUnder schema.schema (document_meant document)
  pub defined : IsDefinedDocument (Some schema.schema) (typed_document_tree document)
