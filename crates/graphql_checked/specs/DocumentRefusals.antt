-- What the refusals of a document say.
use Rattle.std.specs.Prelude.{◌≡◌, ◌⊎◌, ℕ, List, Contains}
use Rattle.graphql_names.specs.Placed.{Place}
use Rattle.schema_types.specs.SchemaTree.{SchemaTree}
use Rattle.spec_document.specs.MeantTree.{MeantDocument}
use Rattle.book_validity.specs.in_typing.TypingFaults as typing
use Rattle.rule_document_definitions.specs.PlacedDocumentFaults.{PlacedDocumentFault}
use Rattle.graphql_validation.specs.in_fragments.UnlessFull.{TellsUnlessFull, HasAll}
use Rattle.graphql_validation.specs.LastingRules.{LastingFails, LastingOrCycleFails}
use Rattle.graphql_validation.specs.TellsDocument.{SomeFails}
use Rattle.graphql_faults.specs.DetailsTree.{of_typing, of_document}
use Rattle.graphql_faults.specs.DetailsView.{diagnostics_of}
use Rattle.book_validity.specs.in_verdict_definitions.Texts.{SourceText, Tree, ReadsText, IsWithin}
use Rattle.book_validity.specs.in_verdict_definitions.Meaning.{document_over}
use Rattle.book_validity.specs.in_verdict_definitions.Says.{AnyFault, TypingFailsOver}
use Rattle.book_validity.specs.in_verdict_definitions.Answer.{IsToldUnlessFull, RefusesDocument}
use Rattle.checker_schemas.specs.CheckedSchemaValue.{CheckedSchemaValue}
use Rattle.checker_calls.specs.declared.refusal.Refusal.{Refusal}
use Rattle.checker_calls.specs.declared.refusal.Refusal.TheVariants.{Faults, Memory, Failed}

-- The refusal says why the document is not accepted over the checked schema, or that memory ran out.
abbrev pub RefusalOfDocument : CheckedSchemaValue → SourceText → Refusal → Type 0
RefusalOfDocument schema document (Faults list) = RefusesDocument schema.schema schema.nesting schema.number document (diagnostics_of list)
RefusalOfDocument schema document Memory = Unit {0}
RefusalOfDocument schema document Failed = ⊥

-- ---- what is told along with the faults of typing

-- the fault is a breach of a rule of typing; or a lasting breach of a rule on documents, which remains whatever is added to what is kept of the
-- document; or a fragment reaches itself
abbrev pub TypingOrLastingFails : SchemaTree Place → Tree → AnyFault → Type 0
TypingOrLastingFails schema tree fault =
    ((f : typing.TypingFault Place) × ((fault ≡ of_typing f) × TypingFailsOver schema tree f))
    ⊎ ((f : PlacedDocumentFault) × ((fault ≡ of_document f) × LastingOrCycleFails schema (document_over schema tree) f))

-- Breaches of rules on documents are found, at most 1,000, and each lasting one is among them unless they are as many; the lasting ones among them
-- are told.
pub record TellsLastingOfFound (schema : SchemaTree Place) (document : MeantDocument Place) (faults : List AnyFault) : Type 0 where
  pub found : List PlacedDocumentFault
  pub breaks : TellsUnlessFull (SomeFails schema document) (HasAll (LastingFails schema document)) found
  pub told : (fault : PlacedDocumentFault) → LastingFails schema document fault → Contains found fault → Contains faults (of_document fault)

-- Of a document that is read and breaks no rule of typing, each lasting breach is told, unless as many are told as one call tells. If a rule of
-- typing is broken, the lasting breaches that are found are told (`first`), and no others of rules on documents, except fragments that reach
-- themselves (`only`): none that may be caused by what typing left out.
pub record TellsLastingFaults (schema : SchemaTree Place) (nesting number : ℕ) (document : SourceText) (faults : List AnyFault) : Type 0 where
  pub full : IsWithin nesting number document → (tree : Tree) → ReadsText number document tree
      → ((f : typing.TypingFault Place) → TypingFailsOver schema tree f → ⊥)
      → (fault : PlacedDocumentFault) → LastingFails schema (document_over schema tree) fault → IsToldUnlessFull faults (of_document fault)
  pub first : IsWithin nesting number document → (tree : Tree) → ReadsText number document tree
      → (f : typing.TypingFault Place) → TypingFailsOver schema tree f → TellsLastingOfFound schema (document_over schema tree) faults
  pub only : IsWithin nesting number document → (tree : Tree) → ReadsText number document tree
      → (f : typing.TypingFault Place) → TypingFailsOver schema tree f → (fault : AnyFault) → Contains faults fault → TypingOrLastingFails schema tree fault

abbrev pub RefusalWithLasting : CheckedSchemaValue → SourceText → Refusal → Type 0
RefusalWithLasting schema document (Faults list) = TellsLastingFaults schema.schema schema.nesting schema.number document (diagnostics_of list)
RefusalWithLasting schema document Memory = Unit {0}
RefusalWithLasting schema document Failed = ⊥
