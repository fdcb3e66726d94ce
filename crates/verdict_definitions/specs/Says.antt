-- What each fault says of the texts, and at which place.
use Rattle.std.specs.Prelude.{◌≡◌, ℕ, ◌+◌, ◌⊎◌, List, [], ◌∷◌, None, Some}
use Rattle.graphql_names.specs.declared.span.SourceSpan.{SourceSpan}
use Rattle.graphql_names.specs.Placed.{Place}
use Rattle.graphql_faults.specs.in_grammar.Faults as read
use Rattle.graphql_faults.specs.in_read.Reads.{IsDue}
use Rattle.graphql_faults.specs.in_read.declared.fault.SyntaxFaultKind.TheVariants.{NoToken, Unexpected, End}
use Rattle.schema_types.specs.SchemaTree.{SchemaTree}
use Rattle.schema_built_in.specs.Table.{built_in_definitions}
use Rattle.schema_fold.specs.BuildErrors as folding
use Rattle.schema_fold.specs.BuildErrors.{Fails}
use Rattle.document_typing.specs.in_schema_building.Numbers.{HaveNumbers}
use Rattle.rule_definitions.specs.Rules as rules
use Rattle.rule_definitions.specs.PlacedFaults.{PlacedFault, Told}
use Rattle.document_typing.specs.TypingFaults as typing
use Rattle.document_typing.specs.TypingFaults.{TypingFails}
use Rattle.spec_document.specs.MeantTree.{MeantDocument}
use Rattle.rule_definitions.specs.Judged.{Judged, judged}
use Rattle.graphql_faults.specs.in_document_rule_definitions.Places.{Places}
use Rattle.graphql_faults.specs.in_document_rule_definitions.DocumentFaults.{OfData, OfDocument, OfLimit}
use Rattle.graphql_faults.specs.in_document_rule_definitions.DocumentRules.{DeferredBreaks}
use Rattle.graphql_faults.specs.in_document_rule_definitions.Fragments.{UndefinedFragmentAt, UnusedFragmentAt, InvalidFragmentTargetAt, InvalidFragmentSpreadAt}
use Rattle.graphql_faults.specs.in_document_rule_definitions.Reached.{AtOperation}
use Rattle.graphql_faults.specs.in_document_rule_definitions.Subscriptions.{SubscriptionBreaks}
use Rattle.graphql_faults.specs.in_document_rule_definitions.Selections.{SelectionsBreak}
use Rattle.graphql_faults.specs.in_document_rule_definitions.Variables.{VariablesBreak}
use Rattle.graphql_faults.specs.in_document_rule_definitions.PlacedDocumentFaults.{PlacedDocumentFault, places_in, DocumentFails, DocumentMergingFails, DocumentBoundFails}
use Rattle.graphql_faults.specs.DetailsTree.{DetailsAt, Syntax, Nesting, Spent, of_rule, of_folding, of_typing, of_document}
use Rattle.verdict_definitions.specs.Texts.{SourceText, Tree, Terms, DerivesIn, ReadsText, ReadsAll, PassesNumbers}
use Rattle.verdict_definitions.specs.Meaning.{all_definitions, schema_of, meanings_over, document_over}

-- what is wrong, and where
abbrev pub AnyFault : Type 0
AnyFault = DetailsAt Place (List Place)

-- ---- a text that is not read

-- the place is in this text, begins at the offset, and is so many bytes long
pub record IsPlaceIn (number offset length : ℕ) (place : Place) : Type 0 where
  pub span : SourceSpan
  pub is : place ≡ Some span
  pub of_file : span.file_id.0 ≡ number
  pub at : span.offset ≡ offset
  pub long : span.length ≡ length

-- the fault tells this fault of the reader: wrong syntax at an offset, or one bracket too many there
abbrev pub TellsReadFault : ℕ → read.Fault → AnyFault → Type 0
TellsReadFault number read.Memory fault = ⊥
TellsReadFault number (read.NoToken offset) fault = (fault.details ≡ Syntax NoToken) × IsPlaceIn number offset 0 fault.place
TellsReadFault number (read.Unexpected offset) fault = (fault.details ≡ Syntax Unexpected) × IsPlaceIn number offset 0 fault.place
TellsReadFault number (read.End offset) fault = (fault.details ≡ Syntax End) × IsPlaceIn number offset 0 fault.place
TellsReadFault number (read.Nesting offset) fault = (fault.details ≡ Nesting) × IsPlaceIn number offset 1 fault.place

-- The fault tells a fault of the reader that is due for the text with this number.
pub record IsFaultOfText (nesting number : ℕ) (text : SourceText) (fault : AnyFault) : Type 0 where
  pub read : read.Fault
  pub due : IsDue (DerivesIn number) nesting text read
  pub tells : TellsReadFault number read fault

-- the fault that no number is left
abbrev pub spent : AnyFault
spent = record { place = None; details = Spent }

-- the text with this number is not read, and this fault says why: what is wrong with it, or that no number is left for it
abbrev pub UnreadFault : ℕ → ℕ → SourceText → AnyFault → Type 0
UnreadFault nesting number text fault = IsFaultOfText nesting number text fault ⊎ ((fault ≡ spent) × PassesNumbers number)

-- one of the texts is not read, and this fault says why; the first text has the number `first`
abbrev pub UnreadFaultFrom : ℕ → ℕ → List SourceText → AnyFault → Type 0
UnreadFaultFrom nesting first [] fault = ⊥
UnreadFaultFrom nesting first (text ∷ texts) fault = UnreadFault nesting first text fault ⊎ UnreadFaultFrom nesting (first + 1) texts fault

-- ---- a schema that breaks a rule

module _ (terms : Terms) (trees : List Tree) where
  -- the fault is a breach of a folding rule
  abbrev pub FoldingFails : folding.BuildFault → Type 0
  FoldingFails fault = Fails built_in_definitions terms.first_extension (all_definitions trees) fault

  -- the fault is a breach of a rule on schemas, or says that the bound on references is passed
  abbrev pub SchemaRuleFails : PlacedFault → Type 0
  SchemaRuleFails fault = rules.RulesFail (schema_of terms trees) fault ⊎ rules.BoundFails (schema_of terms trees) fault

  -- the fault is a breach of a rule on schemas other than those on cycles of definitions
  abbrev pub SchemaRuleFailsBesideCycles : PlacedFault → Type 0
  SchemaRuleFailsBesideCycles fault =
      Told (schema_of terms trees) (λ s f. rules.ReferencesBreak s f ⊎ (rules.EmptyBreaks s f ⊎ (rules.InterfacesBreak s f ⊎ rules.SchemaUsesBreak s f))) fault

  -- a fault of the schema: no number is left for an extension, a folding rule is broken, or `SchemaRuleFails`
  abbrev pub SchemaFails : AnyFault → Type 0
  SchemaFails fault =
      ((fault ≡ spent) × (HaveNumbers terms.first_extension (all_definitions trees) → ⊥))
      ⊎ (((f : folding.BuildFault) × ((fault ≡ of_folding f) × FoldingFails f))
      ⊎ ((f : PlacedFault) × ((fault ≡ of_rule f) × SchemaRuleFails f)))

-- ---- a document that breaks a rule

-- the fault is a breach of a rule on documents other than those on fragments that reach themselves and on merging
abbrev pub RuleFailsBeside : Places Place → Judged → MeantDocument Place → PlacedDocumentFault → Type 0
RuleFailsBeside places s d (OfData fault) =
    AtOperation d (λ o. VariablesBreak places s d o fault ⊎ (SelectionsBreak places s d o fault
    ⊎ (UndefinedFragmentAt d fault o ⊎ (InvalidFragmentTargetAt s d o fault ⊎ InvalidFragmentSpreadAt s d o fault places))))
    ⊎ UnusedFragmentAt d fault
RuleFailsBeside places s d (OfDocument fault) = AtOperation d (λ o. SubscriptionBreaks d o fault) ⊎ DeferredBreaks d fault
RuleFailsBeside places s d (OfLimit place) = ⊥

module _ (schema : SchemaTree Place) (tree : Tree) where
  -- the fault is a breach of a rule of typing
  abbrev pub TypingFailsOver : typing.TypingFault Place → Type 0
  TypingFailsOver fault = TypingFails (meanings_over schema) tree fault

  -- the fault is a breach of a rule on documents or on merging, or says that a bound is passed
  abbrev pub DocumentRuleFails : PlacedDocumentFault → Type 0
  DocumentRuleFails fault =
      DocumentFails schema (document_over schema tree) fault
      ⊎ (DocumentMergingFails schema (document_over schema tree) fault ⊎ DocumentBoundFails (document_over schema tree) fault)

  -- the fault is a breach of a rule on documents, except those rules of which only some breaches may be told
  abbrev pub DocumentRuleFailsBeside : PlacedDocumentFault → Type 0
  DocumentRuleFailsBeside fault = RuleFailsBeside (places_in schema) (judged schema) (document_over schema tree) fault

  -- a fault of the document
  abbrev pub DocumentFailsOver : AnyFault → Type 0
  DocumentFailsOver fault =
      ((f : typing.TypingFault Place) × ((fault ≡ of_typing f) × TypingFailsOver f))
      ⊎ ((f : PlacedDocumentFault) × ((fault ≡ of_document f) × DocumentRuleFails f))

-- ---- what a fault says

-- The fault is true of the schema texts: of a text that is not read, or of the schema that they fold to.
abbrev pub SaysSchema : Terms → List SourceText → AnyFault → Type 0
SaysSchema terms schemas fault =
    UnreadFaultFrom terms.nesting terms.first_text schemas fault
    ⊎ ((trees : List Tree) × (ReadsAll terms.first_text schemas trees × SchemaFails terms trees fault))

-- The fault is true of the document, which has this number: it is not read, or something is wrong with it over the schema.
abbrev pub SaysDocument : SchemaTree Place → ℕ → ℕ → SourceText → AnyFault → Type 0
SaysDocument schema nesting number document fault =
    UnreadFault nesting number document fault
    ⊎ ((tree : Tree) × (ReadsText number document tree × DocumentFailsOver schema tree fault))
