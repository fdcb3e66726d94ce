-- The rules with faults at the places of a schema and of a document (GraphQL, October 2021, section 5).
use Rattle.std.specs.Prelude.{Bool, false, List, None, is_none, if◌then◌else◌}
use Rattle.graphql_names.specs.Placed.{Place}
use Rattle.graphql_names.specs.Places.{Recomposes}
use Rattle.rule_definitions.specs.in_schema_types.SchemaTree.{SchemaTree}
use Rattle.rule_definitions.specs.in_schema_types.BuiltIn.{built_in}
use Rattle.rule_definitions.specs.in_schema_types.Addresses.{Address, FieldAt, ArgumentAt, TypeReferenceAt, place_at, field_at}
use Rattle.spec_document.specs.MeantTree.{MeantSet, MeantDocument}
use Rattle.spec_document.specs.Unplaced.{unplaced_document, unplaced_set}
use Rattle.rule_definitions.specs.Judged.{judged}
use Rattle.rule_document_definitions.specs.Places.{Places}
use Rattle.rule_document_definitions.specs.DocumentFaults.{DocumentFault}
use Rattle.rule_document_definitions.specs.DocumentRules.{RulesFail, MergingFails}
use Rattle.rule_document_definitions.specs.Limits.{BoundFails}
use Rattle.rule_document_definitions.specs.FieldSets.{FieldSetFails, FieldSetBoundFails}
use Rattle.rule_document_definitions.specs.Standalone.{StandaloneFails}
use Rattle.rule_document_definitions.specs.Verdict.{DocumentRules, Merging, FieldSetRules, StandaloneRules}

module _ (s : SchemaTree Place) where
  -- the address of a field that its type does not define (a meta-field), or of something in such a field
  abbrev pub is_of_meta_field : Address → Bool
  is_of_meta_field (FieldAt n m) = is_none (field_at s n m)
  is_of_meta_field (ArgumentAt holder i) = is_of_meta_field holder
  is_of_meta_field (TypeReferenceAt holder) = is_of_meta_field holder
  is_of_meta_field _ = false

  -- the place of an address; meta-fields have the place of all that is built in
  abbrev pub place_or_built_in : Address → Place
  place_or_built_in a = if is_of_meta_field a then built_in else place_at s a

abbrev pub places_in : SchemaTree Place → Places Place
places_in s = record { at = place_or_built_in s; Spans = Recomposes; nowhere = None }

-- without a schema no address has a place
abbrev pub places_alone : Places Place
places_alone = record { at = λ a. None; Spans = Recomposes; nowhere = None }

abbrev pub PlacedDocumentFault : Type 0
PlacedDocumentFault = DocumentFault Place (List Place)

module _ (s : SchemaTree Place) where
  -- a rule on documents is broken, with this fault; below, a rule on merging, a rule on field sets
  abbrev pub DocumentFails : MeantDocument Place → PlacedDocumentFault → Type 0
  DocumentFails d fault = RulesFail (places_in s) (judged s) d fault

  abbrev pub DocumentMergingFails : MeantDocument Place → PlacedDocumentFault → Type 0
  DocumentMergingFails d fault = MergingFails (judged s) d fault

  abbrev pub SetRulesFail : MeantSet Place → PlacedDocumentFault → Type 0
  SetRulesFail set fault = FieldSetFails (places_in s) (judged s) set fault

  -- every rule holds of the document; below, of the field set
  abbrev pub IsValidDocument : MeantDocument Place → Type 0
  IsValidDocument d = DocumentRules (judged s) (unplaced_document d) × Merging (judged s) (unplaced_document d)

  abbrev pub IsValidFieldSet : MeantSet Place → Type 0
  IsValidFieldSet set = FieldSetRules (judged s) (unplaced_set set)

-- a bound on documents is passed, with this fault, under a schema or without one; below, the bound on field sets
abbrev pub DocumentBoundFails : MeantDocument Place → PlacedDocumentFault → Type 0
DocumentBoundFails d fault = BoundFails places_alone d fault

abbrev pub SetBoundFails : MeantSet Place → PlacedDocumentFault → Type 0
SetBoundFails set fault = FieldSetBoundFails places_alone set fault

-- a rule without a schema is broken, with this fault; below, every such rule holds
abbrev pub DocumentFailsAlone : MeantDocument Place → PlacedDocumentFault → Type 0
DocumentFailsAlone d fault = StandaloneFails places_alone d fault

abbrev pub IsValidAlone : MeantDocument Place → Type 0
IsValidAlone d = StandaloneRules (unplaced_document d)
