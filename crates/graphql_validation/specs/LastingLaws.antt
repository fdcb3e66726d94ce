-- What breaks a rule that stays broken.
use Rattle.graphql_names.specs.Placed.{Place}
use Rattle.schema_types.specs.SchemaTree.{SchemaTree}
use Rattle.spec_document.specs.MeantTree.{MeantDocument}
use Rattle.rule_document_definitions.specs.PlacedDocumentFaults.{PlacedDocumentFault, DocumentFails}
use Rattle.graphql_validation.specs.Parts.{IsPartOf}
use Rattle.graphql_validation.specs.LastingRules.{LastingOrCycleFails}

-- what breaks such a rule in a document breaks it in every document that has all that the first one has
abbrev pub LastingFaultsStay : Type 0
LastingFaultsStay = (s : SchemaTree Place) (d e : MeantDocument Place) (fault : PlacedDocumentFault) → IsPartOf d e → LastingOrCycleFails s d fault → LastingOrCycleFails s e fault

-- what breaks such a rule is a fault of a rule on documents
abbrev pub LastingFaultsAreFaults : Type 0
LastingFaultsAreFaults = (s : SchemaTree Place) (d : MeantDocument Place) (fault : PlacedDocumentFault) → LastingOrCycleFails s d fault → DocumentFails s d fault

-- a document is part of itself
abbrev pub DocumentsArePartOfThemselves : Type 0
DocumentsArePartOfThemselves = (d : MeantDocument Place) → IsPartOf d d
