-- What is told of a document from which something may be left out.
use Rattle.std.specs.Prelude.{◌≡◌, ◌++◌, List, map, Contains}
use Rattle.std.specs.List.{filter}
use Rattle.graphql_names.specs.Placed.{Place}
use Rattle.schema_types.specs.SchemaTree.{SchemaTree}
use Rattle.spec_document.specs.MeantTree.{MeantDocument}
use Rattle.rule_document_definitions.specs.PlacedDocumentFaults.{PlacedDocumentFault}
use Rattle.rule_fragments.specs.UnlessFull.{TellsUnlessFull, HasAll}
use Rattle.graphql_validation.specs.LastingRules.{LastingFails, LastingOrCycleFails}
use Rattle.graphql_validation.specs.Lasts.{lasts}
use Rattle.rule_merging.specs.in_faults.DetailsTree.{of_document, Telling}
use Rattle.graphql_validation.specs.TellsDocument.{IsTypedUnder, FailsBesideMerging}

module _ (s : SchemaTree Place) (d : MeantDocument Place) where
  -- those of these faults that last are what breaks rules that stay broken whatever is added to the document: all of it, and of
  -- fragments that reach themselves some
  abbrev pub HasLasting : List PlacedDocumentFault → Type 0
  HasLasting found = HasAll (LastingFails s d) (filter lasts found)

  abbrev pub LastsRightly : List PlacedDocumentFault → Type 0
  LastsRightly found = (f : PlacedDocumentFault) → Contains (filter lasts found) f → LastingOrCycleFails s d f

  -- Those that last, of the faults that are found of a typed document, are appended to what was told. The found ones are at most 1,000,
  -- and if they are fewer, all that last are among them, though not all others are.
  abbrev pub TypedLastingTold : Telling → Telling → Type 0
  TypedLastingTold old new = IsTypedUnder s d → (found : List PlacedDocumentFault) × ((new ≡ old ++ map of_document (filter lasts found))
      × (TellsUnlessFull (FailsBesideMerging s d) HasLasting found × LastsRightly found))
