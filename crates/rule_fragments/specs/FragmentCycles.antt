-- What the check of cycles tells (GraphQL, October 2021, section 5.5.2.2).
use Rattle.std.specs.Prelude.{◌≡◌, List, codes, Contains, ◌⊎◌}
use Rattle.graphql_names.specs.Placed.{Placed, Place}
use Rattle.spec_document.specs.MeantTree.{MeantFragment, MeantDocument}
use Rattle.rule_definitions.specs.Room.{◌⊕◌}
use Rattle.rule_definitions.specs.Diagnostics.{SpreadTree, RecursiveFragmentDefinition, DeeplyNestedType}
use Rattle.rule_definitions.specs.Faults.{wrong}
use Rattle.rule_definitions.specs.PlacedFaults.{PlacedFault}
use Rattle.rule_document_definitions.specs.DocumentFaults.{OfData}
use Rattle.rule_document_definitions.specs.Reached.{AtOperation}
use Rattle.rule_document_definitions.specs.Fragments.{ReachesItself, RecursiveFragmentDefinitionAt}
use Rattle.rule_document_definitions.specs.Limits.{SpreadBoundFails}
use Rattle.rule_document_definitions.specs.PlacedDocumentFaults.{places_alone}
use Rattle.rule_fragments.specs.Used.{IsUsed}

-- the fault tells that a fragment that an operation reaches leads back to itself, or that the bound on spreads is passed
abbrev pub FragmentCyclesFail : MeantDocument Place → PlacedFault → Type 0
FragmentCyclesFail d fault = AtOperation d (λ o. RecursiveFragmentDefinitionAt d fault places_alone o) ⊎ SpreadBoundFails places_alone d (OfData fault)

-- the fault tells that the fragment leads back to itself, or that paths of spreads from it are too long
abbrev pub Answers : MeantFragment Place → PlacedFault → Type 0
Answers f fault =
    ((head : Place) × ((trace : List (Placed Place SpreadTree)) × (fault ≡ wrong f.place (RecursiveFragmentDefinition head f.name.it trace))))
    ⊎ ((head : Place) × (fault ≡ wrong head (DeeplyNestedType f.name.it (codes "fragment"))))

-- what is added tells only what fails; and each fragment that an operation reaches and that reaches itself has a fault that `Answers`
pub record TellsFragmentCycles (d : MeantDocument Place) (old new : List PlacedFault) : Type 0 where
  pub added : List PlacedFault
  pub is : new ≡ old ⊕ added
  pub right : (fault : PlacedFault) → Contains added fault → FragmentCyclesFail d fault
  pub full : (f : MeantFragment Place) → IsUsed d f → ReachesItself d f → (fault : PlacedFault) × (Contains added fault × Answers f fault)
