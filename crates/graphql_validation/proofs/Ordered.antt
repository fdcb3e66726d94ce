-- What the checks of an operation tell, in their order, is what its rules tell.
use Rattle.std.proofs.Common.{◌↔◌, ◌⊎◌, inl, inr}
use Rattle.graphql_names.specs.Placed.{Place}
use Rattle.schema_types.specs.SchemaTree.{SchemaTree}
use Rattle.spec_document.specs.MeantTree.{MeantOperation, MeantFragment, MeantDocument}
use Rattle.rule_definitions.specs.Judged.{judged}
use Rattle.rule_definitions.specs.PlacedFaults.{PlacedFault}
use Rattle.rule_document_definitions.specs.Fragments.{ReachesItself, UndefinedFragmentAt, RecursiveFragmentDefinitionAt, InvalidFragmentTargetAt, InvalidFragmentSpreadAt}
use Rattle.rule_document_definitions.specs.Reached.{ReachesFragment}
use Rattle.rule_document_definitions.specs.Selections.{SelectionsBreak}
use Rattle.rule_document_definitions.specs.Standalone.{GivenInBreaks}
use Rattle.rule_document_definitions.specs.PlacedDocumentFaults.{place_or_built_in, places_in, places_alone}
use Rattle.rule_variables.specs.Parts.{VariablesBreakAlone, VariablesBreakUnder}
use Rattle.graphql_validation.specs.Operations.{OperationFailsAlone, OperationFails, AllAlone, AllUnder}

module _ (d : MeantDocument Place) (o : MeantOperation Place) (f : PlacedFault) where
  -- ---- without a schema

  pub ordered_alone : (VariablesBreakAlone places_alone.at d o f ⊎ (UndefinedFragmentAt d f o ⊎ GivenInBreaks places_alone d f o)) ↔ OperationFailsAlone d o f
  ordered_alone = (
    λ h. elim h [ inl a ↦ elim a [ inl u ↦ inl u | inr a ↦ elim a [ inl k ↦ inr (inl k) | inr n ↦ inr (inr (inl n)) ] ] | inr r ↦ inr (inr (inr r)) ],
    λ h. elim h [
      | inl u ↦ inl (inl u)
      | inr h ↦ elim h [ inl k ↦ inl (inr (inl k)) | inr h ↦ elim h [ inl n ↦ inl (inr (inr n)) | inr r ↦ inr r ] ]
    ],
  )

  -- with the fragments that reach themselves they are all
  pub all_alone : OperationFailsAlone d o f → AllAlone d o f
  all_alone (inl h) = inl h
  all_alone (inr (inl h)) = inr (inl h)
  all_alone (inr (inr (inl h))) = inr (inr (inl h))
  all_alone (inr (inr (inr (inl h)))) = inr (inr (inr (inl h)))
  all_alone (inr (inr (inr (inr h)))) = inr (inr (inr (inr (inr h))))

  pub recursive_alone : RecursiveFragmentDefinitionAt d f places_alone o → AllAlone d o f
  recursive_alone h = inr (inr (inr (inr (inl h))))

  -- a fragment that is reached and reaches itself
  abbrev pub SomeCycle : Type 0
  SomeCycle = (g : MeantFragment Place) × (ReachesFragment d o g × ReachesItself d g)

  pub beside_alone : AllAlone d o f → OperationFailsAlone d o f ⊎ SomeCycle
  beside_alone (inl h) = inl (inl h)
  beside_alone (inr (inl h)) = inl (inr (inl h))
  beside_alone (inr (inr (inl h))) = inl (inr (inr (inl h)))
  beside_alone (inr (inr (inr (inl h)))) = inl (inr (inr (inr (inl h))))
  beside_alone (inr (inr (inr (inr (inl h))))) = inr (h.0, (h.1.0, (h.1.1.0, (h.1.1.1.0, h.1.1.1.1.0))))
  beside_alone (inr (inr (inr (inr (inr h))))) = inl (inr (inr (inr (inr h))))

  -- ---- under a schema

  module _ (s : SchemaTree Place) where
    pub ordered_under : (VariablesBreakAlone (place_or_built_in s) d o f ⊎ (VariablesBreakUnder s o f ⊎ (SelectionsBreak (places_in s) (judged s) d o f
        ⊎ (UndefinedFragmentAt d f o ⊎ (InvalidFragmentTargetAt (judged s) d o f ⊎ InvalidFragmentSpreadAt (judged s) d o f (places_in s)))))) ↔ OperationFails d o s f
    ordered_under = (
      λ h. elim h [
        | inl a ↦ inl (elim a [ inl u ↦ inl u | inr a ↦ elim a [ inl k ↦ inr (inl k) | inr n ↦ inr (inr (inl n)) ] ])
        | inr h ↦ elim h [ inl b ↦ inl (inr (inr (inr b))) | inr r ↦ inr r ]
      ],
      λ h. elim h [
        | inl v ↦ elim v [
          | inl u ↦ inl (inl u)
          | inr v ↦ elim v [ inl k ↦ inl (inr (inl k)) | inr v ↦ elim v [ inl n ↦ inl (inr (inr n)) | inr b ↦ inr (inl b) ] ]
        ]
        | inr r ↦ inr (inr r)
      ],
    )

    pub all_under : OperationFails d o s f → AllUnder s d o f
    all_under (inl h) = inl h
    all_under (inr (inl h)) = inr (inl h)
    all_under (inr (inr (inl h))) = inr (inr (inl h))
    all_under (inr (inr (inr h))) = inr (inr (inr (inr h)))

    pub recursive_under : RecursiveFragmentDefinitionAt d f places_alone o → AllUnder s d o f
    recursive_under h = inr (inr (inr (inl h)))

    pub beside_under : AllUnder s d o f → OperationFails d o s f ⊎ SomeCycle
    beside_under (inl h) = inl (inl h)
    beside_under (inr (inl h)) = inl (inr (inl h))
    beside_under (inr (inr (inl h))) = inl (inr (inr (inl h)))
    beside_under (inr (inr (inr (inl h)))) = inr (h.0, (h.1.0, (h.1.1.0, (h.1.1.1.0, h.1.1.1.1.0))))
    beside_under (inr (inr (inr (inr h)))) = inl (inr (inr (inr h)))
