-- What the check of cycles tells (GraphQL, October 2021, sections 3.10 and 3.13).
use Rattle.std.specs.Prelude.{◌≡◌, ℕ, List, ◌∷◌, codes, Contains, Option, ◌⊎◌}
use Rattle.graphql_names.specs.Placed.{Placed, Place}
use Rattle.tree_directives.specs.DirectiveTree.{DirectiveTree, InputValueTree}
use Rattle.schema_types.specs.SchemaTree.{SchemaTree}
use Rattle.rule_cycle_search.specs.Paths.{Leads}
use Rattle.fault_data.specs.Room.{◌⊕◌}
use Rattle.fault_data.specs.in_rule_definitions.Diagnostics.{RecursiveInputObjectDefinition, RecursiveDirectiveDefinition, DeeplyNestedType}
use Rattle.fault_data.specs.in_rule_definitions.Faults.{SchemaFault}
use Rattle.fault_data.specs.in_rule_definitions.Judged.{Judged, judged}
use Rattle.fault_data.specs.in_rule_definitions.Things.{ADirective}
use Rattle.fault_data.specs.in_rule_definitions.Cycles.{Referring, RefersToInput, Refers, PassesReferenceBound}
use Rattle.fault_data.specs.in_rule_definitions.Rules.{CyclesBreak}
use Rattle.fault_data.specs.in_rule_definitions.PlacedFaults.{PlacedFault, Told}

-- a definition leads back to itself or the bound on references is passed, with this fault
abbrev pub CyclesFail : Judged → SchemaFault → Type 0
CyclesFail s fault = CyclesBreak s fault ⊎ PassesReferenceBound s fault

module _ (s : Judged) where
  -- required fields lead from this input object back to it
  abbrev pub IsInputCycle : List ℕ → Type 0
  IsInputCycle n = (by : Referring (InputValueTree (Unit {0}))) × ((rest : List (Referring (InputValueTree (Unit {0})))) × Leads (RefersToInput s) n (by ∷ rest) n)

  -- this directive leads back to itself
  abbrev pub IsDirectiveCycle : List ℕ → Type 0
  IsDirectiveCycle n = (by : Option (Referring (DirectiveTree (Unit {0})))) × ((rest : List (Option (Referring (DirectiveTree (Unit {0}))))) × Leads (Refers s) (ADirective n) (by ∷ rest) (ADirective n))

-- a fault that tells that the input object leads back to itself, or that a path from it is too long; below, the same for a directive
abbrev pub AnswersInput : List ℕ → PlacedFault → Type 0
AnswersInput n f = ((trace : List (Placed Place (InputValueTree (Unit {0})))) × (f.breach ≡ RecursiveInputObjectDefinition n trace)) ⊎ (f.breach ≡ DeeplyNestedType n (codes "input object"))

abbrev pub AnswersDirective : List ℕ → PlacedFault → Type 0
AnswersDirective n f = ((trace : List (Placed Place (DirectiveTree (Unit {0})))) × (f.breach ≡ RecursiveDirectiveDefinition n trace)) ⊎ (f.breach ≡ DeeplyNestedType n (codes "directive"))

-- the added faults are of cycles or of the bound, and each name for which `IsCycle` holds has one for which `Says` holds
pub record TellsCycles (s : SchemaTree Place) (IsCycle : List ℕ → Type 0) (Says : List ℕ → PlacedFault → Type 0) (old new : List PlacedFault) : Type 0 where
  pub added : List PlacedFault
  pub is : new ≡ old ⊕ added
  pub right : (f : PlacedFault) → Contains added f → Told s CyclesFail f
  pub full : (n : List ℕ) → IsCycle n → (f : PlacedFault) × (Contains added f × Says n f)

abbrev pub InputsTold : SchemaTree Place → List PlacedFault → List PlacedFault → Type 0
InputsTold s = TellsCycles s (IsInputCycle (judged s)) AnswersInput

abbrev pub DirectivesTold : SchemaTree Place → List PlacedFault → List PlacedFault → Type 0
DirectivesTold s = TellsCycles s (IsDirectiveCycle (judged s)) AnswersDirective

-- the added faults are of cycles or of the bound, and each input object and each directive that leads back to itself has one
pub record CyclesTold (s : SchemaTree Place) (old new : List PlacedFault) : Type 0 where
  pub added : List PlacedFault
  pub is : new ≡ old ⊕ added
  pub right : (f : PlacedFault) → Contains added f → Told s CyclesFail f
  pub inputs : (n : List ℕ) → IsInputCycle (judged s) n → (f : PlacedFault) × (Contains added f × AnswersInput n f)
  pub directives : (n : List ℕ) → IsDirectiveCycle (judged s) n → (f : PlacedFault) × (Contains added f × AnswersDirective n f)
