-- Private: leads to `FragmentCycles`. The faults of one fragment that is used, as relations, since several places may be its head (section 5.5.2.2).
use Rattle.std.specs.Prelude.{◌≡◌, ℕ, List, [], ◌∷◌, reverse, codes, slice_get, bytes_eq, Option, None, Some, option_and_then, if◌then◌else◌, Vec}
use Rattle.std.specs.List.{list_any}
use Rattle.std.specs.declared.alloc.Global.{Global}
use Rattle.graphql_names.specs.Placed.{Place}
use Rattle.graphql_names.specs.Places.{Recomposes}
use Rattle.graphql_names.specs.declared.node.Node.{Node}
use Rattle.schema_components.specs.Names.{Entries}
use Rattle.document_typed_selections.specs.declared.selection.FragmentSpread.{FragmentSpread}
use Rattle.spec_document.specs.MeantTree.{MeantFragment}
use Rattle.fault_data.specs.declared.fault.Fault.{Fault}
use Rattle.rule_definitions.specs.Diagnostics.{RecursiveFragmentDefinition, DeeplyNestedType}
use Rattle.rule_definitions.specs.Faults.{wrong}
use Rattle.rule_definitions.specs.PlacedFaults.{PlacedFault}
use Rattle.rule_cycle_search.specs.declared.found.Found.{Found}
use Rattle.rule_cycles.specs.Adds.{AddsSuch}
use Rattle.rule_cycles.specs.Labels.{along}
use Rattle.rule_cycles.specs.Telling.{TellsFound, TellsRoots}
use Rattle.rule_fragments.specs.SpreadNumbers.{Spread}
use Rattle.rule_fragments.specs.SpreadViews.{spread_between}
use Rattle.rule_cycles.specs.declared.references.References.{References}

-- the spreads along a path from the root, from the last to the first
abbrev pub spread_trace : References (Node FragmentSpread) → ℕ → List ℕ → List Spread
spread_trace r root path = reverse (along (spread_between r) root path)

-- x is the fault that these spreads lead from the fragment back to it
abbrev pub IsRecursiveFault : List Spread → MeantFragment Place → PlacedFault → Type 0
IsRecursiveFault trace f x = (head : Place) × (Recomposes f.place f.name.place head × (x ≡ wrong f.place (RecursiveFragmentDefinition head f.name.it trace)))

-- x is the fault that paths of spreads from the fragment are too long
abbrev pub IsDeepFault : MeantFragment Place → PlacedFault → Type 0
IsDeepFault f x = (head : Place) × (Recomposes f.place f.name.place head × (x ≡ wrong head (DeeplyNestedType f.name.it (codes "fragment"))))

-- l has exactly one fault, for which `Says` holds of the fragment; it is empty if there is no fragment
abbrev pub Tells : (MeantFragment Place → PlacedFault → Type 0) → Option (MeantFragment Place) → List PlacedFault → Type 0
Tells Says None l = l ≡ []
Tells Says (Some f) l = (x : PlacedFault) × (Says f x × (l ≡ x ∷ []))

-- one fault is added, if there is room, for which `Says` holds of the fragment
abbrev pub AddsOne : (MeantFragment Place → PlacedFault → Type 0) → MeantFragment Place → Vec Fault Global → Vec Fault Global → Type 0
AddsOne Says f old new = AddsSuch old new (Tells Says (Some f))

-- the fragment with this number, if its name is among those that are used
abbrev pub used_at : Entries (MeantFragment Place) → List (List ℕ) → ℕ → Option (MeantFragment Place)
used_at es names i = option_and_then (λ e. if list_any (bytes_eq e.0) names then Some e.1 else None) (slice_get es i)

module _ (r : References (Node FragmentSpread)) (o : ℕ → Option (MeantFragment Place)) where
  -- `o` gives the fragments that are used, by number: l tells that spreads lead from the root back to it along this path; or that
  -- paths from it are too long
  abbrev pub TellsRecursive : ℕ → List ℕ → List PlacedFault → Type 0
  TellsRecursive root path l = Tells (IsRecursiveFault (spread_trace r root path)) (o root) l

  abbrev pub TellsDeep : ℕ → List PlacedFault → Type 0
  TellsDeep root l = Tells IsDeepFault (o root) l

  -- l tells what was found of the root
  abbrev pub TellsFoundSpread : ℕ → Found → List PlacedFault → Type 0
  TellsFoundSpread root found l = TellsFound TellsRecursive TellsDeep root found l

  -- the faults that are added, as far as there is room, tell what was found of the root
  abbrev pub AddsFound : ℕ → Found → Vec Fault Global → Vec Fault Global → Type 0
  AddsFound root found old new = AddsSuch old new (TellsFoundSpread root found)

-- what is told of all fragments that are used, in order
abbrev pub TellsSpreads : References (Node FragmentSpread) → Entries (MeantFragment Place) → List (List ℕ) → List PlacedFault → List PlacedFault → Type 0
TellsSpreads r es names old new = TellsRoots (TellsRecursive r (used_at es names)) (TellsDeep r (used_at es names)) r.graph r.graph.roots old new
