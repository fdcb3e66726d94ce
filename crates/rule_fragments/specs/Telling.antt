-- Private: leads to `Fragments.antt` of the rules' definitions. What is told of selections and fragments, in terms of the program's types.
use Rattle.std.specs.Prelude.{◌≡◌, ℕ, List, map, flat_map, Vec, Option}
use Rattle.std.specs.Borrow.{Bor}
use Rattle.std.specs.Option.{option_map}
use Rattle.std.specs.declared.alloc.Global.{Global}
use Rattle.indexmap.specs.IndexMap.{IndexMap}
use Rattle.graphql_names.specs.NameValue.{NameValue}
use Rattle.graphql_names.specs.Placed.{Place}
use Rattle.graphql_names.specs.declared.node.Node.{Node}
use Rattle.schema_components.specs.Given.{component_name_tree, given_name}
use Rattle.schema_components.specs.declared.component_name.ComponentName.{ComponentName}
use Rattle.schema_types.specs.SchemaTree.{SchemaTree}
use Rattle.document_typed_selections.specs.TypedTree.{typed_selection_tree}
use Rattle.document_typed_selections.specs.declared.selection.Selection.{Selection}
use Rattle.document_typed_operations.specs.declared.operation.Fragment.{Fragment}
use Rattle.spec_document.specs.MeantTree.{MeantSelection, MeantOperation, MeantDocument, meant}
use Rattle.fault_data.specs.Adds.{Adds}
use Rattle.rule_definitions.specs.Room.{◌⊕◌}
use Rattle.fault_data.specs.FaultView.{faults_of}
use Rattle.fault_data.specs.declared.fault.Fault.{Fault}
use Rattle.rule_definitions.specs.Judged.{judged}
use Rattle.rule_definitions.specs.PlacedFaults.{PlacedFault}
use Rattle.rule_document_definitions.specs.Fragments.{InvalidFragmentTargetAt}
use Rattle.rule_reach.specs.Reach.{IsReachOf, meant_fragments, reached_members}
use Rattle.rule_reach.specs.declared.lists.Reach.{Reach}
use Rattle.rule_cycles.specs.Numbers.{each_value}
use Rattle.rule_fragments.specs.Applied.{application_tree, application_fault, invalid_fragment_spread}
use Rattle.rule_fragments.specs.Listed.{undefined_fragment, invalid_fragment_target, inline_target}
use Rattle.rule_fragments.specs.Possible.{ObjectsOfTypes}
use Rattle.rule_fragments.specs.SpreadViews.{fragment_meant}
use Rattle.rule_fragments.specs.Unused.{unused_fragment}
use Rattle.rule_fragments.specs.declared.applications.Application.{Application}

-- the old faults unchanged, then exactly these, as far as there is room
abbrev pub AddsThese : Vec Fault Global → Vec Fault Global → List PlacedFault → Type 0
AddsThese old new these = faults_of new ≡ faults_of old ⊕ these

-- the meaning of a selection
abbrev pub meant_selection : Selection → MeantSelection Place
meant_selection selection = meant (typed_selection_tree selection)

-- the names of these components
abbrev pub component_names : List ComponentName → List (List ℕ)
component_names components = map given_name (map component_name_tree components)

-- what is told of a spread of a fragment that is not defined
abbrev pub undefined_spread : {S : Type 0} → IndexMap NameValue (Node Fragment) S → Selection → List PlacedFault
undefined_spread fragments selection = undefined_fragment (meant_fragments fragments) (meant_selection selection)

-- what is told of each fragment whose name is not among these
abbrev pub unused_fragments : {S : Type 0} → List (List ℕ) → IndexMap NameValue (Node Fragment) S → List PlacedFault
unused_fragments names fragments = each_value (λ n. unused_fragment names (fragment_meant n)) fragments.entries

-- what is told of a fragment that cannot apply in a set on the type `parent`; and of each fragment that is reached and cannot apply where it is
abbrev pub invalid_spread : SchemaTree Place → ObjectsOfTypes → NameValue → Application → List PlacedFault
invalid_spread s possible parent application = application_fault s possible parent.text (application_tree application)

abbrev pub invalid_spreads : {S : Type 0} → SchemaTree Place → ObjectsOfTypes → IndexMap NameValue (Node Fragment) S → Reach → List PlacedFault
invalid_spreads s possible fragments reach = flat_map (invalid_fragment_spread s possible (meant_fragments fragments)) (reached_members reach)

-- what is told of a fragment of this name, if it has one, on a type that is not composite
abbrev pub invalid_target : SchemaTree Place → Place → Option (Bor NameValue) → NameValue → List PlacedFault
invalid_target s p name ty = invalid_fragment_target s p (option_map (λ n. n.now.text) name) ty.text

-- what is told of each inline fragment that is reached on a type that is not composite
abbrev pub inline_targets : SchemaTree Place → Reach → List PlacedFault
inline_targets s reach = flat_map (λ e. inline_target s e.1) (reached_members reach)

-- for any document and operation with this reach, the faults of fragments on types that are not composite are added
abbrev pub AddsTargets : SchemaTree Place → Reach → Vec Fault Global → Vec Fault Global → Type 0
AddsTargets s reach old new = (d : MeantDocument Place) (o : MeantOperation Place) → IsReachOf d o reach → Adds old new (λ f. InvalidFragmentTargetAt (judged s) d o f)
