-- Private: leads to `TellsDepartures`. What is told of the parts of an operation, in order.
use Rattle.std.specs.Prelude.{◌≡◌, ◌↔◌, ◌⊎◌, ℕ, false, Vec, List, [], ◌++◌, map, flat_map, Contains}
use Rattle.std.specs.declared.alloc.Global.{Global}
use Rattle.graphql_names.specs.Placed.{Place, node_tree}
use Rattle.graphql_names.specs.declared.node.Node.{Node}
use Rattle.tree_directives.specs.DirectiveTree.{Directives, directive_tree}
use Rattle.tree_directives.specs.declared.directive.Directive.{Directive}
use Rattle.tree_operations.specs.OperationTree.{VariableDefinitionTree}
use Rattle.schema_components.specs.Names.{Entries}
use Rattle.schema_types.specs.SchemaTree.{SchemaTree}
use Rattle.spec_document.specs.MeantTree.{MeantFragment, MeantOperation, MeantDocument, meant}
use Rattle.document_typed_selections.specs.TypedTree.{TypedSet}
use Rattle.document_typed_operations.specs.Reached.{Member as TypedMember, Fragments, IsReached}
use Rattle.rule_definitions.specs.GivenValues.{Variables}
use Rattle.rule_definitions.specs.Room.{◌⊕◌}
use Rattle.rule_document_definitions.specs.Reached.{AtReached, AtReachedFragment}
use Rattle.rule_reach.specs.Reach.{Member}
use Rattle.strict_documents.specs.Departure.{Departure}
use Rattle.strict_documents.specs.Departing.{directives_departures, selection_departures}
use Rattle.strict_documents.specs.DepartureViews.{departures_of}
use Rattle.strict_documents.specs.declared.departure.Departure.{Departure as Rust}
use Rattle.strict_documents.specs.Applying.{spread_departures, root_departures}
use Rattle.strict_documents.specs.DepartsIn.{default_departures, DepartsInSelection}

-- the old departures, then exactly these for which P holds, as long as the list has fewer than 1,000
abbrev pub AddsDepartures : Vec Rust Global → Vec Rust Global → (Departure Place → Type 0) → Type 0
AddsDepartures old new P = (added : List (Departure Place)) × ((departures_of new ≡ departures_of old ⊕ added) × ((u : Departure Place) → Contains added u ↔ P u))

abbrev pub applied_directives : List (Node Directive) → Directives Place
applied_directives ds = map (node_tree directive_tree) ds

module _ (t : SchemaTree Place) where
  -- of a variable: of its default and its directives
  abbrev pub variable_departures : VariableDefinitionTree Place → List (Departure Place)
  variable_departures v = default_departures t v ++ directives_departures t [] v.directives

  abbrev pub variables_departures : Variables Place → List (Departure Place)
  variables_departures vs = flat_map (λ v. variable_departures v.it) vs

  module _ (variables : Variables Place) where
    -- of a selection that is reached; of all of them; of the directives of all fragments
    abbrev pub member_departures : Entries (MeantFragment Place) → Member Place → List (Departure Place)
    member_departures fragments e = selection_departures t variables e.0 e.1 ++ spread_departures t fragments e.0 e.1

    abbrev pub members_departures : Entries (MeantFragment Place) → List (Member Place) → List (Departure Place)
    members_departures fragments es = flat_map (member_departures fragments) es

    abbrev pub fragments_departures : List (MeantFragment Place) → List (Departure Place)
    fragments_departures fs = flat_map (λ f. directives_departures t variables f.directives) fs

    -- of the directives of an operation, and of all that it reaches
    abbrev pub reached_departures : Entries (MeantFragment Place) → Directives Place → List (Member Place) → List (MeantFragment Place) → List (Departure Place)
    reached_departures fragments ds es fs = directives_departures t variables ds ++ (members_departures fragments es ++ fragments_departures fs)

  -- of the selections at the root
  abbrev pub roots_departures : Entries (MeantFragment Place) → List ℕ → List (TypedMember Place) → List (Departure Place)
  roots_departures fragments object es = flat_map (λ e. root_departures t fragments object (meant e.1)) es

  -- they are told of all that the set reaches through fragments alone
  abbrev pub TellsRoots : Entries (MeantFragment Place) → List ℕ → Fragments Place → TypedSet Place → Vec Rust Global → Vec Rust Global → Type 0
  TellsRoots fragments object sets start old new = (es : List (TypedMember Place))
      × (((e : TypedMember Place) → Contains es e ↔ IsReached false sets start e) × (departures_of new ≡ departures_of old ⊕ roots_departures fragments object es))

  module _ (d : MeantDocument Place) (o : MeantOperation Place) (u : Departure Place) where
    -- by the directives of the operation, or by what it reaches
    abbrev pub DepartsInReached : Type 0
    DepartsInReached = Contains (directives_departures t o.variables o.directives) u
        ⊎ (AtReached d o (DepartsInSelection t d u o)
        ⊎ AtReachedFragment d o (λ f. Contains (directives_departures t o.variables f.directives) u))
