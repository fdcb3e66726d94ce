-- What the specification does not allow in a document that the checker accepts (GraphQL, October 2021, sections 3.5.2, 3.11, 5.2.3.1, 5.5.2.3 and 5.8.5).
use Rattle.std.specs.Prelude.{◌≡◌, ℕ, true, false, List, [], Contains, ◌⊎◌}
use Rattle.std.specs.Option.{option_map_or}
use Rattle.graphql_names.specs.Placed.{Place}
use Rattle.tree_literals.specs.TypeTree.{unplaced_type}
use Rattle.tree_directives.specs.declared.operation_type.OperationType.TheVariants as operation
use Rattle.tree_operations.specs.OperationTree.{VariableDefinitionTree}
use Rattle.schema_types.specs.SchemaTree.{SchemaTree}
use Rattle.spec_document.specs.MeantTree.{MeantSet, meant_set, MeantOperation, MeantDocument}
use Rattle.rule_definitions.specs.Words.{AtSomeIndex}
use Rattle.rule_document_definitions.specs.Selected.{Standing}
use Rattle.rule_document_definitions.specs.Reached.{AtRoot, AtOperation, AtReached, AtReachedFragment}
use Rattle.strict_documents.specs.Departure.{Departure}
use Rattle.strict_documents.specs.Locations.{Location}
use Rattle.strict_documents.specs.Departing.{value_departures, directives_departures, selection_departures}
use Rattle.strict_documents.specs.Applying.{spread_departures, root_departures}

-- the location of a variable's default
abbrev pub default_location : {P : Type 0} → VariableDefinitionTree P → Location
default_location v = record { ty = unplaced_type v.ty.it; has_default = false; is_argument = true; is_item = false }

-- the name of the type that a set is on
abbrev pub set_type : {P : Type 0} → MeantSet P → List ℕ
set_type (meant_set ty xs) = ty

module _ (t : SchemaTree Place) where
  abbrev pub default_departures : VariableDefinitionTree Place → List (Departure Place)
  default_departures v = option_map_or (λ x. value_departures t [] (default_location v) x.place x.it) v.default_value []

  module _ (d : MeantDocument Place) (u : Departure Place) where
    -- by the default or the directives of a variable
    abbrev pub DepartsInVariable : VariableDefinitionTree Place → Type 0
    DepartsInVariable v = Contains (default_departures v) u ⊎ Contains (directives_departures t [] v.directives) u

    -- by a selection that the operation reaches: its arguments, its directives, or the type that it is on
    abbrev pub DepartsInSelection : MeantOperation Place → Standing Place → Type 0
    DepartsInSelection o x = Contains (selection_departures t o.variables x.parent x.it) u ⊎ Contains (spread_departures t d.fragments x.parent x.it) u

    -- by a fragment at the root of a subscription
    abbrev pub DepartsAtRoot : MeantOperation Place → Type 0
    DepartsAtRoot o = (o.operation_type ≡ operation.Subscription)
        × ((x : Standing Place) × (AtRoot d o x × Contains (root_departures t d.fragments (set_type o.set) x.it) u))

    -- by an operation, or by what it reaches
    abbrev pub DepartsInOperation : MeantOperation Place → Type 0
    DepartsInOperation o = AtSomeIndex o.variables (λ i v. DepartsInVariable v.it)
        ⊎ (Contains (directives_departures t o.variables o.directives) u
        ⊎ (AtReached d o (DepartsInSelection o)
        ⊎ (AtReachedFragment d o (λ f. Contains (directives_departures t o.variables f.directives) u)
        ⊎ DepartsAtRoot o)))

    -- the document has this departure
    abbrev pub DepartsIn : Type 0
    DepartsIn = AtOperation d DepartsInOperation
