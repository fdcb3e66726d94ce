-- The departures of a value, of arguments that are given, and of directives that are applied: in order, and at any depth of values.
use Rattle.std.specs.Prelude.{ℕ, List, [], ◌∷◌, ◌++◌, flat_map, find, map, bytes_eq, Bool, not, if◌then◌else◌}
use Rattle.std.specs.Option.{option_map_or}
use Rattle.graphql_names.specs.Placed.{Placed, Place, unplaced_node}
use Rattle.tree_literals.specs.ValueTree.{ValueTree}
use Rattle.tree_literals.specs.ValueQueries.{variable_name}
use Rattle.tree_directives.specs.DirectiveTree.{ArgumentTree, Arguments, DirectiveTree, Directives, InputValues, unplaced_input_value}
use Rattle.tree_directives.specs.DirectiveQueries.{input_value_has_name}
use Rattle.tree_operations.specs.SelectionTree.{FieldHead}
use Rattle.schema_types.specs.SchemaTree.{SchemaTree}
use Rattle.schema_types.specs.Addresses.{directive_definition_at}
use Rattle.graphql_schema.specs.LookUps.{field_named}
use Rattle.spec_document.specs.MeantTree.{MeantSelection, MeantField}
use Rattle.rule_definitions.specs.Judged.{judged}
use Rattle.rule_definitions.specs.Names.{argument_name, directive_name, defined_name}
use Rattle.rule_definitions.specs.GivenValues.{Variables}
use Rattle.rule_document_definitions.specs.Selected.{selection_directives}
use Rattle.strict_documents.specs.Departure.{Departure}
use Rattle.strict_documents.specs.Locations.{Location, Part, parts, argument_location}
use Rattle.strict_documents.specs.ValueLetter.{is_past_64_bits, is_lone_item, is_usage_allowed}
use Rattle.strict_documents.specs.declared.departure.DepartureKind.{DepartureKind}
use Rattle.strict_documents.specs.declared.departure.DepartureKind.TheVariants as kind

-- NullDefault of a whole argument, VariableInside of what is inside a list or an object: a variable whose usage is not allowed
abbrev pub usage_kind : Location → DepartureKind
usage_kind l = if l.is_argument then kind.NullDefault else kind.VariableInside

module _ {P : Type 0} where
  abbrev pub departure_if : Bool → P → DepartureKind → List ℕ → List (Departure P)
  departure_if is place k name = if is then record { place = place; kind = k; name = name } ∷ [] else []

  -- FloatPast64Bits, ItemIsNoList: of a value itself
  abbrev pub literal_departures : Part P → List (Departure P)
  literal_departures x = departure_if (is_past_64_bits x.location x.value) x.place kind.FloatPast64Bits []
      ++ departure_if (is_lone_item x.location x.value) x.place kind.ItemIsNoList []

  module _ (variables : Variables P) where
    abbrev pub usage_departures_of : Part P → List ℕ → List (Departure P)
    usage_departures_of x n = option_map_or (λ v. departure_if (not (is_usage_allowed v.it x.location)) x.place (usage_kind x.location) n)
        (find (λ v. bytes_eq (defined_name v) n) variables) []

    abbrev pub usage_departures : Part P → List (Departure P)
    usage_departures x = option_map_or (λ n. usage_departures_of x n.it) (variable_name x.value) []

    abbrev pub part_departures : Part P → List (Departure P)
    part_departures x = literal_departures x ++ usage_departures x

-- definitions of arguments, without their places
abbrev pub plain_inputs : InputValues Place → InputValues (Unit {0})
plain_inputs vs = map (λ v. unplaced_node unplaced_input_value v) vs

module _ (t : SchemaTree Place) (variables : Variables Place) where
  abbrev pub value_departures : Location → Place → ValueTree Place → List (Departure Place)
  value_departures l p v = flat_map (part_departures variables) (parts (judged t) l p v)

  -- an argument is judged by the first definition of its name
  abbrev pub argument_departures : InputValues (Unit {0}) → Placed Place (ArgumentTree Place) → List (Departure Place)
  argument_departures definitions a = option_map_or (λ v. value_departures (argument_location v.it) a.it.value.place a.it.value.it)
      (find (input_value_has_name (argument_name a)) definitions) []

  abbrev pub given_departures : InputValues (Unit {0}) → Arguments Place → List (Departure Place)
  given_departures definitions given = flat_map (argument_departures definitions) given

  abbrev pub directive_departures : Placed Place (DirectiveTree Place) → List (Departure Place)
  directive_departures d = option_map_or (λ defined. given_departures (plain_inputs defined.it.arguments) d.it.arguments) (directive_definition_at t (directive_name d)) []

  abbrev pub directives_departures : Directives Place → List (Departure Place)
  directives_departures ds = flat_map directive_departures ds

  -- of the arguments of a field on the type of that name
  abbrev pub field_departures : List ℕ → FieldHead Place → List (Departure Place)
  field_departures parent h = option_map_or (λ f. given_departures (plain_inputs f.it.it.arguments) h.arguments) (field_named t parent h.name.it) []

  -- of a selection on the type of that name: of its arguments, if it is a field, and of its directives
  abbrev pub own_departures : List ℕ → MeantSelection Place → List (Departure Place)
  own_departures parent (MeantField p d h v) = field_departures parent h
  own_departures parent _ = []

  abbrev pub selection_departures : List ℕ → MeantSelection Place → List (Departure Place)
  selection_departures parent x = own_departures parent x ++ directives_departures (selection_directives x)
