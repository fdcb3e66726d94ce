-- Types that values are given for, and variables that values may have, as rules read them.
use Rattle.std.specs.Prelude.{ℕ, Bool, true, List, map, flat_map}
use Rattle.std.specs.Option.{option_map_or}
use Rattle.indexmap.specs.IndexMap.{IndexMap, get}
use Rattle.graphql_names.specs.Placed.{Place, node_tree}
use Rattle.graphql_names.specs.Node.{content, place}
use Rattle.graphql_names.specs.declared.node.Node.{Node}
use Rattle.tree_literals.specs.TypeTree.{TypeTree, type_tree, unplaced_type}
use Rattle.graphql_names.specs.declared.name.Name.{Name}
use Rattle.tree_literals.specs.declared.value.Value.{Value}
use Rattle.tree_literals.specs.declared.ty.«Type».{«Type»}
use Rattle.tree_operations.specs.OperationTree.{variable_definition_tree}
use Rattle.tree_operations.specs.declared.operation.VariableDefinition.{VariableDefinition}
use Rattle.graphql_names.specs.NameValue.{NameValue}
use Rattle.tree_literals.specs.ValueTree.{value_tree}
use Rattle.tree_literals.specs.ValueQueries.{is_null_value}
use Rattle.tree_directives.specs.DirectiveTree.{input_value_tree}
use Rattle.tree_directives.specs.declared.input_value.InputValueDefinition.{InputValueDefinition}
use Rattle.schema_components.specs.Names.{same_text}
use Rattle.schema_components.specs.Given.{component_tree}
use Rattle.schema_components.specs.declared.component.Component.{Component}
use Rattle.graphql_schema.specs.in_schema_types.TypeView.{name_text}
use Rattle.fault_data.specs.in_rule_definitions.GivenValues.{Wanted, Variables}
use Rattle.fault_data.specs.in_rule_definitions.PlacedFaults.{PlacedFault}
use Rattle.rule_values.specs.ValueFaults.{required_if}

-- a type with the place of the reference to it
abbrev pub wanted : TypeTree Place → Place → Wanted Place
wanted ty at_type = record { it = unplaced_type ty; place = at_type }

abbrev pub wanted_type : Node «Type» → Wanted Place
wanted_type n = wanted (type_tree (content n)) (place n)

abbrev pub variables_of : List (Node VariableDefinition) → Variables Place
variables_of variables = map (node_tree variable_definition_tree) variables

-- the keys of the entries of an object, each with whether its value is null
abbrev pub nulls_of : List (Name × Node Value) → List (List ℕ × Bool)
nulls_of entries = map (λ e. (e.0.text, is_null_value (value_tree (content e.1)))) entries

-- the map has nothing under the name, or tells that what is given is null
abbrev pub is_not_provided : {S : Type 0} → IndexMap NameValue Bool S → NameValue → Bool
is_not_provided nulls n = option_map_or (λ is_null. is_null) (get (same_text name_text) nulls n) true

-- the faults of the required fields in a map, given which fields are missing
abbrev pub required_among : (NameValue → Bool) → List ℕ → Place → List (NameValue × Component InputValueDefinition) → List PlacedFault
required_among missing n p fields = flat_map (λ (e : NameValue × Component InputValueDefinition). required_if (missing e.0) n p e.0.text (component_tree input_value_tree e.1)) fields
