-- Private: leads to `departures_of_schema`. What is told of trees as the program has them.
use Rattle.std.specs.Prelude.{ℕ, List, [], map, flat_map, Option}
use Rattle.std.specs.Borrow.{Bor}
use Rattle.std.specs.Option.{option_map_or}
use Rattle.indexmap.specs.IndexMap.{IndexMap}
use Rattle.graphql_names.specs.NameValue.{NameValue}
use Rattle.graphql_names.specs.Node.{content}
use Rattle.graphql_names.specs.Placed.{Placed, Place, node_tree}
use Rattle.graphql_names.specs.declared.node.Node.{Node}
use Rattle.tree_directives.specs.DirectiveTree.{InputValueTree, DirectiveDefinitionTree, input_value_tree, input_value_trees, directive_tree, directive_definition_tree}
use Rattle.tree_directives.specs.declared.directive.Directive.{Directive}
use Rattle.tree_directives.specs.declared.directive.DirectiveDefinition.{DirectiveDefinition}
use Rattle.tree_directives.specs.declared.input_value.InputValueDefinition.{InputValueDefinition}
use Rattle.tree_type_members.specs.TypeSystemTree.{FieldDefinitionTree, EnumValueTree, field_definition_tree, enum_value_tree}
use Rattle.tree_type_members.specs.declared.enum_value.EnumValueDefinition.{EnumValueDefinition}
use Rattle.tree_type_members.specs.declared.field_definition.FieldDefinition.{FieldDefinition}
use Rattle.schema_components.specs.Given.{Given, component_tree, component_name_tree}
use Rattle.schema_components.specs.Names.{Entries}
use Rattle.schema_components.specs.declared.component.Component.{Component}
use Rattle.schema_components.specs.declared.component_name.ComponentName.{ComponentName}
use Rattle.schema_types.specs.SchemaTree.{SchemaType, SchemaTree}
use Rattle.schema_types.specs.TypeView.{name_text, extended_type}
use Rattle.schema_types.specs.declared.extended_type.ExtendedType.{ExtendedType}
use Rattle.strict_documents.specs.Departure.{Departure}
use Rattle.strict_schemas.specs.Departing.{added_directive, added_name, added_field, added_value, added_input, applied_departure, extra_departure, extra_over_field, extra_over, input_departures, inputs_departures, type_departures, definition_departures}

-- entries of maps
abbrev pub field_entry : NameValue × Component FieldDefinition → List ℕ × Given Place (Placed Place (FieldDefinitionTree Place))
field_entry e = (name_text e.0, component_tree field_definition_tree e.1)

abbrev pub value_entry : NameValue × Component EnumValueDefinition → List ℕ × Given Place (Placed Place (EnumValueTree Place))
value_entry e = (name_text e.0, component_tree enum_value_tree e.1)

abbrev pub input_entry : NameValue × Component InputValueDefinition → List ℕ × Given Place (Placed Place (InputValueTree Place))
input_entry e = (name_text e.0, component_tree input_value_tree e.1)

abbrev pub type_entry : NameValue × ExtendedType → List ℕ × SchemaType Place
type_entry e = (name_text e.0, extended_type e.1)

abbrev pub definition_entry : NameValue × Node DirectiveDefinition → List ℕ × Placed Place (DirectiveDefinitionTree Place)
definition_entry e = (name_text e.0, node_tree directive_definition_tree e.1)

-- the entries of a map that a type may have
abbrev pub field_entries : {S : Type 0} → Option (Bor (IndexMap NameValue (Component FieldDefinition) S)) → Entries (Given Place (Placed Place (FieldDefinitionTree Place)))
field_entries o = option_map_or (λ m. map field_entry m.now.entries) o []

abbrev pub value_entries : {S : Type 0} → Option (Bor (IndexMap NameValue (Component EnumValueDefinition) S)) → Entries (Given Place (Placed Place (EnumValueTree Place)))
value_entries o = option_map_or (λ m. map value_entry m.now.entries) o []

abbrev pub input_entries : {S : Type 0} → Option (Bor (IndexMap NameValue (Component InputValueDefinition) S)) → Entries (Given Place (Placed Place (InputValueTree Place)))
input_entries o = option_map_or (λ m. map input_entry m.now.entries) o []

-- ---- what is added to a built-in type

abbrev pub added_fields_of : List (NameValue × Component FieldDefinition) → List (Departure Place)
added_fields_of es = flat_map (λ (e : NameValue × Component FieldDefinition). added_field (field_entry e)) es

abbrev pub added_values_of : List (NameValue × Component EnumValueDefinition) → List (Departure Place)
added_values_of es = flat_map (λ (e : NameValue × Component EnumValueDefinition). added_value (value_entry e)) es

abbrev pub added_inputs_of : List (NameValue × Component InputValueDefinition) → List (Departure Place)
added_inputs_of es = flat_map (λ (e : NameValue × Component InputValueDefinition). added_input (input_entry e)) es

-- ---- arguments that are extra

abbrev pub extra_arguments_of : List (Node InputValueDefinition) → List (Node InputValueDefinition) → List (Departure Place)
extra_arguments_of wanted own = flat_map (extra_departure (input_value_trees wanted)) (map (node_tree input_value_tree) own)

abbrev pub extra_fields_of : ExtendedType → List (NameValue × Component FieldDefinition) → List (Departure Place)
extra_fields_of t es = flat_map (λ (e : NameValue × Component FieldDefinition). extra_over_field (extended_type t) (field_entry e)) es

module _ (s : SchemaTree Place) where
  abbrev pub extra_names_of : ExtendedType → List ComponentName → List (Departure Place)
  extra_names_of t names = flat_map (extra_over s (extended_type t)) (map component_name_tree names)

  -- ---- arguments and input fields

  abbrev pub inputs_of_nodes : List (Node InputValueDefinition) → List (Departure Place)
  inputs_of_nodes inputs = flat_map (input_departures s) (map (node_tree input_value_tree) inputs)

  abbrev pub arguments_in : List (NameValue × Component FieldDefinition) → List (Departure Place)
  arguments_in es = flat_map (λ (e : NameValue × Component FieldDefinition). inputs_departures s (field_entry e).1.it.it.arguments) es

  abbrev pub input_fields_in : List (NameValue × Component InputValueDefinition) → List (Departure Place)
  input_fields_in es = flat_map (λ (e : NameValue × Component InputValueDefinition). input_departures s (input_entry e).1.it) es

  -- ---- types and definitions of directives

  abbrev pub types_in : List (NameValue × ExtendedType) → List (Departure Place)
  types_in es = flat_map (λ (e : NameValue × ExtendedType). type_departures s (extended_type e.1)) es

  abbrev pub definitions_in : List (NameValue × Node DirectiveDefinition) → List (Departure Place)
  definitions_in es = flat_map (λ (e : NameValue × Node DirectiveDefinition). definition_departures s (node_tree directive_definition_tree e.1)) es
