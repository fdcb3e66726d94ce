use Rattle.round_trip.proofs.EqualTexts.{equal_types, equal_values, equal_operations, equal_fragments, equal_selections, equal_documents}
use Rattle.round_trip.proofs.EqualParts.{equal_argument, equal_arguments, equal_directive, equal_directives, equal_directive_list, equal_variable, equal_variables, equal_selection, equal_input_value, equal_argument_definitions, equal_field_definition, equal_enum_value, equal_root, equal_fields, equal_enum_values, equal_input_fields, equal_roots, equal_default_value, equal_interfaces, equal_members, equal_definition}
use Rattle.round_trip.proofs.printed.equal_texts_are_of_equal_trees.Goals as goal

pub returns : goal.returns
returns c = record {
  types = equal_types;
  values = equal_values;
  operations = equal_operations;
  fragments = equal_fragments;
  selections = equal_selections;
  documents = equal_documents;
  argument = equal_argument;
  arguments = equal_arguments;
  directive = equal_directive;
  directives = equal_directives;
  directive_list = equal_directive_list;
  default_value = equal_default_value;
  variable = equal_variable;
  variables = equal_variables;
  selection = equal_selection;
  input_value = equal_input_value;
  argument_definitions = equal_argument_definitions;
  field_definition = equal_field_definition;
  enum_value = equal_enum_value;
  root = equal_root;
  fields = equal_fields;
  enum_values = equal_enum_values;
  input_fields = equal_input_fields;
  roots = equal_roots;
  interfaces = equal_interfaces;
  members = equal_members;
  definition = equal_definition;
}
