-- What contracts see of `DiagnosticData`: all that `==` compares.
use Rattle.std.specs.Prelude.{List, map, Vec}
use Rattle.std.specs.Option.{option_map}
use Rattle.std.specs.String.{string_bytes}
use Rattle.std.specs.declared.alloc.Global.{Global}
use Rattle.graphql_names.specs.Node.{content}
use Rattle.graphql_names.specs.Placed.{Placed, Place, node_tree}
use Rattle.graphql_names.specs.declared.node.Node.{Node}
use Rattle.tree_literals.specs.TypeTree.{type_tree, unplaced_type}
use Rattle.tree_literals.specs.ValueTree.{value_tree, unplaced_value}
use Rattle.tree_literals.specs.declared.ty.«Type».{«Type»}
use Rattle.tree_directives.specs.DirectiveTree.{DirectiveTree, InputValueTree, directive_tree, directives_tree, input_value_tree, unplaced_directive, unplaced_directives, unplaced_input_value}
use Rattle.tree_directives.specs.declared.directive.Directive.{Directive}
use Rattle.tree_directives.specs.declared.input_value.InputValueDefinition.{InputValueDefinition}
use Rattle.schema_coordinates.specs.CoordinateView.{schema_coordinate, attribute_coordinate}
use Rattle.document_typed_selections.specs.declared.selection.FragmentSpread.{FragmentSpread}
use Rattle.rule_definitions.specs.Diagnostics as tree
use Rattle.rule_definitions.specs.Diagnostics.{Diagnostic, UnplacedType, SpreadTree}
use Rattle.fault_data.specs.declared.diagnostic_data.DiagnosticData.{DiagnosticData}
use Rattle.fault_data.specs.declared.diagnostic_data.DiagnosticData.TheVariants as rust

abbrev pub plain_reference : «Type» → UnplacedType
plain_reference t = unplaced_type (type_tree t)

abbrev pub plain_directive : Directive → DirectiveTree (Unit {0})
plain_directive d = unplaced_directive (directive_tree d)

abbrev pub plain_input : InputValueDefinition → InputValueTree (Unit {0})
plain_input v = unplaced_input_value (input_value_tree v)

abbrev pub plain_spread : FragmentSpread → SpreadTree
plain_spread s = record { fragment_name = s.fragment_name.text; directives = unplaced_directives (directives_tree s.directives) }

-- the nodes of a trace, each with its place
abbrev pub trace_of : {A B : Type 0} → (A → B) → Vec (Node A) Global → List (Placed Place B)
trace_of f trace = map (node_tree f) trace.items

abbrev pub diagnostic_of : DiagnosticData → Diagnostic Place (List Place)
diagnostic_of rust.QueryRootOperationType = tree.QueryRootOperationType
diagnostic_of (rust.UndefinedDefinition name) = tree.UndefinedDefinition name.text
diagnostic_of (rust.RootOperationObjectType name describe_type) = tree.RootOperationObjectType name.text describe_type.now
diagnostic_of (rust.DuplicateRootOperationType name original_operation original_definition redefined_operation redefined_definition) = tree.DuplicateRootOperationType name.text original_operation original_definition redefined_operation redefined_definition
diagnostic_of (rust.ReservedName name describe) = tree.ReservedName name.text describe.now
diagnostic_of (rust.OutputType name describe_type type_location) = tree.OutputType name.text describe_type.now type_location
diagnostic_of (rust.InputType name describe_type type_location) = tree.InputType name.text describe_type.now type_location
diagnostic_of (rust.EmptyFieldSet type_name type_location extensions_locations) = tree.EmptyFieldSet type_name.text type_location extensions_locations.items
diagnostic_of (rust.EmptyValueSet type_name type_location extensions_locations) = tree.EmptyValueSet type_name.text type_location extensions_locations.items
diagnostic_of (rust.EmptyMemberSet type_name type_location extensions_locations) = tree.EmptyMemberSet type_name.text type_location extensions_locations.items
diagnostic_of (rust.EmptyInputValueSet type_name type_location extensions_locations) = tree.EmptyInputValueSet type_name.text type_location extensions_locations.items
diagnostic_of (rust.UnionMemberObjectType name describe_type) = tree.UnionMemberObjectType name.text describe_type.now
diagnostic_of (rust.RecursiveInterfaceDefinition name) = tree.RecursiveInterfaceDefinition name.text
diagnostic_of (rust.TransitiveImplementedInterfaces interface via_interface transitive_interface_location missing_interface) = tree.TransitiveImplementedInterfaces interface.text via_interface.text transitive_interface_location missing_interface.text
diagnostic_of (rust.MissingInterfaceField name implements_location interface field field_location) = tree.MissingInterfaceField name.text implements_location interface.text field.text field_location
diagnostic_of (rust.InvalidImplementationFieldType name interface field interface_type actual_type field_location interface_field_location) = tree.InvalidImplementationFieldType name.text interface.text field.text (plain_reference interface_type) (plain_reference actual_type) field_location interface_field_location
diagnostic_of (rust.MissingInterfaceFieldArgument name interface field argument field_location interface_argument_location) = tree.MissingInterfaceFieldArgument name.text interface.text field.text argument.text field_location interface_argument_location
diagnostic_of (rust.InvalidImplementationFieldArgumentType name interface field argument interface_type actual_type argument_location interface_argument_location) = tree.InvalidImplementationFieldArgumentType name.text interface.text field.text argument.text (plain_reference (content interface_type)) (plain_reference (content actual_type)) argument_location interface_argument_location
diagnostic_of (rust.ExtraRequiredImplementationFieldArgument name interface field argument argument_location interface_field_location) = tree.ExtraRequiredImplementationFieldArgument name.text interface.text field.text argument.text argument_location interface_field_location
diagnostic_of (rust.UniqueInputValue name original_definition redefined_definition) = tree.UniqueInputValue name.text original_definition redefined_definition
diagnostic_of (rust.RecursiveInputObjectDefinition name trace) = tree.RecursiveInputObjectDefinition name.text (trace_of plain_input trace)
diagnostic_of (rust.RecursiveDirectiveDefinition name trace) = tree.RecursiveDirectiveDefinition name.text (trace_of plain_directive trace)
diagnostic_of (rust.DeeplyNestedType name describe_type) = tree.DeeplyNestedType name.text describe_type.now
diagnostic_of (rust.UndefinedDirective name) = tree.UndefinedDirective name.text
diagnostic_of (rust.UniqueDirective name original_application) = tree.UniqueDirective name.text original_application
diagnostic_of (rust.UnsupportedLocation name location valid_locations definition_location) = tree.UnsupportedLocation name.text location valid_locations.items definition_location
diagnostic_of (rust.UniqueArgument name original_definition redefined_definition) = tree.UniqueArgument name.text original_definition redefined_definition
diagnostic_of (rust.UndefinedArgument name coordinate definition_location) = tree.UndefinedArgument name.text (schema_coordinate coordinate) definition_location
diagnostic_of (rust.RequiredArgument name coordinate expected_type definition_location) = tree.RequiredArgument name.text (schema_coordinate coordinate) (plain_reference (content expected_type)) definition_location
diagnostic_of (rust.DisallowedVariableUsage variable variable_type variable_location argument argument_type argument_location) = tree.DisallowedVariableUsage variable.text (plain_reference variable_type) variable_location argument.text (plain_reference argument_type) argument_location
diagnostic_of (rust.UnsupportedValueType value ty definition_location) = tree.UnsupportedValueType (unplaced_value (value_tree (content value))) (plain_reference (content ty)) definition_location
diagnostic_of (rust.IntCoercionError value) = tree.IntCoercionError (string_bytes value)
diagnostic_of (rust.FloatCoercionError value) = tree.FloatCoercionError (string_bytes value)
diagnostic_of (rust.UndefinedVariable name) = tree.UndefinedVariable name.text
diagnostic_of (rust.UndefinedEnumValue value definition definition_location) = tree.UndefinedEnumValue value.text definition.text definition_location
diagnostic_of (rust.UndefinedInputValue value definition definition_location) = tree.UndefinedInputValue value.text definition.text definition_location
diagnostic_of (rust.RequiredField name coordinate expected_type definition_location) = tree.RequiredField name.text (attribute_coordinate coordinate) (plain_reference (content expected_type)) definition_location
diagnostic_of (rust.UniqueVariable name original_definition redefined_definition) = tree.UniqueVariable name.text original_definition redefined_definition
diagnostic_of (rust.VariableInputType name ty describe_type) = tree.VariableInputType name.text (plain_reference (content ty)) describe_type.now
diagnostic_of (rust.UnusedVariable name) = tree.UnusedVariable name.text
diagnostic_of (rust.MissingSubselection coordinate output_type describe_type) = tree.MissingSubselection (attribute_coordinate coordinate) output_type.text describe_type.now
diagnostic_of (rust.UndefinedFragment name) = tree.UndefinedFragment name.text
diagnostic_of (rust.InvalidFragmentTarget name ty) = tree.InvalidFragmentTarget (option_map (λ n. n.text) name) ty.text
diagnostic_of (rust.InvalidFragmentSpread name type_name type_condition fragment_location type_location) = tree.InvalidFragmentSpread (option_map (λ n. n.text) name) type_name.text type_condition.text fragment_location type_location
diagnostic_of (rust.UnusedFragment name) = tree.UnusedFragment name.text
diagnostic_of (rust.RecursiveFragmentDefinition head_location name trace) = tree.RecursiveFragmentDefinition head_location name.text (trace_of plain_spread trace)
diagnostic_of rust.RecursionError = tree.RecursionError
