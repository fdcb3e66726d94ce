-- Private: leads to `diagnostic_of`. Which variants are copied in the same way: those with a name and no other owned data, and the rest by topic.
use Rattle.std.specs.Prelude.{Bool, true, false, List, Option, Some, None}
use Rattle.graphql_names.specs.NameValue.{NameValue}
use Rattle.graphql_names.specs.Placed.{Place}
use Rattle.fault_data.specs.declared.diagnostic_data.DiagnosticData.{DiagnosticData}
use Rattle.fault_data.specs.declared.diagnostic_data.DiagnosticData.TheVariants as rust

-- the name, if the variant owns nothing else
abbrev pub one_name : DiagnosticData → Option NameValue
one_name (rust.UndefinedDefinition name) = Some name
one_name (rust.RootOperationObjectType name describe_type) = Some name
one_name (rust.DuplicateRootOperationType name original_operation original_definition redefined_operation redefined_definition) = Some name
one_name (rust.ReservedName name describe) = Some name
one_name (rust.OutputType name describe_type type_location) = Some name
one_name (rust.InputType name describe_type type_location) = Some name
one_name (rust.UnionMemberObjectType name describe_type) = Some name
one_name (rust.RecursiveInterfaceDefinition name) = Some name
one_name (rust.UniqueInputValue name original_definition redefined_definition) = Some name
one_name (rust.DeeplyNestedType name describe_type) = Some name
one_name (rust.UndefinedDirective name) = Some name
one_name (rust.UniqueDirective name original_application) = Some name
one_name (rust.UniqueArgument name original_definition redefined_definition) = Some name
one_name (rust.UndefinedVariable name) = Some name
one_name (rust.UniqueVariable name original_definition redefined_definition) = Some name
one_name (rust.UnusedVariable name) = Some name
one_name (rust.UndefinedFragment name) = Some name
one_name (rust.UnusedFragment name) = Some name
one_name _ = None

-- the name of a type without fields, values, members or input fields; below, the places of its extensions
abbrev pub set_name : DiagnosticData → Option NameValue
set_name (rust.EmptyFieldSet type_name type_location extensions_locations) = Some type_name
set_name (rust.EmptyValueSet type_name type_location extensions_locations) = Some type_name
set_name (rust.EmptyMemberSet type_name type_location extensions_locations) = Some type_name
set_name (rust.EmptyInputValueSet type_name type_location extensions_locations) = Some type_name
set_name _ = None

abbrev pub set_places : DiagnosticData → Option (List Place)
set_places (rust.EmptyFieldSet type_name type_location extensions_locations) = Some extensions_locations.items
set_places (rust.EmptyValueSet type_name type_location extensions_locations) = Some extensions_locations.items
set_places (rust.EmptyMemberSet type_name type_location extensions_locations) = Some extensions_locations.items
set_places (rust.EmptyInputValueSet type_name type_location extensions_locations) = Some extensions_locations.items
set_places _ = None

-- the data are about a type that does not implement an interface as it must
abbrev pub is_of_implementation : DiagnosticData → Bool
is_of_implementation (rust.TransitiveImplementedInterfaces interface via_interface transitive_interface_location missing_interface) = true
is_of_implementation (rust.MissingInterfaceField name implements_location interface field field_location) = true
is_of_implementation (rust.InvalidImplementationFieldType name interface field interface_type actual_type field_location interface_field_location) = true
is_of_implementation (rust.MissingInterfaceFieldArgument name interface field argument field_location interface_argument_location) = true
is_of_implementation (rust.InvalidImplementationFieldArgumentType name interface field argument interface_type actual_type argument_location interface_argument_location) = true
is_of_implementation (rust.ExtraRequiredImplementationFieldArgument name interface field argument argument_location interface_field_location) = true
is_of_implementation _ = false

-- the data are about a definition that leads back to itself
abbrev pub is_of_cycle : DiagnosticData → Bool
is_of_cycle (rust.RecursiveInputObjectDefinition name trace) = true
is_of_cycle (rust.RecursiveDirectiveDefinition name trace) = true
is_of_cycle (rust.RecursiveFragmentDefinition head_location name trace) = true
is_of_cycle _ = false

-- the data are about a use of a directive or an argument
abbrev pub is_of_use : DiagnosticData → Bool
is_of_use (rust.UnsupportedLocation name location valid_locations definition_location) = true
is_of_use (rust.UndefinedArgument name coordinate definition_location) = true
is_of_use (rust.RequiredArgument name coordinate expected_type definition_location) = true
is_of_use (rust.DisallowedVariableUsage variable variable_type variable_location argument argument_type argument_location) = true
is_of_use _ = false

-- the data are about a value
abbrev pub is_of_value : DiagnosticData → Bool
is_of_value (rust.UnsupportedValueType value ty definition_location) = true
is_of_value (rust.IntCoercionError value) = true
is_of_value (rust.FloatCoercionError value) = true
is_of_value (rust.UndefinedEnumValue value definition definition_location) = true
is_of_value (rust.UndefinedInputValue value definition definition_location) = true
is_of_value (rust.RequiredField name coordinate expected_type definition_location) = true
is_of_value _ = false

-- the data are about a part of a document
abbrev pub is_of_document : DiagnosticData → Bool
is_of_document (rust.VariableInputType name ty describe_type) = true
is_of_document (rust.MissingSubselection coordinate output_type describe_type) = true
is_of_document (rust.InvalidFragmentTarget name ty) = true
is_of_document (rust.InvalidFragmentSpread name type_name type_condition fragment_location type_location) = true
is_of_document _ = false
