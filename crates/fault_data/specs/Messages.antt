-- The message of a broken rule: its template, filled with its data.
use Rattle.std.specs.Prelude.{ℕ, List, ◌++◌, codes, Option, None, Some}
use Rattle.tree_literals.specs.ValueLayout.{type_text}
use Rattle.tree_literals.specs.ValueQueries.{value_description}
use Rattle.tree_directives.specs.DirectivePlaces.{location_keyword}
use Rattle.schema_coordinates.specs.Coordinate.{printed}
use Rattle.rule_definitions.specs.Diagnostics.{Diagnostic, QueryRootOperationType, UndefinedDefinition, RootOperationObjectType, DuplicateRootOperationType, ReservedName, OutputType, InputType, EmptyFieldSet, EmptyValueSet, EmptyMemberSet, EmptyInputValueSet, UnionMemberObjectType, RecursiveInterfaceDefinition, TransitiveImplementedInterfaces, MissingInterfaceField, InvalidImplementationFieldType, MissingInterfaceFieldArgument, InvalidImplementationFieldArgumentType, ExtraRequiredImplementationFieldArgument, UniqueInputValue, RecursiveInputObjectDefinition, RecursiveDirectiveDefinition, DeeplyNestedType, UndefinedDirective, UniqueDirective, UnsupportedLocation, UniqueArgument, UndefinedArgument, RequiredArgument, DisallowedVariableUsage, UnsupportedValueType, IntCoercionError, FloatCoercionError, UndefinedVariable, UndefinedEnumValue, UndefinedInputValue, RequiredField, UniqueVariable, VariableInputType, UnusedVariable, MissingSubselection, UndefinedFragment, InvalidFragmentTarget, InvalidFragmentSpread, UnusedFragment, RecursiveFragmentDefinition, RecursionError}

-- `type.field`
abbrev pub dotted : List ℕ → List ℕ → List ℕ
dotted type field = type ++ (codes "." ++ field)

-- a fragment with its name, or an inline fragment
abbrev pub fragment_words : Option (List ℕ) → List ℕ
fragment_words None = codes "inline fragment"
fragment_words (Some name) = codes "fragment `" ++ (name ++ codes "`")

module _ {P E : Type 0} where
  abbrev pub diagnostic_message : Diagnostic P E → List ℕ
  -- ---- schemas
  diagnostic_message QueryRootOperationType = codes "missing query root operation type in schema definition"
  diagnostic_message (UndefinedDefinition name) = codes "cannot find type `" ++ (name ++ codes "` in this document")
  diagnostic_message (RootOperationObjectType name describe_type) = codes "`" ++ (name ++ codes "` field must return an object type")
  diagnostic_message (DuplicateRootOperationType name original_operation original_definition redefined_operation redefined_definition) = codes "the same type `" ++ (name ++ codes "` must not be used for multiple root operation types")
  diagnostic_message (ReservedName name describe) = describe ++ (codes " cannot be named `" ++ (name ++ codes "` as names starting with two underscores are reserved"))
  diagnostic_message (OutputType name describe_type type_location) = codes "`" ++ (name ++ codes "` field must return an output type")
  diagnostic_message (InputType name describe_type type_location) = codes "`" ++ (name ++ codes "` field must be of an input type")
  diagnostic_message (EmptyFieldSet type_name type_location extensions_locations) = codes "`" ++ (type_name ++ codes "` has no fields")
  diagnostic_message (EmptyValueSet type_name type_location extensions_locations) = codes "`" ++ (type_name ++ codes "` has no enum values")
  diagnostic_message (EmptyMemberSet type_name type_location extensions_locations) = codes "`" ++ (type_name ++ codes "` has no member types")
  diagnostic_message (EmptyInputValueSet type_name type_location extensions_locations) = codes "`" ++ (type_name ++ codes "` has no input values")
  diagnostic_message (UnionMemberObjectType name describe_type) = codes "union member `" ++ (name ++ codes "` must be an object type")
  diagnostic_message (RecursiveInterfaceDefinition name) = codes "interface " ++ (name ++ codes " cannot implement itself")
  diagnostic_message (TransitiveImplementedInterfaces interface via_interface transitive_interface_location missing_interface) = codes "interface `" ++ (interface ++ (codes "` declares that it implements `" ++ (via_interface ++ (codes "`, but to do so it must also implement `" ++ (missing_interface ++ codes "`")))))
  diagnostic_message (MissingInterfaceField name implements_location interface field field_location) = codes "type `" ++ (name ++ (codes "` does not satisfy interface `" ++ (interface ++ (codes "`: missing field `" ++ (field ++ codes "`")))))
  diagnostic_message (InvalidImplementationFieldType name interface field interface_type actual_type field_location interface_field_location) = codes "interface field `" ++ (dotted interface field ++ (codes "` expects type `" ++ (type_text interface_type ++ (codes "` but `" ++ (dotted name field ++ (codes "` of type `" ++ (type_text actual_type ++ codes "` is not a proper subtype")))))))
  diagnostic_message (MissingInterfaceFieldArgument name interface field argument field_location interface_argument_location) = codes "interface field `" ++ (dotted interface field ++ (codes "` expects argument `" ++ (argument ++ (codes "` but `" ++ (dotted name field ++ codes "` does not provide it")))))
  diagnostic_message (InvalidImplementationFieldArgumentType name interface field argument interface_type actual_type argument_location interface_argument_location) = codes "interface field `" ++ (dotted interface field ++ (codes "` expects argument `" ++ (argument ++ (codes "` of type `" ++ (type_text interface_type ++ (codes "` but `" ++ (dotted name field ++ (codes "` provides type `" ++ (type_text actual_type ++ codes "`")))))))))
  diagnostic_message (ExtraRequiredImplementationFieldArgument name interface field argument argument_location interface_field_location) = codes "`" ++ (dotted name field ++ (codes "` has extra required argument `" ++ (argument ++ (codes "` not present in interface `" ++ (dotted interface field ++ codes "`")))))
  diagnostic_message (UniqueInputValue name original_definition redefined_definition) = codes "the value `" ++ (name ++ codes "` is defined multiple times")
  diagnostic_message (RecursiveInputObjectDefinition name trace) = codes "`" ++ (name ++ codes "` input object cannot reference itself")
  diagnostic_message (RecursiveDirectiveDefinition name trace) = codes "`" ++ (name ++ codes "` directive definition cannot reference itself")
  diagnostic_message (DeeplyNestedType name describe_type) = codes "`" ++ (name ++ codes "` contains too much nesting")
  -- ---- uses of directives and arguments
  diagnostic_message (UndefinedDirective name) = codes "cannot find directive `@" ++ (name ++ codes "` in this document")
  diagnostic_message (UniqueDirective name original_application) = codes "non-repeatable directive " ++ (name ++ codes " can only be used once per location")
  diagnostic_message (UnsupportedLocation name location valid_locations definition_location) = name ++ (codes " directive is not supported for " ++ (location_keyword location ++ codes " location"))
  diagnostic_message (UniqueArgument name original_definition redefined_definition) = codes "the argument `" ++ (name ++ codes "` is provided multiple times")
  diagnostic_message (UndefinedArgument name coordinate definition_location) = codes "the argument `" ++ (name ++ (codes "` is not supported by `" ++ (printed coordinate ++ codes "`")))
  diagnostic_message (RequiredArgument name coordinate expected_type definition_location) = codes "the required argument `" ++ (printed coordinate ++ codes "` is not provided")
  diagnostic_message (DisallowedVariableUsage variable variable_type variable_location argument argument_type argument_location) = codes "variable `$" ++ (variable ++ (codes "` of type `" ++ (type_text variable_type ++ (codes "` cannot be used for argument `" ++ (argument ++ (codes "` of type `" ++ (type_text argument_type ++ codes "`")))))))
  -- ---- values
  diagnostic_message (UnsupportedValueType value ty definition_location) = codes "expected value of type " ++ (type_text ty ++ (codes ", found " ++ value_description value))
  diagnostic_message (IntCoercionError value) = codes "int cannot represent non 32-bit signed integer value"
  diagnostic_message (FloatCoercionError value) = codes "float cannot represent non-finite 64-bit floating point value"
  diagnostic_message (UndefinedVariable name) = codes "variable `$" ++ (name ++ codes "` is not defined")
  diagnostic_message (UndefinedEnumValue value definition definition_location) = codes "value `" ++ (value ++ (codes "` does not exist on `" ++ (definition ++ codes "`")))
  diagnostic_message (UndefinedInputValue value definition definition_location) = codes "field `" ++ (value ++ (codes "` does not exist on `" ++ (definition ++ codes "`")))
  diagnostic_message (RequiredField name coordinate expected_type definition_location) = codes "the required field `" ++ (printed coordinate ++ codes "` is not provided")
  -- ---- documents
  diagnostic_message (UniqueVariable name original_definition redefined_definition) = codes "the variable `$" ++ (name ++ codes "` is declared multiple times")
  diagnostic_message (VariableInputType name ty describe_type) = codes "`$" ++ (name ++ codes "` variable must be of an input type")
  diagnostic_message (UnusedVariable name) = codes "unused variable: `$" ++ (name ++ codes "`")
  diagnostic_message (MissingSubselection coordinate output_type describe_type) = codes "interface, union and object types must have a subselection set"
  diagnostic_message (UndefinedFragment name) = codes "cannot find fragment `" ++ (name ++ codes "` in this document")
  diagnostic_message (InvalidFragmentTarget name ty) = fragment_words name ++ codes " must have a composite type in its type condition"
  diagnostic_message (InvalidFragmentSpread name type_name type_condition fragment_location type_location) = fragment_words name ++ (codes " with type condition `" ++ (type_condition ++ (codes "` cannot be applied to `" ++ (type_name ++ codes "`"))))
  diagnostic_message (UnusedFragment name) = codes "fragment `" ++ (name ++ codes "` must be used in an operation")
  diagnostic_message (RecursiveFragmentDefinition head_location name trace) = codes "`" ++ (name ++ codes "` fragment cannot reference itself")
  diagnostic_message RecursionError = codes "too much recursion"
