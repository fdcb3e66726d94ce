-- A broken rule with its data: names and words as texts, types, values and directives without places, and a P for each place that belongs
-- to the data (GraphQL, October 2021, sections 3 and 5).
use Rattle.std.specs.Prelude.{ℕ, List, map, Option}
use Rattle.graphql_names.specs.Placed.{Placed}
use Rattle.tree_literals.specs.TypeTree.{TypeTree}
use Rattle.tree_literals.specs.ValueTree.{ValueTree}
use Rattle.tree_directives.specs.DirectiveTree.{DirectiveTree, Directives, InputValueTree}
use Rattle.tree_directives.specs.declared.directive_location.DirectiveLocation.{DirectiveLocation}
use Rattle.tree_directives.specs.declared.operation_type.OperationType.{OperationType}
use Rattle.schema_coordinates.specs.Coordinate.{Coordinate}

-- a reference to a type, without places
abbrev pub UnplacedType : Type 0
UnplacedType = TypeTree (Unit {0})

-- ...name @directives, without places
pub record SpreadTree : Type 0 where
  pub fragment_name : List ℕ
  pub directives : Directives (Unit {0})

-- P is the type of the places in the data, E that of the places of a type's extensions
pub data Diagnostic (P E : Type 0) : Type 0 where
  -- ---- schemas
  QueryRootOperationType : Diagnostic P E
  UndefinedDefinition : (name : List ℕ) → Diagnostic P E
  RootOperationObjectType : (name describe_type : List ℕ) → Diagnostic P E
  DuplicateRootOperationType : (name : List ℕ) (original_operation : OperationType) (original_definition : P) (redefined_operation : OperationType) (redefined_definition : P) → Diagnostic P E
  ReservedName : (name describe : List ℕ) → Diagnostic P E
  OutputType : (name describe_type : List ℕ) (type_location : P) → Diagnostic P E
  InputType : (name describe_type : List ℕ) (type_location : P) → Diagnostic P E
  EmptyFieldSet : (type_name : List ℕ) (type_location : P) (extensions_locations : E) → Diagnostic P E
  EmptyValueSet : (type_name : List ℕ) (type_location : P) (extensions_locations : E) → Diagnostic P E
  EmptyMemberSet : (type_name : List ℕ) (type_location : P) (extensions_locations : E) → Diagnostic P E
  EmptyInputValueSet : (type_name : List ℕ) (type_location : P) (extensions_locations : E) → Diagnostic P E
  UnionMemberObjectType : (name describe_type : List ℕ) → Diagnostic P E
  RecursiveInterfaceDefinition : (name : List ℕ) → Diagnostic P E
  TransitiveImplementedInterfaces : (interface via_interface : List ℕ) (transitive_interface_location : P) (missing_interface : List ℕ) → Diagnostic P E
  MissingInterfaceField : (name : List ℕ) (implements_location : P) (interface field : List ℕ) (field_location : P) → Diagnostic P E
  InvalidImplementationFieldType : (name interface field : List ℕ) (interface_type actual_type : UnplacedType) (field_location interface_field_location : P) → Diagnostic P E
  MissingInterfaceFieldArgument : (name interface field argument : List ℕ) (field_location interface_argument_location : P) → Diagnostic P E
  InvalidImplementationFieldArgumentType : (name interface field argument : List ℕ) (interface_type actual_type : UnplacedType) (argument_location interface_argument_location : P) → Diagnostic P E
  ExtraRequiredImplementationFieldArgument : (name interface field argument : List ℕ) (argument_location interface_field_location : P) → Diagnostic P E
  UniqueInputValue : (name : List ℕ) (original_definition redefined_definition : P) → Diagnostic P E
  RecursiveInputObjectDefinition : (name : List ℕ) (trace : List (Placed P (InputValueTree (Unit {0})))) → Diagnostic P E
  RecursiveDirectiveDefinition : (name : List ℕ) (trace : List (Placed P (DirectiveTree (Unit {0})))) → Diagnostic P E
  DeeplyNestedType : (name describe_type : List ℕ) → Diagnostic P E
  -- ---- uses of directives and arguments
  UndefinedDirective : (name : List ℕ) → Diagnostic P E
  UniqueDirective : (name : List ℕ) (original_application : P) → Diagnostic P E
  UnsupportedLocation : (name : List ℕ) (location : DirectiveLocation) (valid_locations : List DirectiveLocation) (definition_location : P) → Diagnostic P E
  UniqueArgument : (name : List ℕ) (original_definition redefined_definition : P) → Diagnostic P E
  UndefinedArgument : (name : List ℕ) (coordinate : Coordinate) (definition_location : P) → Diagnostic P E
  RequiredArgument : (name : List ℕ) (coordinate : Coordinate) (expected_type : UnplacedType) (definition_location : P) → Diagnostic P E
  DisallowedVariableUsage : (variable : List ℕ) (variable_type : UnplacedType) (variable_location : P) (argument : List ℕ) (argument_type : UnplacedType) (argument_location : P) → Diagnostic P E
  -- ---- values
  UnsupportedValueType : (value : ValueTree (Unit {0})) (ty : UnplacedType) (definition_location : P) → Diagnostic P E
  IntCoercionError : (value : List ℕ) → Diagnostic P E
  FloatCoercionError : (value : List ℕ) → Diagnostic P E
  UndefinedVariable : (name : List ℕ) → Diagnostic P E
  UndefinedEnumValue : (value definition : List ℕ) (definition_location : P) → Diagnostic P E
  UndefinedInputValue : (value definition : List ℕ) (definition_location : P) → Diagnostic P E
  RequiredField : (name : List ℕ) (coordinate : Coordinate) (expected_type : UnplacedType) (definition_location : P) → Diagnostic P E
  -- ---- documents
  UniqueVariable : (name : List ℕ) (original_definition redefined_definition : P) → Diagnostic P E
  VariableInputType : (name : List ℕ) (ty : UnplacedType) (describe_type : List ℕ) → Diagnostic P E
  UnusedVariable : (name : List ℕ) → Diagnostic P E
  MissingSubselection : (coordinate : Coordinate) (output_type describe_type : List ℕ) → Diagnostic P E
  UndefinedFragment : (name : List ℕ) → Diagnostic P E
  InvalidFragmentTarget : (name : Option (List ℕ)) (ty : List ℕ) → Diagnostic P E
  InvalidFragmentSpread : (name : Option (List ℕ)) (type_name type_condition : List ℕ) (fragment_location type_location : P) → Diagnostic P E
  UnusedFragment : (name : List ℕ) → Diagnostic P E
  RecursiveFragmentDefinition : (head_location : P) (name : List ℕ) (trace : List (Placed P SpreadTree)) → Diagnostic P E
  RecursionError : Diagnostic P E

-- the same thing at another place
abbrev pub map_place : {P Q A : Type 0} → (P → Q) → Placed P A → Placed Q A
map_place f n = record { it = n.it; place = f n.place }

module _ {P E Q F : Type 0} (p : P → Q) (e : E → F) where
  abbrev pub map_places : Diagnostic P E → Diagnostic Q F
  map_places QueryRootOperationType = QueryRootOperationType
  map_places (UndefinedDefinition name) = UndefinedDefinition name
  map_places (RootOperationObjectType name describe_type) = RootOperationObjectType name describe_type
  map_places (DuplicateRootOperationType name original_operation original_definition redefined_operation redefined_definition) = DuplicateRootOperationType name original_operation (p original_definition) redefined_operation (p redefined_definition)
  map_places (ReservedName name describe) = ReservedName name describe
  map_places (OutputType name describe_type type_location) = OutputType name describe_type (p type_location)
  map_places (InputType name describe_type type_location) = InputType name describe_type (p type_location)
  map_places (EmptyFieldSet type_name type_location extensions_locations) = EmptyFieldSet type_name (p type_location) (e extensions_locations)
  map_places (EmptyValueSet type_name type_location extensions_locations) = EmptyValueSet type_name (p type_location) (e extensions_locations)
  map_places (EmptyMemberSet type_name type_location extensions_locations) = EmptyMemberSet type_name (p type_location) (e extensions_locations)
  map_places (EmptyInputValueSet type_name type_location extensions_locations) = EmptyInputValueSet type_name (p type_location) (e extensions_locations)
  map_places (UnionMemberObjectType name describe_type) = UnionMemberObjectType name describe_type
  map_places (RecursiveInterfaceDefinition name) = RecursiveInterfaceDefinition name
  map_places (TransitiveImplementedInterfaces interface via_interface transitive_interface_location missing_interface) = TransitiveImplementedInterfaces interface via_interface (p transitive_interface_location) missing_interface
  map_places (MissingInterfaceField name implements_location interface field field_location) = MissingInterfaceField name (p implements_location) interface field (p field_location)
  map_places (InvalidImplementationFieldType name interface field interface_type actual_type field_location interface_field_location) = InvalidImplementationFieldType name interface field interface_type actual_type (p field_location) (p interface_field_location)
  map_places (MissingInterfaceFieldArgument name interface field argument field_location interface_argument_location) = MissingInterfaceFieldArgument name interface field argument (p field_location) (p interface_argument_location)
  map_places (InvalidImplementationFieldArgumentType name interface field argument interface_type actual_type argument_location interface_argument_location) = InvalidImplementationFieldArgumentType name interface field argument interface_type actual_type (p argument_location) (p interface_argument_location)
  map_places (ExtraRequiredImplementationFieldArgument name interface field argument argument_location interface_field_location) = ExtraRequiredImplementationFieldArgument name interface field argument (p argument_location) (p interface_field_location)
  map_places (UniqueInputValue name original_definition redefined_definition) = UniqueInputValue name (p original_definition) (p redefined_definition)
  map_places (RecursiveInputObjectDefinition name trace) = RecursiveInputObjectDefinition name (map (map_place p) trace)
  map_places (RecursiveDirectiveDefinition name trace) = RecursiveDirectiveDefinition name (map (map_place p) trace)
  map_places (DeeplyNestedType name describe_type) = DeeplyNestedType name describe_type
  map_places (UndefinedDirective name) = UndefinedDirective name
  map_places (UniqueDirective name original_application) = UniqueDirective name (p original_application)
  map_places (UnsupportedLocation name location valid_locations definition_location) = UnsupportedLocation name location valid_locations (p definition_location)
  map_places (UniqueArgument name original_definition redefined_definition) = UniqueArgument name (p original_definition) (p redefined_definition)
  map_places (UndefinedArgument name coordinate definition_location) = UndefinedArgument name coordinate (p definition_location)
  map_places (RequiredArgument name coordinate expected_type definition_location) = RequiredArgument name coordinate expected_type (p definition_location)
  map_places (DisallowedVariableUsage variable variable_type variable_location argument argument_type argument_location) = DisallowedVariableUsage variable variable_type (p variable_location) argument argument_type (p argument_location)
  map_places (UnsupportedValueType value ty definition_location) = UnsupportedValueType value ty (p definition_location)
  map_places (IntCoercionError value) = IntCoercionError value
  map_places (FloatCoercionError value) = FloatCoercionError value
  map_places (UndefinedVariable name) = UndefinedVariable name
  map_places (UndefinedEnumValue value definition definition_location) = UndefinedEnumValue value definition (p definition_location)
  map_places (UndefinedInputValue value definition definition_location) = UndefinedInputValue value definition (p definition_location)
  map_places (RequiredField name coordinate expected_type definition_location) = RequiredField name coordinate expected_type (p definition_location)
  map_places (UniqueVariable name original_definition redefined_definition) = UniqueVariable name (p original_definition) (p redefined_definition)
  map_places (VariableInputType name ty describe_type) = VariableInputType name ty describe_type
  map_places (UnusedVariable name) = UnusedVariable name
  map_places (MissingSubselection coordinate output_type describe_type) = MissingSubselection coordinate output_type describe_type
  map_places (UndefinedFragment name) = UndefinedFragment name
  map_places (InvalidFragmentTarget name ty) = InvalidFragmentTarget name ty
  map_places (InvalidFragmentSpread name type_name type_condition fragment_location type_location) = InvalidFragmentSpread name type_name type_condition (p fragment_location) (p type_location)
  map_places (UnusedFragment name) = UnusedFragment name
  map_places (RecursiveFragmentDefinition head_location name trace) = RecursiveFragmentDefinition (p head_location) name (map (map_place p) trace)
  map_places RecursionError = RecursionError
