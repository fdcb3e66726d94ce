-- Definitions of a document (GraphQL, October 2021, sections 2.2 and 3).
use Rattle.std.specs.Prelude.{List, map, Option}
use Rattle.std.specs.Option.{option_map}
use Rattle.tree_operations.specs.Placed.{Text, unplaced_text}
use Rattle.tree_operations.specs.DirectiveTree.{DirectiveDefinitionTree, unplaced_directive_definition}
use Rattle.tree_operations.specs.OperationTree.{OperationTree, FragmentTree, unplaced_operation, unplaced_fragment}
use Rattle.tree_type_members.specs.TypeSystemTree.{SchemaParts, ScalarParts, FieldsParts, UnionParts, EnumParts, InputObjectParts, unplaced_schema, unplaced_scalar, unplaced_fields, unplaced_union, unplaced_enum, unplaced_input_object}

-- a definition with its place and, where the grammar has one, its description
pub data DefinitionTree (P : Type 0) : Type 0 where
  Operation : P → OperationTree P → DefinitionTree P
  Fragment : P → FragmentTree P → DefinitionTree P
  DirectiveDefinition : P → DirectiveDefinitionTree P → DefinitionTree P
  Schema : P → Option (Text P) → SchemaParts P → DefinitionTree P
  ScalarType : P → Option (Text P) → ScalarParts P → DefinitionTree P
  ObjectType : P → Option (Text P) → FieldsParts P → DefinitionTree P
  InterfaceType : P → Option (Text P) → FieldsParts P → DefinitionTree P
  UnionType : P → Option (Text P) → UnionParts P → DefinitionTree P
  EnumType : P → Option (Text P) → EnumParts P → DefinitionTree P
  InputObjectType : P → Option (Text P) → InputObjectParts P → DefinitionTree P
  ExtendSchema : P → SchemaParts P → DefinitionTree P
  ExtendScalar : P → ScalarParts P → DefinitionTree P
  ExtendObject : P → FieldsParts P → DefinitionTree P
  ExtendInterface : P → FieldsParts P → DefinitionTree P
  ExtendUnion : P → UnionParts P → DefinitionTree P
  ExtendEnum : P → EnumParts P → DefinitionTree P
  ExtendInputObject : P → InputObjectParts P → DefinitionTree P

abbrev pub unplaced_definition : {P : Type 0} → DefinitionTree P → DefinitionTree (Unit {0})
unplaced_definition (Operation p o) = Operation tt (unplaced_operation o)
unplaced_definition (Fragment p f) = Fragment tt (unplaced_fragment f)
unplaced_definition (DirectiveDefinition p d) = DirectiveDefinition tt (unplaced_directive_definition d)
unplaced_definition (Schema p d s) = Schema tt (option_map unplaced_text d) (unplaced_schema s)
unplaced_definition (ScalarType p d t) = ScalarType tt (option_map unplaced_text d) (unplaced_scalar t)
unplaced_definition (ObjectType p d t) = ObjectType tt (option_map unplaced_text d) (unplaced_fields t)
unplaced_definition (InterfaceType p d t) = InterfaceType tt (option_map unplaced_text d) (unplaced_fields t)
unplaced_definition (UnionType p d t) = UnionType tt (option_map unplaced_text d) (unplaced_union t)
unplaced_definition (EnumType p d t) = EnumType tt (option_map unplaced_text d) (unplaced_enum t)
unplaced_definition (InputObjectType p d t) = InputObjectType tt (option_map unplaced_text d) (unplaced_input_object t)
unplaced_definition (ExtendSchema p s) = ExtendSchema tt (unplaced_schema s)
unplaced_definition (ExtendScalar p t) = ExtendScalar tt (unplaced_scalar t)
unplaced_definition (ExtendObject p t) = ExtendObject tt (unplaced_fields t)
unplaced_definition (ExtendInterface p t) = ExtendInterface tt (unplaced_fields t)
unplaced_definition (ExtendUnion p t) = ExtendUnion tt (unplaced_union t)
unplaced_definition (ExtendEnum p t) = ExtendEnum tt (unplaced_enum t)
unplaced_definition (ExtendInputObject p t) = ExtendInputObject tt (unplaced_input_object t)

-- a document without places
abbrev pub unplaced_document : {P : Type 0} → List (DefinitionTree P) → List (DefinitionTree (Unit {0}))
unplaced_document = map unplaced_definition
