-- Definitions of all forms (GraphQL, October 2021, sections 2.2 and 3): whether they are well-formed, and an upper bound of how deep
-- their brackets nest.
use Rattle.std.specs.Prelude.{ℕ, ◌+◌, Bool, ◌&&◌}
use Rattle.read_operations.specs.in_directives.DirectiveTree.{DirectiveDefinitionTree}
use Rattle.read_operations.specs.in_definitions.DefinitionTree.{DefinitionTree, Operation, Fragment, DirectiveDefinition, Schema, ScalarType, ObjectType, InterfaceType, UnionType, EnumType, InputObjectType, ExtendSchema, ExtendScalar, ExtendObject, ExtendInterface, ExtendUnion, ExtendEnum, ExtendInputObject}
use Rattle.graphql_names.specs.NameSyntax.{is_name}
use Rattle.round_trip.specs.WellFormed.{operation_well_formed, fragment_well_formed, directives_well_formed, input_values_well_formed, schema_well_formed, scalar_well_formed, fields_well_formed, union_well_formed, enum_well_formed, input_object_well_formed, operation_depth, fragment_depth, input_values_depth, directives_depth, schema_depth, fields_depth, enum_depth, input_object_depth}

module _ {P : Type 0} where
  abbrev pub directive_definition_well_formed : DirectiveDefinitionTree P → Bool
  directive_definition_well_formed d = is_name d.name.it && (input_values_well_formed d.arguments && directives_well_formed d.directives)

  abbrev pub definition_well_formed : DefinitionTree P → Bool
  definition_well_formed (Operation p o) = operation_well_formed o
  definition_well_formed (Fragment p f) = fragment_well_formed f
  definition_well_formed (DirectiveDefinition p d) = directive_definition_well_formed d
  definition_well_formed (Schema p d s) = schema_well_formed s
  definition_well_formed (ScalarType p d t) = scalar_well_formed t
  definition_well_formed (ObjectType p d t) = fields_well_formed t
  definition_well_formed (InterfaceType p d t) = fields_well_formed t
  definition_well_formed (UnionType p d t) = union_well_formed t
  definition_well_formed (EnumType p d t) = enum_well_formed t
  definition_well_formed (InputObjectType p d t) = input_object_well_formed t
  definition_well_formed (ExtendSchema p s) = schema_well_formed s
  definition_well_formed (ExtendScalar p t) = scalar_well_formed t
  definition_well_formed (ExtendObject p t) = fields_well_formed t
  definition_well_formed (ExtendInterface p t) = fields_well_formed t
  definition_well_formed (ExtendUnion p t) = union_well_formed t
  definition_well_formed (ExtendEnum p t) = enum_well_formed t
  definition_well_formed (ExtendInputObject p t) = input_object_well_formed t

  abbrev pub definition_depth : DefinitionTree P → ℕ
  definition_depth (Operation p o) = operation_depth o
  definition_depth (Fragment p f) = fragment_depth f
  definition_depth (DirectiveDefinition p d) = input_values_depth d.arguments + directives_depth d.directives
  definition_depth (Schema p d s) = schema_depth s
  definition_depth (ScalarType p d t) = directives_depth t.directives
  definition_depth (ObjectType p d t) = fields_depth t
  definition_depth (InterfaceType p d t) = fields_depth t
  definition_depth (UnionType p d t) = directives_depth t.directives
  definition_depth (EnumType p d t) = enum_depth t
  definition_depth (InputObjectType p d t) = input_object_depth t
  definition_depth (ExtendSchema p s) = schema_depth s
  definition_depth (ExtendScalar p t) = directives_depth t.directives
  definition_depth (ExtendObject p t) = fields_depth t
  definition_depth (ExtendInterface p t) = fields_depth t
  definition_depth (ExtendUnion p t) = directives_depth t.directives
  definition_depth (ExtendEnum p t) = enum_depth t
  definition_depth (ExtendInputObject p t) = input_object_depth t
