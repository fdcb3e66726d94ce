-- Private: leads to `Fails` of `schema_fold`. The folding rules on one position of the list, apart from the one on directives, together (GraphQL, October 2021, section 3).
use Rattle.std.specs.Prelude.{◌↔◌, ◌⊎◌, List, Contains}
use Rattle.schema_fold_index.specs.in_fold.NumberedDefinition.{Definitions}
use Rattle.schema_fold_index.specs.in_fold.BuildErrors.{BuildFault, BreaksSomewhere, ExecutableDefinitionAt, SchemaDefinitionCollisionAt, TypeDefinitionCollisionAt, BuiltInScalarTypeRedefinitionAt, OrphanSchemaExtensionAt, OrphanTypeExtensionAt, TypeExtensionKindMismatchAt}

-- one of these rules is broken with this fault at some position of the texts
pub data Misplaced (built_in texts : Definitions) (fault : BuildFault) : Type 0 where
  executable_definition : BreaksSomewhere built_in texts ExecutableDefinitionAt fault → Misplaced built_in texts fault
  schema_definition_collision : BreaksSomewhere built_in texts SchemaDefinitionCollisionAt fault → Misplaced built_in texts fault
  type_definition_collision : BreaksSomewhere built_in texts (TypeDefinitionCollisionAt built_in texts) fault → Misplaced built_in texts fault
  built_in_scalar_type_redefinition : BreaksSomewhere built_in texts (BuiltInScalarTypeRedefinitionAt built_in texts) fault → Misplaced built_in texts fault
  orphan_schema_extension : BreaksSomewhere built_in texts (OrphanSchemaExtensionAt built_in texts) fault → Misplaced built_in texts fault
  orphan_type_extension : BreaksSomewhere built_in texts (OrphanTypeExtensionAt built_in texts) fault → Misplaced built_in texts fault
  type_extension_kind_mismatch : BreaksSomewhere built_in texts (TypeExtensionKindMismatchAt built_in texts) fault → Misplaced built_in texts fault

-- the faults that are added are those of these rules
abbrev pub TellsMisplaced : Definitions → Definitions → List BuildFault → List BuildFault → Type 0
TellsMisplaced built_in texts old new = (f : BuildFault) → Contains new f ↔ (Contains old f ⊎ Misplaced built_in texts f)
