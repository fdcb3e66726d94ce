-- The text of each breach of a folding rule: its template, filled with the data of the breach.
use Rattle.std.specs.Prelude.{ℕ, List, ◌++◌, codes}
use Rattle.schema_types.specs.in_operations.OperationQueries.{operation_keyword}
use Rattle.schema_fold.specs.BuildErrors as breach
use Rattle.schema_fold.specs.BuildErrors.{Breach}

-- `type_name` has `name` more than once
abbrev pub has_twice : List ℕ → List ℕ → List ℕ
has_twice type_name name = codes "`" ++ (type_name ++ (codes "` has `" ++ (name ++ codes "` more than once")))

abbrev pub message : Breach → List ℕ
message breach.ExecutableDefinition = codes "a schema text must not hold an operation or fragment"
message breach.SchemaDefinitionCollision = codes "the schema is defined more than once"
message (breach.DirectiveDefinitionCollision name) = codes "`" ++ (name ++ codes "` is defined more than once")
message (breach.TypeDefinitionCollision name) = codes "`" ++ (name ++ codes "` is defined more than once")
message (breach.BuiltInScalarTypeRedefinition name) = codes "the built-in scalar `" ++ (name ++ codes "` must not be defined")
message breach.OrphanSchemaExtension = codes "extension of a schema that is not defined"
message (breach.OrphanTypeExtension name) = codes "extension of the type `" ++ (name ++ codes "`, which is not defined")
message (breach.TypeExtensionKindMismatch name) = codes "the extension of `" ++ (name ++ codes "` is of another kind than its definition")
message (breach.DuplicateRootOperation operation) = codes "the " ++ (operation_keyword operation ++ codes " root is given more than once")
message (breach.DuplicateImplementsInterfaceInObject type_name name) = has_twice type_name name
message (breach.DuplicateImplementsInterfaceInInterface type_name name) = has_twice type_name name
message (breach.ObjectFieldNameCollision type_name name) = has_twice type_name name
message (breach.InterfaceFieldNameCollision type_name name) = has_twice type_name name
message (breach.EnumValueNameCollision type_name name) = has_twice type_name name
message (breach.UnionMemberNameCollision type_name name) = has_twice type_name name
message (breach.InputFieldNameCollision type_name name) = has_twice type_name name
