-- What is told of small lists, by computation, after the built-in scalars.
use Rattle.std.proofs.Common.{◌≡◌, ℕ, List, [], ◌∷◌, map, codes, refl}
use Rattle.tree_operations.specs.in_directives.declared.operation_type.OperationType.TheVariants as operation
use Rattle.schema_fold_index.specs.in_fold.NumberedDefinition.{Definitions}
use Rattle.schema_fold_index.specs.in_fold.BuiltIn.{built_in_scalars}
use Rattle.schema_fold_index.specs.in_fold.BuildErrors.{Breach, SchemaDefinitionCollision, TypeDefinitionCollision, BuiltInScalarTypeRedefinition, OrphanSchemaExtension, OrphanTypeExtension, TypeExtensionKindMismatch}
use Rattle.schema_fold_index.proofs.in_fold.Samples.{field, root, object, interface, extend_object, scalar, extend_scalar, schema, extend_schema}
use Rattle.schema_fold_types.specs.DefinedKinds.{misplaced_faults}

abbrev told : Definitions → List Breach
told ds = map (λ f. f.breach) (misplaced_faults built_in_scalars ds)

abbrev int : List ℕ
int = codes "Int"

abbrev query : List ℕ
query = codes "Query"

abbrev t : List ℕ
t = codes "T"

-- an extension in front of its definition, a schema extension beside an implicit root, a second operation's root
nothing : told (extend_object t [] [] (field (codes "b") int ∷ []) ∷ extend_schema [] [] ∷ object (codes "Subscription") [] [] [] ∷ object t [] [] [] ∷ []) ≡ []
nothing = refl

-- each later definition of a name is told; what is built in counts as the first
collisions : told (scalar int ∷ object t [] [] [] ∷ schema [] [] ∷ interface t [] ∷ schema [] [] ∷ scalar t ∷ object (codes "ID") [] [] [] ∷ [])
    ≡ BuiltInScalarTypeRedefinition int ∷ TypeDefinitionCollision t ∷ SchemaDefinitionCollision ∷ TypeDefinitionCollision t ∷ BuiltInScalarTypeRedefinition (codes "ID") ∷ []
collisions = refl

-- the first definition of a name gives its kind, and no scalar is an implicit root
extensions : told (extend_schema [] (root operation.Query query ∷ []) ∷ scalar query ∷ extend_scalar t [] ∷ extend_object query [] [] [] ∷ object query [] [] [] ∷ extend_object int [] [] [] ∷ [])
    ≡ TypeDefinitionCollision query ∷ OrphanSchemaExtension ∷ OrphanTypeExtension t ∷ TypeExtensionKindMismatch query ∷ TypeExtensionKindMismatch int ∷ []
extensions = refl
