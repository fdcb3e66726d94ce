-- Lists that fold and are written out, by computation, after the built-in scalars.
use Rattle.std.proofs.Common.{◌≡◌, ℕ, List, [], ◌∷◌, codes, refl, None}
use Rattle.tree_directives.specs.declared.directive_location.DirectiveLocation.TheVariants as at
use Rattle.tree_directives.specs.declared.operation_type.OperationType.TheVariants as operation
use Rattle.schema_types.specs.Out.{written}
use Rattle.schema_fold.specs.NumberedDefinition.{Definitions}
use Rattle.schema_fold.specs.BuiltIn.{built_in_scalars}
use Rattle.schema_fold.specs.Fold.{fold}
use Rattle.schema_fold.proofs.Samples.{field, use_of, root, object, interface, extend_object, directive, extend_scalar, schema, extend_schema}

abbrev int : List ℕ
int = codes "Int"

abbrev query : List ℕ
query = codes "Query"

-- what is written of a list
abbrev written_of : Definitions → Definitions
written_of ds = written (fold built_in_scalars 1 ds)

-- an extension before its definition is written after it
extension_in_front : written_of (extend_object query [] [] (field (codes "b") int ∷ []) ∷ object query [] [] (field (codes "a") int ∷ []) ∷ [])
    ≡ object query [] [] (field (codes "a") int ∷ []) ∷ extend_object query [] [] (field (codes "b") int ∷ []) ∷ []
extension_in_front = refl

-- extensions of one type are in the order in which they first appear among directives, interfaces and fields
abbrev five_extensions : Definitions
five_extensions =
    extend_object query [] [] (field (codes "withArg") (codes "String") ∷ [])
    ∷ object query [] [] (field (codes "int") int ∷ [])
    ∷ extend_object query (codes "Inter" ∷ []) [] []
    ∷ interface (codes "Inter") (field (codes "string") (codes "String") ∷ [])
    ∷ extend_object query [] (use_of (codes "customDirective") ∷ []) []
    ∷ extend_object query [] [] (field (codes "string") (codes "String") ∷ [])
    ∷ directive (codes "customDirective") (at.Object ∷ [])
    ∷ []

extensions_in_order : written_of five_extensions ≡
    directive (codes "customDirective") (at.Object ∷ [])
    ∷ object query [] [] (field (codes "int") int ∷ [])
    ∷ extend_object query [] (use_of (codes "customDirective") ∷ []) []
    ∷ extend_object query (codes "Inter" ∷ []) [] []
    ∷ extend_object query [] [] (field (codes "withArg") (codes "String") ∷ [])
    ∷ extend_object query [] [] (field (codes "string") (codes "String") ∷ [])
    ∷ interface (codes "Inter") (field (codes "string") (codes "String") ∷ [])
    ∷ []
extensions_in_order = refl

-- an implicit schema that is extended is written
schema_extended : written_of (object query [] [] (field (codes "field") int ∷ []) ∷ extend_schema (use_of (codes "dir") ∷ []) [] ∷ directive (codes "dir") (at.Schema ∷ []) ∷ [])
    ≡ schema [] (root operation.Query query ∷ []) ∷ extend_schema (use_of (codes "dir") ∷ []) [] ∷ directive (codes "dir") (at.Schema ∷ []) ∷ object query [] [] (field (codes "field") int ∷ []) ∷ []
schema_extended = refl

-- a built-in type's extension stands without a definition
built_in_extended : written_of (extend_scalar (codes "ID") (use_of (codes "d") ∷ []) ∷ directive (codes "d") (at.Scalar ∷ []) ∷ object query [] [] (field (codes "a") int ∷ []) ∷ [])
    ≡ directive (codes "d") (at.Scalar ∷ []) ∷ extend_scalar (codes "ID") (use_of (codes "d") ∷ []) ∷ object query [] [] (field (codes "a") int ∷ []) ∷ []
built_in_extended = refl

-- a schema definition that tells its roots is written where an object has another default name
abbrev one_root : Definitions
one_root = schema [] (root operation.Query query ∷ []) ∷ object query [] [] (field (codes "a") int ∷ []) ∷ object (codes "Mutation") [] [] (field (codes "b") int ∷ []) ∷ []

no_mutation_root : (fold built_in_scalars 1 one_root).definition.mutation ≡ None
no_mutation_root = refl

schema_written : written_of one_root ≡ one_root
schema_written = refl

-- and left out where its roots are the implicit ones
schema_left_out : written_of (schema [] (root operation.Query query ∷ []) ∷ object query [] [] (field (codes "a") int ∷ []) ∷ []) ≡ object query [] [] (field (codes "a") int ∷ []) ∷ []
schema_left_out = refl

-- the first of two equal fields is kept, and both of two equal applied directives
repeated : written_of (object query [] (use_of (codes "d") ∷ []) (field (codes "a") int ∷ field (codes "a") (codes "ID") ∷ []) ∷ extend_object query [] (use_of (codes "d") ∷ []) (field (codes "a") (codes "String") ∷ []) ∷ [])
    ≡ object query [] (use_of (codes "d") ∷ []) (field (codes "a") int ∷ []) ∷ extend_object query [] (use_of (codes "d") ∷ []) [] ∷ []
repeated = refl
