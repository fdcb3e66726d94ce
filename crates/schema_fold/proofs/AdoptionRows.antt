-- What the settings of a builder make of lists, by computation.
use Rattle.std.proofs.Common.{◌≡◌, ℕ, List, [], ◌∷◌, codes, refl, true, false}
use Rattle.tree_directives.specs.declared.operation_type.OperationType.TheVariants as operation
use Rattle.schema_types.specs.Out.{written}
use Rattle.schema_fold.specs.NumberedDefinition.{Definitions}
use Rattle.schema_fold.specs.BuiltIn.{built_in_scalars}
use Rattle.schema_fold.specs.Fold.{fold}
use Rattle.schema_fold.specs.Adoption.{Settings, settled}
use Rattle.schema_fold.proofs.Samples.{field, root, object, extend_object, scalar, schema, extend_schema}

abbrev int : List ℕ
int = codes "Int"

abbrev query : List ℕ
query = codes "Query"

abbrev written_so : Settings → Definitions → Definitions
written_so s ds = written (fold built_in_scalars 1 (settled built_in_scalars s ds))

abbrev adopting : Settings
adopting = record { adopts = true; ignores = false }

abbrev ignoring : Settings
ignoring = record { adopts = false; ignores = true }

-- an orphan extension is adopted, and the schema has no root
type_adopted : written_so adopting (extend_object (codes "T") [] [] (field (codes "a") int ∷ []) ∷ [])
    ≡ schema [] [] ∷ object (codes "T") [] [] [] ∷ extend_object (codes "T") [] [] (field (codes "a") int ∷ []) ∷ []
type_adopted = refl

-- the extension of a schema that is not defined is adopted
schema_adopted : written_so adopting (extend_schema [] (root operation.Query (codes "Q") ∷ []) ∷ object (codes "Q") [] [] (field (codes "a") int ∷ []) ∷ [])
    ≡ schema [] [] ∷ extend_schema [] (root operation.Query (codes "Q") ∷ []) ∷ object (codes "Q") [] [] (field (codes "a") int ∷ []) ∷ []
schema_adopted = refl

-- two names in the order of their first orphans
two_adopted : written_so adopting (
    extend_object (codes "B") [] [] (field (codes "b") int ∷ []) ∷ extend_object query [] [] (field (codes "a") int ∷ []) ∷ extend_object (codes "B") [] [] (field (codes "c") int ∷ []) ∷ [])
    ≡ object (codes "B") [] [] [] ∷ extend_object (codes "B") [] [] (field (codes "b") int ∷ []) ∷ extend_object (codes "B") [] [] (field (codes "c") int ∷ [])
    ∷ object query [] [] [] ∷ extend_object query [] [] (field (codes "a") int ∷ []) ∷ []
two_adopted = refl

-- a redefinition is passed over
redefinition_ignored : written_so ignoring (scalar int ∷ object query [] [] (field (codes "a") int ∷ []) ∷ []) ≡ object query [] [] (field (codes "a") int ∷ []) ∷ []
redefinition_ignored = refl
