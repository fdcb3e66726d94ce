-- Private: leads to `folded_types`. The fold of types with the extensions under their names.
use Rattle.std.specs.Prelude.{◌≡◌, ℕ, List, ◌++◌, map}
use Rattle.std.specs.List.{flat_map}
use Rattle.graphql_names.specs.Placed.{Place}
use Rattle.schema_fold_index.specs.in_components.Lists.{firsts}
use Rattle.schema_fold_index.specs.in_components.Names.{Entries}
use Rattle.schema_fold_index.specs.in_schema_types.SchemaTree.{SchemaType}
use Rattle.schema_fold_index.specs.in_schema_types.TypeParts.{TypeDefinition}
use Rattle.schema_fold_index.specs.in_fold.NumberedDefinition.{NumberedDefinition, type_name}
use Rattle.schema_fold_index.specs.in_fold.Fold.{folded_type}
use Rattle.schema_fold_index.specs.in_fold.BuildErrors.{BuildFault}
use Rattle.schema_fold_types.specs.TypeFaults.{faults_of_type}

-- ---- types with the extensions under their names

module _ (extensions : List ℕ → List NumberedDefinition) where
  abbrev pub type_by : TypeDefinition Place → SchemaType Place
  type_by t = folded_type (extensions (type_name t)) t

  abbrev pub types_by : List (TypeDefinition Place) → Entries (SchemaType Place)
  types_by ts = map (λ t. (type_name t, type_by t)) (firsts type_name ts)

  abbrev pub faults_by : List (TypeDefinition Place) → List BuildFault
  faults_by ts = flat_map (λ t. faults_of_type (extensions (type_name t)) t) (firsts type_name ts)

  -- if the types and faults were those of some definitions, they are now those of these followed by `more`
  abbrev pub FoldsOn : List (TypeDefinition Place) → Entries (SchemaType Place) → List BuildFault → Entries (SchemaType Place) → List BuildFault → Type 0
  FoldsOn more types faults types' faults' = (before : List (TypeDefinition Place)) (start : List BuildFault) → types ≡ types_by before → faults ≡ start ++ faults_by before
      → (types' ≡ types_by (before ++ more)) × (faults' ≡ start ++ faults_by (before ++ more))
