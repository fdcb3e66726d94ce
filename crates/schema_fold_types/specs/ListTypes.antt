-- Private: leads to `folded_types` and `Fails` of `schema_fold`. The types of a list with numbered extensions, and the faults of their components.
use Rattle.std.specs.Prelude.{◌≡◌, ◌↔◌, ◌⊎◌, ℕ, false, List, ◌++◌, map, is_some, Contains}
use Rattle.std.specs.List.{flat_map, list_any}
use Rattle.graphql_names.specs.Placed.{Place}
use Rattle.schema_fold_index.specs.in_components.Lists.{firsts}
use Rattle.schema_fold_index.specs.in_components.Names.{Entries}
use Rattle.schema_fold_index.specs.in_schema_types.SchemaTree.{SchemaType}
use Rattle.schema_fold_index.specs.in_schema_types.TypeParts.{TypeDefinition, type_extension_here}
use Rattle.schema_fold_index.specs.in_fold.NumberedDefinition.{Definitions, NumberedDefinition, numbered, type_name, types_in, definitions_of}
use Rattle.schema_fold_index.specs.in_fold.Fold.{folded_type, folded_types}
use Rattle.schema_fold_index.specs.in_fold.BuildErrors.{BuildFault}
use Rattle.schema_fold_types.specs.TypeFaults.{faults_of_type, FailsInType}

-- no definition in the list extends a type
abbrev pub ExtendsNone : List NumberedDefinition → Type 0
ExtendsNone list = list_any (λ d. is_some (type_extension_here d)) (definitions_of list) ≡ false

module _ (built_in texts : List NumberedDefinition) where
  -- the definitions of types that are the first of their name
  abbrev pub first_types : List (TypeDefinition Place)
  first_types = firsts type_name (types_in (definitions_of built_in) ++ types_in (definitions_of texts))

  -- the types of a list in which only the texts have extensions: `folded_types` for a list with numbered extensions
  abbrev pub types_from : Entries (SchemaType Place)
  types_from = map (λ t. (type_name t, folded_type texts t)) first_types

  -- the faults of these types: `faults_of_types` for a list with numbered extensions
  abbrev pub faults_from : List BuildFault
  faults_from = flat_map (faults_of_type texts) first_types

  -- if `built_in` extends no type and the list is that of some definitions, numbered from `first`, these are the types that they fold to
  abbrev pub FoldsTypes : Entries (SchemaType Place) → Type 0
  FoldsTypes types = ExtendsNone built_in → (first : ℕ) (ds : Definitions) → built_in ++ texts ≡ numbered first ds → types ≡ folded_types first ds

  -- if `built_in` extends no type, the faults that are added are those of the components of the list's types
  abbrev pub TellsTypes : List BuildFault → List BuildFault → Type 0
  TellsTypes old new = ExtendsNone built_in → (first : ℕ) (before after : Definitions) → built_in ++ texts ≡ numbered first (before ++ after)
      → (f : BuildFault) → Contains new f ↔ (Contains old f ⊎ FailsInType before after first f)
