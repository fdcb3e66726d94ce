-- Private: leads to `Fails` of `schema_fold`. What a list defines, and what each rule on positions tells because of it.
use Rattle.std.specs.Prelude.{◌≡◌, ℕ, Bool, false, not, ◌&&◌, ◌||◌, List, [], ◌∷◌, ◌++◌, map, Option, None, Some, if◌then◌else◌, is_some, option_to_list}
use Rattle.std.specs.List.{flat_map}
use Rattle.std.specs.Map.{lookup}
use Rattle.std.specs.Option.{option_map_or, option_or}
use Rattle.std.specs.Str.{bytes_eq}
use Rattle.graphql_names.specs.Placed.{Place}
use Rattle.schema_fold_index.specs.in_operations.OperationQueries.{default_root_name}
use Rattle.tree_operations.specs.in_directives.declared.operation_type.OperationType.{OperationType}
use Rattle.tree_operations.specs.in_directives.declared.operation_type.OperationType.TheVariants as operation
use Rattle.schema_fold_index.specs.in_definitions.DefinitionTree.{DefinitionTree}
use Rattle.schema_fold_index.specs.in_definitions.Queries.{is_executable}
use Rattle.schema_fold_index.specs.in_components.Lists.{each_place, firsts}
use Rattle.schema_fold_index.specs.in_components.Names.{Entries}
use Rattle.schema_fold_index.specs.in_schema_types.SchemaTree.{same_kind}
use Rattle.schema_fold_index.specs.in_schema_types.TypeParts.{TypeDefinition, type_here, type_extension_here}
use Rattle.schema_fold_index.specs.in_schema_types.declared.type_kind.TypeKind.{TypeKind}
use Rattle.schema_fold_index.specs.in_schema_types.declared.type_kind.TypeKind.TheVariants.{Scalar, Object}
use Rattle.schema_fold_index.specs.in_fold.NumberedDefinition.{Definitions, type_name, types_in}
use Rattle.schema_fold_index.specs.in_fold.SchemaFold.{schema_here, schema_extension_here, schema_definition_in}
use Rattle.schema_fold_index.specs.in_fold.BuildErrors.{Breach, BuildFault, At, ExecutableDefinition, SchemaDefinitionCollision, TypeDefinitionCollision, BuiltInScalarTypeRedefinition, OrphanSchemaExtension, OrphanTypeExtension, TypeExtensionKindMismatch}

-- ---- what is defined

-- the kind of the first type of each name, and whether there is a schema definition
pub record DefinedKinds : Type 0 where
  pub kinds : Entries TypeKind
  pub schema : Bool

abbrev pub first_kinds : List (TypeDefinition Place) → Entries TypeKind
first_kinds ts = map (λ t. (type_name t, t.parts.kind)) (firsts type_name ts)

abbrev pub seen_of : Definitions → DefinedKinds
seen_of ds = record { kinds = first_kinds (types_in ds); schema = is_some (schema_definition_in ds) }

-- if `old` is what some definitions define, `new` is what these followed by d define
abbrev pub Sees : DefinedKinds → DefinitionTree Place → DefinedKinds → Type 0
Sees old d new = (before : Definitions) → old ≡ seen_of before → new ≡ seen_of (before ++ d ∷ [])

-- if `old` are the kinds of some types, `new` are those of these followed by a type of that name and kind
abbrev pub SeesType : Entries TypeKind → List ℕ → TypeKind → Entries TypeKind → Type 0
SeesType old name kind new = (before : List (TypeDefinition Place)) (t : TypeDefinition Place) → type_name t ≡ name → t.parts.kind ≡ kind → old ≡ first_kinds before → new ≡ first_kinds (before ++ t ∷ [])

-- ---- what the rules ask

abbrev pub kind_in : DefinedKinds → List ℕ → Option TypeKind
kind_in seen n = lookup (bytes_eq n) seen.kinds

-- whether a scalar of that name is built in
abbrev pub is_scalar_in : DefinedKinds → List ℕ → Bool
is_scalar_in built_in n = option_map_or (λ kind. same_kind kind Scalar) (kind_in built_in n) false

module _ (built_in own : DefinedKinds) where
  -- the kind of the first type of that name: a built-in one comes before one in the texts
  abbrev pub kind_seen : List ℕ → Option TypeKind
  kind_seen n = option_or (kind_in built_in n) (kind_in own n)

  -- whether an object has the default name of the root of the operation
  abbrev pub root_seen : OperationType → Bool
  root_seen operation = option_map_or (λ kind. same_kind kind Object) (kind_seen (default_root_name operation)) false

  -- whether there is a schema definition or an implicit root
  abbrev pub schema_seen : Bool
  schema_seen = (built_in.schema || own.schema) || (root_seen operation.Query || (root_seen operation.Mutation || root_seen operation.Subscription))

-- ---- what is told of a definition

abbrev pub told_where : Bool → Breach → Option Breach
told_where b breach = if b then Some breach else None

abbrev pub executable_told : DefinitionTree Place → Option Breach
executable_told d = told_where (is_executable d) ExecutableDefinition

-- what is told of a schema definition after the definitions that are seen
abbrev pub schema_told : DefinedKinds → DefinitionTree Place → Option Breach
schema_told own d = told_where (own.schema && is_some (schema_here d)) SchemaDefinitionCollision

-- what is told of the definition of a type, by its name
module _ (built_in : DefinedKinds) where
  abbrev pub redefinition_told : List ℕ → Option Breach
  redefinition_told n = told_where (is_scalar_in built_in n) (BuiltInScalarTypeRedefinition n)

  abbrev pub scalar_redefinition_told : DefinitionTree Place → Option Breach
  scalar_redefinition_told d = option_map_or (λ t. redefinition_told (type_name t)) (type_here d) None

module _ (built_in own : DefinedKinds) where
  -- what is told of a type that is defined, by its name
  abbrev pub collision_told : List ℕ → Option Breach
  collision_told n = told_where (is_some (kind_seen built_in own n) && not (is_scalar_in built_in n)) (TypeDefinitionCollision n)

  -- what is told of a type that is extended, by its name and kind
  abbrev pub orphan_told : List ℕ → Option Breach
  orphan_told n = told_where (not (is_some (kind_seen built_in own n))) (OrphanTypeExtension n)

  abbrev pub mismatch_told : List ℕ → TypeKind → Option Breach
  mismatch_told n kind = told_where (option_map_or (λ defined. not (same_kind defined kind)) (kind_seen built_in own n) false) (TypeExtensionKindMismatch n)

  abbrev pub type_collision_told : DefinitionTree Place → Option Breach
  type_collision_told d = option_map_or (λ t. collision_told (type_name t)) (type_here d) None

  abbrev pub orphan_type_told : DefinitionTree Place → Option Breach
  orphan_type_told d = option_map_or (λ e. orphan_told e.name.it) (type_extension_here d) None

  abbrev pub kind_mismatch_told : DefinitionTree Place → Option Breach
  kind_mismatch_told d = option_map_or (λ e. mismatch_told e.name.it e.kind) (type_extension_here d) None

-- what is told of a schema extension
abbrev pub orphan_schema_told : Bool → DefinitionTree Place → Option Breach
orphan_schema_told schema_is_defined d = told_where (is_some (schema_extension_here d) && not schema_is_defined) OrphanSchemaExtension

-- ---- the faults

abbrev pub faults_at : DefinitionTree Place → Option Breach → List BuildFault
faults_at d told = map (At d) (option_to_list told)

abbrev pub faults_where : Place → Option Breach → List BuildFault
faults_where place told = map (λ breach. record { place = place; breach = breach }) (option_to_list told)

module _ (built_in : DefinedKinds) (defined : List ℕ → Bool) where
  -- what is told of the name of a type, if types with the names in `defined` are defined before it
  abbrev pub repeat_told : List ℕ → Option Breach
  repeat_told n = told_where ((is_some (kind_in built_in n) || defined n) && not (is_scalar_in built_in n)) (TypeDefinitionCollision n)

  -- the faults of a type that is defined at that place, by its name
  abbrev pub type_faults : Place → List ℕ → List BuildFault
  type_faults place n = faults_where place (repeat_told n) ++ faults_where place (redefinition_told built_in n)

-- the faults of a definition, given whether a schema definition comes before it and which type names are defined before it
abbrev pub definition_faults_after : DefinedKinds → Bool → (List ℕ → Bool) → DefinitionTree Place → List BuildFault
definition_faults_after built_in schema defined d =
    faults_at d (executable_told d) ++ (faults_at d (told_where (schema && is_some (schema_here d)) SchemaDefinitionCollision)
    ++ (faults_at d (option_map_or (λ t. repeat_told built_in defined (type_name t)) (type_here d) None) ++ faults_at d (scalar_redefinition_told built_in d)))

module _ (built_in own : DefinedKinds) where
  -- the faults of a type that is extended at that place, by its name and kind
  abbrev pub type_extension_faults : Place → List ℕ → TypeKind → List BuildFault
  type_extension_faults place n kind = faults_where place (orphan_told built_in own n) ++ faults_where place (mismatch_told built_in own n kind)

  -- the faults of a definition, if `own` is what the definitions before it define
  abbrev pub definition_faults : DefinitionTree Place → List BuildFault
  definition_faults d =
      faults_at d (executable_told d) ++ (faults_at d (schema_told own d)
      ++ (faults_at d (type_collision_told built_in own d) ++ faults_at d (scalar_redefinition_told built_in d)))

  -- the faults of an extension, if `own` is what the whole list defines
  abbrev pub extension_faults : DefinitionTree Place → List BuildFault
  extension_faults d = faults_at d (orphan_schema_told (schema_seen built_in own) d) ++ (faults_at d (orphan_type_told built_in own d) ++ faults_at d (kind_mismatch_told built_in own d))

-- the faults of all definitions by position, and then those of all extensions
abbrev pub collision_faults : DefinedKinds → Definitions → List BuildFault
collision_faults built_in texts = each_place (λ before d. definition_faults built_in (seen_of before) d) texts

abbrev pub misplaced_faults : Definitions → Definitions → List BuildFault
misplaced_faults built_in texts = collision_faults (seen_of built_in) texts ++ flat_map (extension_faults (seen_of built_in) (seen_of texts)) texts
