-- Private: leads to `folded_types` and `Fails` of `schema_fold`. The steps over a list, as the program has it.
use Rattle.std.specs.Prelude.{◌≡◌, List, ◌++◌, map, Vec, option_to_list}
use Rattle.std.specs.List.{flat_map}
use Rattle.std.specs.declared.alloc.Global.{Global}
use Rattle.indexmap.specs.IndexMap.{IndexMap}
use Rattle.graphql_names.specs.NameValue.{NameValue}
use Rattle.graphql_names.specs.Placed.{Place}
use Rattle.schema_fold_index.specs.in_definitions.DefinitionTree.{DefinitionTree, definition_tree}
use Rattle.schema_fold_index.specs.in_schema_types.SchemaView.{types_view}
use Rattle.schema_fold_index.specs.in_schema_types.TypeParts.{TypeDefinition, type_here}
use Rattle.schema_fold_index.specs.in_schema_types.declared.extended_type.ExtendedType.{ExtendedType}
use Rattle.schema_fold_index.specs.in_fold.BuildErrors.{BuildFault}
use Rattle.schema_fold_index.specs.in_fold.FaultView.{faults_of}
use Rattle.schema_fold_index.specs.in_fold.NumberedDefinition.{Definitions, definitions_of}
use Rattle.schema_fold_index.specs.in_fold.ListedView.{listed_view}
use Rattle.schema_fold_index.specs.in_fold.declared.build_error.BuildError.{BuildError}
use Rattle.schema_fold_index.specs.in_fold.declared.numbered_definition.NumberedDefinition.{NumberedDefinition}
use Rattle.schema_fold_index.specs.in_fold.declared.parts.Parts.{Parts}
use Rattle.schema_fold_index.specs.Index.{extensions_under, defined_at}
use Rattle.schema_fold_index.specs.declared.index.Positions.{Positions}
use Rattle.schema_fold_types.specs.Filing.{FoldsOn}
use Rattle.schema_fold_types.specs.TextDefinitionsView.{is_defined_before}
use Rattle.schema_fold_types.specs.DefinedKinds.{DefinedKinds, definition_faults_after, extension_faults, type_extension_faults}
use Rattle.schema_fold_types.specs.declared.collisions.Before.{Before}
use Rattle.schema_fold_types.specs.declared.types.Extended.{Extended}

-- a list of faults, as the program has it
abbrev pub Faults : Type 0
Faults = Vec (Place × BuildError) Global

-- the new faults are the old ones followed by these
abbrev pub AddsFaults : Faults → Faults → List BuildFault → Type 0
AddsFaults old new these = faults_of new ≡ faults_of old ++ these

-- the definitions of a list
abbrev pub definitions_listed : List NumberedDefinition → Definitions
definitions_listed list = definitions_of (map listed_view list)

-- the faults of a definition, given those before it
abbrev pub faults_after : DefinedKinds → Before → DefinitionTree Place → List BuildFault
faults_after built_in before d = definition_faults_after built_in before.schema (is_defined_before before) d

-- the faults of an extension of a type at that place
abbrev pub faults_of_extension : DefinedKinds → DefinedKinds → Place → Parts → List BuildFault
faults_of_extension built_in own place parts = type_extension_faults built_in own place parts.name.now.text parts.kind

-- the faults of all extensions of a list
abbrev pub all_extension_faults : DefinedKinds → DefinedKinds → List NumberedDefinition → List BuildFault
all_extension_faults built_in own list = flat_map (extension_faults built_in own) (definitions_listed list)

-- the type that is defined here, if one is
abbrev pub defined_here : NumberedDefinition → List (TypeDefinition Place)
defined_here listed = option_to_list (type_here (definition_tree listed.definition))

-- the definitions of types at the first position of each entry
abbrev pub defined_filed : List NumberedDefinition → List Positions → List (TypeDefinition Place)
defined_filed list filed = flat_map (λ f. defined_at (definitions_listed list) f.first) filed

-- if the types and faults were those of some definitions, with the filed extensions, they are now those of these followed by `more`
abbrev pub FoldsMore : {S : Type 0} → Extended → List (TypeDefinition Place) → IndexMap NameValue ExtendedType S → Faults → IndexMap NameValue ExtendedType S → Faults → Type 0
FoldsMore extended more types faults types' faults' = FoldsOn (extensions_under (map listed_view extended.texts.now) extended.filed.now.entries) more (types_view types) (faults_of faults) (types_view types') (faults_of faults')
