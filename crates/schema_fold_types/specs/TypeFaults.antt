-- Private: leads to `Fails` of `schema_fold`. The faults of all types, and the rules that they break.
use Rattle.std.specs.Prelude.{ℕ, List}
use Rattle.std.specs.List.{flat_map}
use Rattle.graphql_names.specs.Placed.{Place}
use Rattle.schema_fold_index.specs.in_components.Lists.{firsts}
use Rattle.schema_fold_index.specs.in_schema_types.TypeParts.{TypeDefinition}
use Rattle.schema_fold_index.specs.in_fold.NumberedDefinition.{Definitions, NumberedDefinition, numbered, type_name, types_in}
use Rattle.schema_fold_index.specs.in_fold.Components.{parts_of}
use Rattle.schema_fold_index.specs.in_fold.Collected.{collected_from}
use Rattle.schema_fold_index.specs.in_fold.Kept.{component_faults}
use Rattle.schema_fold_index.specs.in_fold.BuildErrors as breach
use Rattle.schema_fold_index.specs.in_fold.BuildErrors.{Breach, BuildFault, DuplicateImplementsInterfaceInObjectIn, DuplicateImplementsInterfaceInInterfaceIn, ObjectFieldNameCollisionIn, InterfaceFieldNameCollisionIn, EnumValueNameCollisionIn, UnionMemberNameCollisionIn, InputFieldNameCollisionIn}

-- the faults that folding a type tells
abbrev pub faults_of_type : List NumberedDefinition → TypeDefinition Place → List BuildFault
faults_of_type list t = component_faults t.parts.kind t.parts.name.it (collected_from (parts_of list t))

-- the faults that folding all types tells
abbrev pub faults_of_types : ℕ → Definitions → List BuildFault
faults_of_types first ds = flat_map (faults_of_type (numbered first ds)) (firsts type_name (types_in ds))

-- a rule on the components of a type is broken with this fault
pub data FailsInType (built_in texts : Definitions) (first : ℕ) (fault : BuildFault) : Type 0 where
  duplicate_implements_interface_in_object : DuplicateImplementsInterfaceInObjectIn built_in texts first fault → FailsInType built_in texts first fault
  duplicate_implements_interface_in_interface : DuplicateImplementsInterfaceInInterfaceIn built_in texts first fault → FailsInType built_in texts first fault
  object_field_name_collision : ObjectFieldNameCollisionIn built_in texts first fault → FailsInType built_in texts first fault
  interface_field_name_collision : InterfaceFieldNameCollisionIn built_in texts first fault → FailsInType built_in texts first fault
  enum_value_name_collision : EnumValueNameCollisionIn built_in texts first fault → FailsInType built_in texts first fault
  union_member_name_collision : UnionMemberNameCollisionIn built_in texts first fault → FailsInType built_in texts first fault
  input_field_name_collision : InputFieldNameCollisionIn built_in texts first fault → FailsInType built_in texts first fault

-- the breach is of a rule on the components of a type, and that rule is broken with this fault
abbrev pub ComponentRule : Definitions → Definitions → ℕ → Breach → BuildFault → Type 0
ComponentRule built_in texts first (breach.DuplicateImplementsInterfaceInObject t n) fault = DuplicateImplementsInterfaceInObjectIn built_in texts first fault
ComponentRule built_in texts first (breach.DuplicateImplementsInterfaceInInterface t n) fault = DuplicateImplementsInterfaceInInterfaceIn built_in texts first fault
ComponentRule built_in texts first (breach.ObjectFieldNameCollision t n) fault = ObjectFieldNameCollisionIn built_in texts first fault
ComponentRule built_in texts first (breach.InterfaceFieldNameCollision t n) fault = InterfaceFieldNameCollisionIn built_in texts first fault
ComponentRule built_in texts first (breach.EnumValueNameCollision t n) fault = EnumValueNameCollisionIn built_in texts first fault
ComponentRule built_in texts first (breach.UnionMemberNameCollision t n) fault = UnionMemberNameCollisionIn built_in texts first fault
ComponentRule built_in texts first (breach.InputFieldNameCollision t n) fault = InputFieldNameCollisionIn built_in texts first fault
ComponentRule built_in texts first _ fault = ⊥
