-- What contracts see of the faults of folding.
use Rattle.std.specs.Prelude.{ℕ, List, map, Vec}
use Rattle.std.specs.declared.alloc.Global.{Global}
use Rattle.graphql_names.specs.Placed.{Place}
use Rattle.schema_fold.specs.BuildErrors as breach
use Rattle.schema_fold.specs.BuildErrors.{Breach, BuildFault}
use Rattle.schema_fold.specs.declared.build_error.BuildError.{BuildError}
use Rattle.schema_fold.specs.declared.build_error.BuildError.TheVariants as rust
use Rattle.schema_fold.specs.declared.build_error.Repeat.{Repeat}
use Rattle.schema_fold.specs.declared.build_error.Repeat.TheVariants as repeat

abbrev pub breach_of : BuildError → Breach
breach_of rust.ExecutableDefinition = breach.ExecutableDefinition
breach_of rust.SchemaDefinitionCollision = breach.SchemaDefinitionCollision
breach_of (rust.DirectiveDefinitionCollision n) = breach.DirectiveDefinitionCollision n.text
breach_of (rust.TypeDefinitionCollision n) = breach.TypeDefinitionCollision n.text
breach_of (rust.BuiltInScalarTypeRedefinition n) = breach.BuiltInScalarTypeRedefinition n.text
breach_of rust.OrphanSchemaExtension = breach.OrphanSchemaExtension
breach_of (rust.OrphanTypeExtension n) = breach.OrphanTypeExtension n.text
breach_of (rust.TypeExtensionKindMismatch n) = breach.TypeExtensionKindMismatch n.text
breach_of (rust.DuplicateRootOperation o) = breach.DuplicateRootOperation o
breach_of (rust.DuplicateImplementsInterfaceInObject t n) = breach.DuplicateImplementsInterfaceInObject t.text n.text
breach_of (rust.DuplicateImplementsInterfaceInInterface t n) = breach.DuplicateImplementsInterfaceInInterface t.text n.text
breach_of (rust.ObjectFieldNameCollision t n) = breach.ObjectFieldNameCollision t.text n.text
breach_of (rust.InterfaceFieldNameCollision t n) = breach.InterfaceFieldNameCollision t.text n.text
breach_of (rust.EnumValueNameCollision t n) = breach.EnumValueNameCollision t.text n.text
breach_of (rust.UnionMemberNameCollision t n) = breach.UnionMemberNameCollision t.text n.text
breach_of (rust.InputFieldNameCollision t n) = breach.InputFieldNameCollision t.text n.text

abbrev pub fault_of : Place × BuildError → BuildFault
fault_of f = record { place = f.0; breach = breach_of f.1 }

abbrev pub faults_of : Vec (Place × BuildError) Global → List BuildFault
faults_of faults = map fault_of faults.items

-- the breach of a second component of one name in a type, given the names of the type and the component
abbrev pub repeat_breach : Repeat → List ℕ → List ℕ → Breach
repeat_breach repeat.ObjectInterface = breach.DuplicateImplementsInterfaceInObject
repeat_breach repeat.InterfaceInterface = breach.DuplicateImplementsInterfaceInInterface
repeat_breach repeat.ObjectField = breach.ObjectFieldNameCollision
repeat_breach repeat.InterfaceField = breach.InterfaceFieldNameCollision
repeat_breach repeat.EnumValue = breach.EnumValueNameCollision
repeat_breach repeat.UnionMember = breach.UnionMemberNameCollision
repeat_breach repeat.InputField = breach.InputFieldNameCollision
