-- A definition that defines a type extends none.
use Rattle.std.proofs.Common.{◌≡◌, None, Some, refl}
use Rattle.graphql_names.specs.Placed.{Place}
use Rattle.schema_fold.specs.in_definitions.DefinitionTree as tree
use Rattle.schema_fold.specs.in_definitions.DefinitionTree.{DefinitionTree}
use Rattle.schema_fold.specs.in_schema_types.TypeParts.{TypeDefinition, type_here, type_extension_here}

pub defines_extends_none : (d : DefinitionTree Place) (t : TypeDefinition Place) → type_here d ≡ Some t → type_extension_here d ≡ None
defines_extends_none (tree.Operation p x) t is = refl
defines_extends_none (tree.Fragment p x) t is = refl
defines_extends_none (tree.DirectiveDefinition p x) t is = refl
defines_extends_none (tree.Schema p x y) t is = refl
defines_extends_none (tree.ScalarType p x y) t is = refl
defines_extends_none (tree.ObjectType p x y) t is = refl
defines_extends_none (tree.InterfaceType p x y) t is = refl
defines_extends_none (tree.UnionType p x y) t is = refl
defines_extends_none (tree.EnumType p x y) t is = refl
defines_extends_none (tree.InputObjectType p x y) t is = refl
defines_extends_none (tree.ExtendSchema p x) t is = refl
defines_extends_none (tree.ExtendScalar p x) t is = absurd cc
defines_extends_none (tree.ExtendObject p x) t is = absurd cc
defines_extends_none (tree.ExtendInterface p x) t is = absurd cc
defines_extends_none (tree.ExtendUnion p x) t is = absurd cc
defines_extends_none (tree.ExtendEnum p x) t is = absurd cc
defines_extends_none (tree.ExtendInputObject p x) t is = absurd cc
