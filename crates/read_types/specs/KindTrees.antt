-- Private: leads to `definition_of` and `extension_of` of the grammar. What a definition says after its description, and an extension after `extend`, as a tree of the grammar.
use Rattle.graphql_names.specs.Placed.{Place}
use Rattle.read_operations.specs.in_definitions.DefinitionTree.{schema_extension_parts, scalar_extension_parts, object_extension_parts, interface_extension_parts, union_extension_parts, enum_extension_parts, input_object_extension_parts}
use Rattle.read_grammar.specs.TypeSystemGrammar.{KindTree, SchemaKind, ScalarKind, ObjectKind, InterfaceKind, UnionKind, EnumKind, InputObjectKind}
use Rattle.read_types.specs.declared.kind.Kind.{Kind}
use Rattle.read_types.specs.declared.kind.Kind.TheVariants as rust

abbrev pub kind_tree : Kind → KindTree Place
kind_tree (rust.Schema parts) = SchemaKind (schema_extension_parts parts)
kind_tree (rust.Scalar parts) = ScalarKind (scalar_extension_parts parts)
kind_tree (rust.Object parts) = ObjectKind (object_extension_parts parts)
kind_tree (rust.Interface parts) = InterfaceKind (interface_extension_parts parts)
kind_tree (rust.Union parts) = UnionKind (union_extension_parts parts)
kind_tree (rust.Enum parts) = EnumKind (enum_extension_parts parts)
kind_tree (rust.InputObject parts) = InputObjectKind (input_object_extension_parts parts)
