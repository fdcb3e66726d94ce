-- The argument definitions and input fields of a schema, each with its place (GraphQL, October 2021, sections 3.6.1, 3.10 and 3.13).
use Rattle.std.specs.Prelude.{◌++◌, map, flat_map}
use Rattle.graphql_names.specs.Placed.{Place}
use Rattle.tree_directives.specs.DirectiveTree.{InputValues}
use Rattle.schema_types.specs.SchemaTree.{SchemaType, SchemaTree}

-- those of a type: the arguments of its fields, and its input fields
abbrev pub inputs_of_type : SchemaType Place → InputValues Place
inputs_of_type t = flat_map (λ e. e.1.it.it.arguments) t.fields ++ map (λ e. e.1.it) t.inputs

-- those of a schema: of its types, and of the definitions of directives
abbrev pub inputs_of : SchemaTree Place → InputValues Place
inputs_of s = flat_map (λ e. inputs_of_type e.1) s.types ++ flat_map (λ e. e.1.it.arguments) s.directives
