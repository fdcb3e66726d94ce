-- Private: leads to `folded_schema`. What contracts see of schema definitions and extensions, of what is collected and of what is kept.
use Rattle.std.specs.Prelude.{List, map}
use Rattle.std.specs.Option.{option_map}
use Rattle.graphql_names.specs.Node.{content, place}
use Rattle.graphql_names.specs.declared.node.Node.{Node}
use Rattle.graphql_names.specs.declared.name.Name.{Name}
use Rattle.graphql_names.specs.Placed.{Place, text_tree}
use Rattle.tree_directives.specs.DirectiveTree.{directive_tree}
use Rattle.tree_directives.specs.declared.operation_type.OperationType.{OperationType}
use Rattle.schema_fold.specs.in_definitions.DefinitionTree.{root_tree, schema_parts}
use Rattle.tree_input_types.specs.declared.schema.SchemaDefinition.{SchemaDefinition}
use Rattle.schema_components.specs.Given.{Given, component_tree, component_name_tree}
use Rattle.schema_components.specs.declared.component.Component.{Component}
use Rattle.schema_components.specs.Applied.{applied_tree}
use Rattle.schema_fold.specs.in_schema_types.SchemaTree.{SchemaRoots}
use Rattle.schema_fold.specs.in_schema_types.declared.schema_definition.SchemaDefinition.{SchemaDefinition as Made}
use Rattle.schema_fold.specs.SchemaFold.{Root, SchemaGiver}
use Rattle.schema_fold_roots.specs.RootFold.{AllOfSchema, RootNames}
use Rattle.schema_fold_roots.specs.declared.given.SchemaComponents.{SchemaComponents}
use Rattle.schema_fold_roots.specs.declared.roots.Roots.{Roots}

abbrev pub schema_giver : Node SchemaDefinition → SchemaGiver
schema_giver n = record { place = place n; description = option_map text_tree (content n).description; parts = schema_parts (content n) }

-- roots as contracts see them
abbrev pub roots_given_by : List (Component (OperationType × Name)) → List (Given Place Root)
roots_given_by cs = map (component_tree root_tree) cs

abbrev pub all_of_schema : SchemaComponents → AllOfSchema
all_of_schema c = record { directives = map (component_tree directive_tree) c.directives.items; roots = roots_given_by c.roots.items }

-- a schema definition with that place
abbrev pub schema_made : Place → Made → SchemaRoots Place
schema_made p s = record {
  place = p;
  description = option_map text_tree s.description;
  directives = applied_tree s.directives;
  query = option_map component_name_tree s.query;
  mutation = option_map component_name_tree s.mutation;
  subscription = option_map component_name_tree s.subscription;
}

abbrev pub root_names : Roots → RootNames
root_names r = record { query = option_map component_name_tree r.query; mutation = option_map component_name_tree r.mutation; subscription = option_map component_name_tree r.subscription }
