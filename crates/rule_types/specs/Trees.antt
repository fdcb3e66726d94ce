-- Private: leads to `TypesBreak`. What the rules are given, as contracts see it.
use Rattle.std.specs.Prelude.{List, map, Option}
use Rattle.std.specs.Option.{option_map}
use Rattle.graphql_names.specs.Placed.{Placed, Place, Text, node_tree}
use Rattle.graphql_names.specs.declared.node.Node.{Node}
use Rattle.tree_directives.specs.DirectiveTree.{InputValueTree, InputValues, DirectiveDefinitionTree, input_value_tree, directive_definition_tree}
use Rattle.tree_directives.specs.declared.directive.DirectiveDefinition.{DirectiveDefinition}
use Rattle.tree_directives.specs.declared.input_value.InputValueDefinition.{InputValueDefinition}
use Rattle.tree_type_members.specs.TypeSystemTree.{FieldDefinitionTree, field_definition_tree}
use Rattle.tree_type_members.specs.declared.field_definition.FieldDefinition.{FieldDefinition}
use Rattle.schema_components.specs.Given.{Given, component_name_tree}
use Rattle.schema_components.specs.declared.component_name.ComponentName.{ComponentName}
use Rattle.schema_types.specs.SchemaTree.{SchemaTree}
use Rattle.graphql_schema.specs.SchemaOf.{schema_tree}
use Rattle.rule_types.specs.declared.rule_context.RuleContext.{RuleContext}

-- the schema that is judged
abbrev pub schema_of : RuleContext → SchemaTree Place
schema_of judging = schema_tree judging.schema.now

-- an argument definition or input field; below, all of a list
abbrev pub input_tree : Node InputValueDefinition → Placed Place (InputValueTree Place)
input_tree v = node_tree input_value_tree v

abbrev pub input_trees : List (Node InputValueDefinition) → InputValues Place
input_trees vs = map (node_tree input_value_tree) vs

abbrev pub field_tree : Node FieldDefinition → Placed Place (FieldDefinitionTree Place)
field_tree f = node_tree field_definition_tree f

abbrev pub directive_tree : Node DirectiveDefinition → Placed Place (DirectiveDefinitionTree Place)
directive_tree d = node_tree directive_definition_tree d

-- a root, if it is defined
abbrev pub root_tree : Option ComponentName → Option (Given Place (Text Place))
root_tree root = option_map component_name_tree root
