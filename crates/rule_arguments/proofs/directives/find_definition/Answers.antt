use Rattle.std.proofs.Common.{ap, ◌∙◌}
use Rattle.graphql_names.specs.Placed.{node_tree}
use Rattle.rule_values.specs.in_schema.SchemaOf.{schema_tree}
use Rattle.rule_values.specs.in_schema.in_schema_types.Addresses.{directive_definition_at}
use Rattle.tree_directives.specs.DirectiveTree.{directive_definition_tree}
use Rattle.rule_values.proofs.in_schema.Lookups.{got}
use Rattle.rule_arguments.proofs.directives.find_definition.Goals as goal

pub returns : goal.returns
returns c =
    got (node_tree directive_definition_tree) c.args.name.now c.schema.result.now.directive_definitions c.get.result c.get.ensures.value
    ∙ ap (λ s. directive_definition_at (schema_tree s) c.args.name.now.text) c.schema.ensures
