use Rattle.std.proofs.Common.{Bor, ap, ◌∙◌}
use Rattle.graphql_coords.specs.LookUpView.{answer}
use Rattle.graphql_coords.specs.declared.lookup_answers.SchemaLookupError.TheVariants as error
use Rattle.graphql_schema.proofs.Lookups.{got}
use Rattle.graphql_coords.proofs.Answering.{answer_ok_or}
use Rattle.graphql_names.specs.declared.node.Node.{Node}
use Rattle.graphql_names.specs.Placed.{node_tree}
use Rattle.tree_directives.specs.DirectiveTree.{directive_definition_tree}
use Rattle.tree_directives.specs.declared.directive.DirectiveDefinition.{DirectiveDefinition}
use Rattle.graphql_coords.proofs.find.find_directive.Goals as goal

pub returns : goal.returns
returns c =
    let view = λ (d : Bor (Node DirectiveDefinition)). node_tree directive_definition_tree d.now in
    ap (answer view) c.ok_or.ensures.value
    ∙ answer_ok_or view (error.MissingType c.args.name) c.get-found.result _ (got (node_tree directive_definition_tree) c.args.name.now c.args.schema.now.directive_definitions c.get-found.result c.get-found.ensures.value)
